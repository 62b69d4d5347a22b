-- What the code of the check has found, and its answer.
use Prim.Native.Nat.{ℕ, ◌-◌, ◌<◌, ◌≤◌}
use mathlib.Core.Path.{◌≡◌, refl, ◌∙◌}
use mathlib.Core.Bool.{Bool, true, false, cond, not}
use mathlib.Core.List.{List}
use native.Mathlib.Omega.{arith}
use lib.Dec.{eqb, ltb}
use lib.ListN.{length, get_or, take}
use borrow.Author.Tests.{lt-ltb, le-ltb}
use Rattle.std.specs.Prelude.{Option, Some, None, position, Ok, Err}
use Rattle.report.specs.declared.Refusal.TheVariants as refusal
use Rattle.expression.specs.Table.{count, length_ok, malformed, used_once, misused, check_of, Sized}
use Rattle.expression.specs.Uses.{Tallied, once_in}
use Rattle.expression.proofs.Table.{sizes←, lowest_same}
use Rattle.expression.proofs.Uses.{first_misused}

pub check_10 : (s : List ℕ) → length_ok s ≡ false → Err (refusal.NodesLength (length s)) ≡ check_of s
unfolding check_of
check_10 s e = rw e

module _ (s : List ℕ) (sized : Sized s) where
  pub check_11 : (k : ℕ) → k ≡ malformed s → k < count s → Err (refusal.Node k) ≡ check_of s
  unfolding check_of
  check_11 k e h = rw (sizes← s sized, lt-ltb (malformed s) (count s) (omega arith), e)

  module _ (good : count s ≤ malformed s) (a : List ℕ) (tallied : Tallied s (count s) a) where
    abbrev first_count : Option ℕ
    first_count = position (λ uses. not (eqb uses 1)) (take (count s - 1) a)

    found : first_count ≡ cond (ltb (misused s) (count s - 1)) (Some (misused s)) None
    unfolding misused once_in
    found =
        first_misused a (count s - 1) (omega (arith, tallied.long, sized.few))
        ∙ rw (lowest_same (once_in a) (used_once s) 0 (count s - 1) (λ i h. rw (tallied.each i)))

    -- where one is found, and where none is
    module _ (b : Bool) (e : ltb (misused s) (count s - 1) ≡ b) where
      at_found : (j : ℕ) → first_count ≡ Some j → (b ≡ true) × (j ≡ misused s)
      at_found j q = go b (rw e at found)
        where
          go : (b : Bool) → first_count ≡ cond b (Some (misused s)) None → (b ≡ true) × (j ≡ misused s)
          go true f = (refl, cc)
          go false f = absurd (let z : ◌≡◌ {A = ℕ} 0 1 = cc in omega arith)

      at_none : first_count ≡ None → b ≡ false
      at_none q = go b (rw e at found)
        where
          go : (b : Bool) → first_count ≡ cond b (Some (misused s)) None → b ≡ false
          go true f = absurd (let z : ◌≡◌ {A = ℕ} 0 1 = cc in omega arith)
          go false f = refl

    pub check_12 : (j : ℕ) → first_count ≡ Some j → Err (refusal.NodeUses j (get_or a j 0)) ≡ check_of s
    unfolding check_of
    check_12 j q =
        let (y, e) = at_found (ltb (misused s) (count s - 1)) refl j q in
        rw (sizes← s sized, le-ltb (malformed s) (count s) good, y, ← e, tallied.each j)

    pub check_passed : first_count ≡ None → (Ok tt) ≡ check_of s
    unfolding check_of
    check_passed q = rw (sizes← s sized, le-ltb (malformed s) (count s) good, at_none (ltb (misused s) (count s - 1)) refl q)
