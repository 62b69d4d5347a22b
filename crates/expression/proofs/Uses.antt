-- Counting the uses of every node in one pass.
use Prim.Native.Nat.{ℕ, zero, suc, ◌+◌, ◌*◌, ◌<◌, ◌≤◌}
use mathlib.Core.Path.{◌≡◌, refl, ap, sym, ◌∙◌}
use mathlib.Core.Bool.{Bool, true, false, cond, not}
use mathlib.Core.List.{List, [], ◌∷◌}
use native.Mathlib.Numerals.{add-one}
use native.Mathlib.Omega.{arith}
use lib.Dec.{eqb, ltb}
use lib.ListN.{length, get_or, take, replicate, length-set, length-replicate}
use lib.Seq.{length-take-le, get_or-set_same, get_or-set_other}
use borrow.Author.Tests.{eqb-true, eqb-false}
use Rattle.std.specs.Prelude.{Some, None, position}
use Rattle.std.specs.List.{position_or_len}
use Rattle.theory.specs.Tests as tests
use Rattle.theory.specs.Nodes.{Op, Node, bad, dead, leaf, bin, one, uses_in, uses}
use Rattle.expression.specs.Table.{kind_of, left_of, right_of, node, lowest_failing, uses_below, NodeAt}
use Rattle.expression.specs.Uses.{bump, tally, Tallied, AtMost, once_in}
use Rattle.expression.proofs.Table.{node_low}
use Rattle.expression.proofs.View.{at_dead, at_leaf_lem, at_bin_lem}

bump_at : (a : List ℕ) (l j : ℕ) → l < length a → get_or (bump a l) j 0 ≡ get_or a j 0 + one (eqb l j)
unfolding bump
bump_at a l j h = go (eqb l j) refl
  where
    go : (b : Bool) → eqb l j ≡ b → get_or (bump a l) j 0 ≡ get_or a j 0 + one b
    go true e = rw (← eqb-true l j e) (get_or-set_same a l (get_or a l 0 + 1) 0 h)
    go false e = get_or-set_other a l j (get_or a l 0 + 1) 0 (λ q. eqb-false l j e (sym q)) ∙ omega arith

bump_long : (a : List ℕ) (l : ℕ) {r : ℕ} → r < length a → r < length (bump a l)
unfolding bump
bump_long a l h = simp length-set h

tally_long : (v : Node) (a : List ℕ) → length (tally v a) ≡ length a
unfolding bump
tally_long bad a = refl
tally_long dead a = refl
tally_long (leaf x) a = refl
tally_long (bin o l r) a = simp length-set

tally_at : (v : Node) (a : List ℕ) (j : ℕ) → ((o : Op) (l r : ℕ) → v ≡ bin o l r → (l < length a) × (r < length a)) → get_or (tally v a) j 0 ≡ get_or a j 0 + uses_in v j
tally_at bad a j h = omega arith
tally_at dead a j h = omega arith
tally_at (leaf x) a j h = omega arith
tally_at (bin o l r) a j h =
    let b = h o l r refl in
    let p = bump_at a l j b.0 in
    let q = bump_at (bump a l) r j (bump_long a l b.1) in
    omega arith

module _ (s : List ℕ) (k : ℕ) (at : NodeAt s k) where
  pub tally_none : (a : List ℕ) → kind_of s k < 2 → a ≡ tally (node s k) a
  tally_none a h = go (eqb (kind_of s k) 0) refl
    where
      go : (b : Bool) → eqb (kind_of s k) 0 ≡ b → a ≡ tally (node s k) a
      go true e = rw (at_dead s k at.good (eqb-true (kind_of s k) 0 e))
      go false e = let d = eqb-false (kind_of s k) 0 e in rw (at_leaf_lem s k at.good (omega arith))

  pub tally_both : (a b d : List ℕ) (l r : ℕ) → 2 ≤ kind_of s k → l ≡ left_of s k → r ≡ right_of s k → b ≡ bump a l → d ≡ bump b r → d ≡ tally (node s k) a
  tally_both a b d l r h el er eb ed = rw (at_bin_lem s k at.good h) (ed ∙ rw (eb, el, er))

  -- one node more
  pub uses_next : (a b : List ℕ) → Tallied s k a → b ≡ tally (node s k) a → Tallied s (k + 1) b
  unfolding uses
  uses_next a b i e = record {
    long = rw e (tally_long (node s k) a ∙ i.long);
    each = λ j. rw (e, more j) (tally_at (node s k) a j low ∙ ap (λ x. x + uses_in (node s k) j) (i.each j));
  }
    where
      low : (o : Op) (l r : ℕ) → node s k ≡ bin o l r → (l < length a) × (r < length a)
      low o l r q = let z = node_low s k o l r q in let y = at.sized.few in let w = at.inside in let x = i.long in (omega arith, omega arith)

      more : (j : ℕ) → uses_below s (k + 1) j ≡ uses_below s k j + uses_in (node s k) j
      more j = rw (add-one k)

uses_le : (nd : ℕ → Node) (n j : ℕ) → uses nd n j ≤ 2 * n
unfolding uses
uses_le nd zero j = omega arith
uses_le nd (suc n) j = let i = uses_le nd n j in let h = by_one (nd n) in omega arith
  where
    le_one : (b : Bool) → one b ≤ 1
    le_one true = omega arith
    le_one false = omega arith

    by_one : (v : Node) → uses_in v j ≤ 2
    by_one bad = omega arith
    by_one dead = omega arith
    by_one (leaf x) = omega arith
    by_one (bin o l r) = let p = le_one (eqb l j) in let q = le_one (eqb r j) in omega arith

-- the first k nodes, m of them at most, use a node twice each at most
pub uses_few : (s : List ℕ) (k m : ℕ) (a : List ℕ) → k ≤ m → Tallied s k a → AtMost (2 * m) a
uses_few s k m a h i = record { each = λ j. let p = uses_le (node s) k j in let q = i.each j in omega arith }

no_uses : (s : List ℕ) (m j : ℕ) → get_or (replicate {A = ℕ} m 0) j 0 ≡ uses_below s 0 j
unfolding uses
no_uses s zero j = refl
no_uses s (suc m) zero = refl
no_uses s (suc m) (suc j) = no_uses s m j

pub uses_start : (s : List ℕ) → Tallied s 0 (replicate 128 0)
uses_start s = record { long = length-replicate {A = ℕ} 128 0; each = no_uses s 128 }

-- THE LOWEST that is not used once, as the first count that is not 1
first_from : (ok : ℕ → Bool) (a : List ℕ) (i m : ℕ) → m ≤ length a → ((k : ℕ) → k < m → ok (i + k) ≡ eqb (get_or a k 0) 1)
    → lowest_failing ok i m ≡ i + position_or_len (λ count. not (eqb count 1)) (take m a)
unfolding lowest_failing tests.lowest
first_from ok a i zero h f = omega arith
first_from ok [] i (suc m) h f = absurd (omega arith)
first_from ok (x ∷ a) i (suc m) h f =
    go (eqb x 1) refl (first_from ok a (suc i) m (omega arith) (λ k q. let z : i + suc k ≡ suc i + k = omega arith in rw z at (f (suc k) (omega arith))))
  where
    here : ok i ≡ eqb x 1
    here = let z : i + 0 ≡ i = omega arith in rw z at (f 0 (omega arith))

    go : (b : Bool) → eqb x 1 ≡ b → lowest_failing ok (suc i) m ≡ suc i + position_or_len (λ count. not (eqb count 1)) (take m a)
        → cond (not (ok i)) i (tests.lowest (λ k. not (ok k)) (suc i) m)
        ≡ i + cond (not (not (eqb x 1))) (1 + position_or_len (λ count. not (eqb count 1)) (take m a)) 0
    go true q rest = rw (here, q) (rest ∙ omega arith)
    go false q rest = rw (here, q) (omega arith)

pub first_misused : (a : List ℕ) (m : ℕ) → m ≤ length a
    → position (λ count. not (eqb count 1)) (take m a) ≡ cond (ltb (lowest_failing (once_in a) 0 m) m) (Some (lowest_failing (once_in a) 0 m)) None
unfolding once_in
first_misused a m h =
    let e = first_from (once_in a) a 0 m h (λ k q. let y : 0 + k ≡ k = omega arith in rw y) in
    let z : 0 + position_or_len (λ count. not (eqb count 1)) (take m a) ≡ position_or_len (λ count. not (eqb count 1)) (take m a) = omega arith in
    rw (e, z, length-take-le m a h)
