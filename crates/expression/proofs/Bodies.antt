-- The answer and the lent bytes, where the checks of the nodes have passed.
use Prim.Native.Nat.{ℕ, ◌+◌, ◌*◌, ◌<◌, ◌≤◌}
use mathlib.Core.Path.{◌≡◌, refl, sym, ◌∙◌}
use mathlib.Core.Bool.{cond}
use mathlib.Core.List.{List}
use native.Mathlib.Omega.{arith}
use lib.Dec.{ltb}
use lib.ListN.{length}
use lib.Seq.{sets, sets-eq}
use borrow.Author.Tests.{lt-ltb, le-ltb}
use Rattle.std.specs.Prelude.{Ok, Err}
use Rattle.report.specs.declared.Refusal.{Refusal}
use Rattle.report.specs.declared.Refusal.TheVariants as refusal
use Rattle.theory.proofs.Counts.{transitions_le}
use Rattle.expression.specs.Table.{node, count, check_of, WellFormed}
use Rattle.expression.specs.Body.{four_of, chart_transitions, body_of, written_of, buffer_of}
use Rattle.expression.proofs.Table.{tree, well_formed→passed}
use Rattle.expression.proofs.Stores.{length_flat}

pub body_long : (s : List ℕ) → length (body_of s) ≡ 4 + 4 * length (chart_transitions s)
unfolding body_of four_of
body_long s = let l = length_flat (chart_transitions s) in omega arith

pub chart_few : (s : List ℕ) → WellFormed s → length (chart_transitions s) ≤ 8192
unfolding chart_transitions
chart_few s w = transitions_le (node s) (count s) (tree s w) w.sized.few

-- the refusal of the nodes
pub refused : (s out : List ℕ) (p : Refusal) → check_of s ≡ Err p → (Err p ≡ written_of s (length out)) × (out ≡ buffer_of s out)
unfolding buffer_of written_of
refused s out p e = rw e (refl, refl)

module _ (s : List ℕ) (w : WellFormed s) (out : List ℕ) where
  answer : written_of s (length out) ≡ cond (ltb (length out) (length (body_of s))) (Err (refusal.OutputLength (length (body_of s)))) (Ok (length (body_of s)))
  unfolding written_of
  answer = rw (well_formed→passed s w)

  -- 54
  module _ (needed : ℕ) (e : needed ≡ length (body_of s)) where
    pub short : length out < needed → (Err (refusal.OutputLength needed) ≡ written_of s (length out)) × (out ≡ buffer_of s out)
    unfolding buffer_of
    short h = (sym too_long, rw too_long)
      where
        too_long : written_of s (length out) ≡ Err (refusal.OutputLength needed)
        too_long = answer ∙ rw (lt-ltb (length out) (length (body_of s)) (omega arith), e)

    pub done : needed ≤ length out → (b : List ℕ) → b ≡ sets out 0 (body_of s) → (Ok needed ≡ written_of s (length out)) × (b ≡ buffer_of s out)
    unfolding buffer_of
    done h b eb = (sym long, eb ∙ sets-eq (body_of s) out 0 (omega arith) ∙ rw long (let z : 0 + length (body_of s) ≡ length (body_of s) = omega arith in rw z))
      where
        long : written_of s (length out) ≡ Ok needed
        long = answer ∙ rw (le-ltb (length out) (length (body_of s)) (omega arith), e)
