-- The transitions that leave a vertex, proved.
use mathlib.Core.Path.{◌≡◌, refl}
use mathlib.Core.List.{List, []}
use Prim.Native.Nat.{ℕ}
use Rattle.std.specs.Prelude.{Result, Ok, Err}
use Rattle.report.specs.declared.Refusal.{Refusal}
use Rattle.bits.specs.Bits.{Bytes}
use Rattle.chart.specs.Bodies.{WellFormed}
use Rattle.chart.specs.Checks.{check_of}
use Rattle.chart.specs.Leaving.{leaving_of}
use Rattle.chart.proofs.Checks.{well_formed, passes}
use Rattle.chart.proofs.Parts.{leaving_is_part, leaving_by_index, leaving_only, leaving_none, leaving_high, leaving_refused}
use Rattle.promises.specs.VertexTransitions.{HandedBack}

pub handed_back_lem : (b : List ℕ) → Bytes b → (v : ℕ) → HandedBack b v
handed_back_lem b B v = record {
  part = leaving_is_part b B v;
  transitions = λ W. leaving_by_index b B v (passes b W);
  only = λ W part P. leaving_only b B (passes b W) P;
  with_none = leaving_none b v;
  no_vertex = leaving_high b v;
  refused = λ n. at_check n (check_of b) refl;
}
  where
    at_check : ¬ WellFormed b → (x : Result Unit Refusal) → check_of b ≡ x → leaving_of b v ≡ []
    at_check n (Ok _) e = absurd (n (well_formed b e))
    at_check n (Err p) e = leaving_refused b v e
