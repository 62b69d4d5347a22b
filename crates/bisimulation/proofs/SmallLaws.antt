-- Small charts: what the loops keep, and that their pairs pass.
use mathlib.Core.Path.{◌≡◌, ◌∙◌}
use mathlib.Core.Logic.{◌⊎◌, ⊎_elim}
use mathlib.Core.List.{List}
use Prim.Native.Nat.{ℕ, ◌+◌, ◌/◌}
use native.Mathlib.Omega.{arith}
use lib.ListN.{get_or}
use Rattle.bits.specs.Words.{On}
use Rattle.bits.proofs.Members.{zero_off}
use Rattle.chart.specs.Bodies.{action_of, to_of}
use Rattle.chart.specs.Leaving.{Begins}
use Rattle.chart.specs.Numbered.{Lists}
use Rattle.chart.proofs.Order.{at_mid, between}
use Rattle.bisimulation.specs.Answers.{Related, Passes}
use Rattle.bisimulation.specs.Suspects.{row_at}
use Rattle.bisimulation.specs.Classes.{Stepped}
use Rattle.bisimulation.specs.Small.{StepFits, RowsPassBy}
use Rattle.bisimulation.proofs.RowLaws.{related_row, related_column}
use Rattle.bisimulation.proofs.StepLaws.{pair_passes_lem}

-- `fitting`: steps that match transition i; none at first, then step k where the code found it so, with x and y for the
-- action and the target that it read
pub record Fitting (keys relation body : List ℕ) (i found : ℕ) : Type 0 where
  pub each : (j : ℕ) → On found j → StepFits keys relation body i j

pub fitting_none : {keys relation body : List ℕ} {i : ℕ} → Fitting keys relation body i 0
fitting_none = record { each = λ j on. absurd (zero_off j on) }

pub fitting_more : {keys relation body : List ℕ} {i found : ℕ} (k r : ℕ) {x y : ℕ} → Fitting keys relation body i found
    → x ≡ action_of body i → y ≡ to_of body i
    → ((j : ℕ) → On r j → On found j ⊎ ((j ≡ k) × (get_or keys k 0 / 256 ≡ x) × Related relation (row_at keys k) y))
    → Fitting keys relation body i r
fitting_more {keys} {relation} {body} {i} k r {x} {y} F e f R = record { each = λ j h. ⊎_elim (F.each j) (new j) (R j h) }
  where
    new : (j : ℕ) → (j ≡ k) × (get_or keys k 0 / 256 ≡ x) × Related relation (row_at keys k) y → StepFits keys relation body i j
    new j (q, a, t) = rw q (record { action = a ∙ e; target = rw f at t })

-- every pair of a chart with these steps passes
pub small_pairs : {keys words body relation begins e : List ℕ} {m rows : ℕ} → Lists e keys words m
    → Stepped keys words m rows relation → Begins body begins → RowsPassBy keys words relation body begins rows
    → (u v : ℕ) → Related relation u v → Passes e body relation u v
small_pairs {relation = relation} {rows = rows} L S R A u v r =
    let (E, P) = A u (related_row relation rows u v S.whole r) v r in
    let low = related_column relation u v r in
    let begin = R.split v (omega arith) in
    let end = R.split (v + 1) (omega arith) in
    pair_passes_lem L E
    (λ k on. let (i, f, g, F) = P.matched k on in (i, omega (arith, end.within), at_mid begin end i f g, F))
    (λ j h f. let (a, b) = between begin end j h f in P.met j a b)
