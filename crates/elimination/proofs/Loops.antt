-- What is broken of the chart of a loop is the rule's answer.
use Prim.Native.Nat.{ℕ}
use mathlib.Core.Logic.{◌⊎◌, inl, inr, ⊎_elim, ◌↔◌}
use Rattle.theory.specs.Paths.{Edges, Star, Endless, Returns}
use Rattle.theory.specs.Charts.{Steps, Formed, Any, Loop}
use Rattle.theory.specs.LoopCharts.{Around, Reached, Stray}
use Rattle.theory.specs.Removals.{Removes, done, refused_52}
use Rattle.theory.proofs.Paths.{star_map, plus_map}
use Rattle.theory.proofs.Rounds.{round_L1, round_L2, round_L3}
use Rattle.theory.proofs.Checks.{loop_not_end}
use Rattle.std.specs.Prelude.{Option, Some}
use Rattle.bits.specs.Sets.{Has}
use Rattle.elimination.specs.declared.walk.Stops.{Stops}
use Rattle.elimination.specs.declared.walk.Found.{Found}
use Rattle.elimination.specs.Loops.{Broken, first, second, third, Unbroken}
use Rattle.elimination.specs.Walks.{Meets, FoundIn, aside, whole, BrokenBy, found_first, found_second, found_third}

-- the same entries and the same other transitions reach the same, and break the same
module _ {v : ℕ} {Entry Entry' : ℕ → Type 0} {Other Other' : Edges} (entries : (w : ℕ) → Entry w ↔ Entry' w)
    (others : (u w : ℕ) → Other u w ↔ Other' u w) where
  pub reached_to : {w : ℕ} → Reached v Entry Other w → Reached v Entry' Other' w
  reached_to (x, e, p) = (x, (entries x).0 e, star_map (λ u y (n, f). (n, (others u y).0 f)) p)

  pub reached_from : {w : ℕ} → Reached v Entry' Other' w → Reached v Entry Other w
  reached_from (x, e, p) = (x, (entries x).1 e, star_map (λ u y (n, f). (n, (others u y).1 f)) p)

  stray_to : Stray v Entry Other → Stray v Entry' Other'
  stray_to (w, n, r, c) = (w, n, reached_to r, plus_map (λ u y (m, f). (m, (others u y).0 f)) c)

  stray_from : Stray v Entry' Other' → Stray v Entry Other
  stray_from (w, n, r, c) = (w, n, reached_from r, plus_map (λ u y (m, f). (m, (others u y).1 f)) c)

  pub broken_same : {r : ℕ} → Broken v Entry Other r → Broken v Entry' Other' r
  broken_same (first p n) = first (λ z. p (reached_from z)) (λ s. n (stray_from s))
  broken_same (second s) = second (stray_to s)
  broken_same (third p n q) = third (reached_to p) (λ s. n (stray_from s)) (reached_to q)

  pub unbroken_same : Unbroken v Entry Other → Unbroken v Entry' Other'
  unbroken_same u = record {
    returns = reached_to u.returns;
    none = λ s. u.none (stray_from s);
    not_end = λ z. u.not_end (reached_from z);
  }

-- WHAT A WALK FINDS BROKEN IS BROKEN, where the end was not past
pub broken_found : {Entry : ℕ → Type 0} {Other : Edges} {before : Stops} {found : Option Found} {r : ℕ}
    → FoundIn Entry Other before found → BrokenBy found r → Broken before.at Entry Other r
broken_found (whole W) (found_first n) = first (λ z. n (W.returns.1 z)) W.none
broken_found (aside s) found_second = second s
broken_found (whole W) (found_third m z) = third (W.returns.0 m) W.none (W.sound 0 z)

pub unbroken_found : {Entry : ℕ → Type 0} {Other : Edges} {before : Stops} {found : Found} → ¬ Has before.past 0
    → FoundIn Entry Other before (Some found) → Meets found.body found.stops.back → ¬ Has found.body 0
    → Unbroken before.at Entry Other
unbroken_found p (whole W) m n =
    record { returns = W.returns.0 m; none = W.none; not_end = λ z. ⊎_elim n p (W.all 0 z) }

-- WHAT IS BROKEN IS THE RULE'S ANSWER, over standing transitions R of vertices below size
module _ {size : ℕ} {R : Steps} (formed : Formed size R) {v l : ℕ} (loop : Loop R v l) where
  L1 : Endless (Around R v l) v ↔ (Reached v (R v l) (Any R) v ⊎ Stray v (R v l) (Any R))
  L1 = round_L1 size (λ w. formed.to_vertex v l w) (λ u w (m, e). formed.to_vertex u m w e)

  L2 : Returns (Around R v l) v ↔ (¬ Stray v (R v l) (Any R))
  L2 = round_L2 size (λ w. formed.to_vertex v l w) (λ u w (m, e). formed.to_vertex u m w e)

  L3 : Star (Around R v l) v 0 ↔ Reached v (R v l) (Any R) 0
  L3 = round_L3 (loop_not_end formed loop)

  pub nothing_broken : Unbroken v (R v l) (Any R) → Removes R v l done
  nothing_broken u =
      Removes.goes loop (record { L1 = L1.1 (inl u.returns); L2 = L2.1 u.none; L3 = λ s. u.not_end (L3.0 s) })

  pub first_broken : {r : ℕ} → Broken v (R v l) (Any R) r → Removes R v l (refused_52 v l r)
  first_broken (first p n) = Removes.breaks_L1 loop (λ z. ⊎_elim p n (L1.0 z))
  first_broken (second s) = Removes.breaks_L2 loop (L1.1 (inr s)) (λ back. L2.0 back s)
  first_broken (third p n q) = Removes.breaks_L3 loop (L1.1 (inl p)) (L2.1 n) (L3.1 q)
