-- The shortest way (document 02, C-11 and C-15), by the numbers, proved.
use mathlib.Core.Path.{refl}
use mathlib.Core.Logic.{inl, inr, by_cases}
use mathlib.Core.List.{List}
use Prim.Native.Nat.{ℕ}
use native.Mathlib.Decide.{dec_lt}
use native.Mathlib.Omega.{arith}
use Rattle.theory.proofs.Ways.{one_shortest, shortest_none}
use Rattle.std.specs.Prelude.{Ok, Err}
use Rattle.report.specs.declared.Refusal.TheVariants.{NoWay}
use Rattle.report.specs.Numbers.{four, length_numbers}
use Rattle.bits.specs.Bits.{Bytes}
use Rattle.chart.specs.Bodies.{vertices_of}
use Rattle.follower.specs.Ways.{events_to_end, shortest_list}
use Rattle.follower.specs.WayAnswers.{StatePasses, no_way, written}
use Rattle.follower.proofs.WayCalls.{spoilt_never, list_found, none_found, way_few, way_taken, way_says}
use Rattle.promises.specs.ShortestWay.{WayByNumbers, OfShortestWays}
use Rattle.promises.proofs.Numbered.{by_numbers}

pub way_numbers_lem : (b s out : List ℕ) → Bytes b → Bytes s → WayByNumbers b s out
way_numbers_lem b s out B D = by_numbers length_numbers (way_says b s out B D)

-- OF EVERY STATE THAT PASSES
pub of_shortest_ways : {b s : List ℕ} → Bytes b → Bytes s → StatePasses b s → OfShortestWays b s
of_shortest_ways {b} {s} B D P = record {
  found = by_cases (dec_lt (events_to_end b s) (vertices_of b))
      (λ h. inl (shortest_list b s, list_found B D P h)) (λ h. inr (none_found B D P (omega arith)));
  only = one_shortest;
  few = way_few B D P;
  taken = way_taken B D P;
  at_end_lem = λ u h. shortest_none (u, h);
  needs_none = λ u h out. (way_numbers_lem b s out B D (four 0 0 0 0) out).1
      (record { answer = Ok 0; meant = written P (shortest_none (u, h)) (omega arith); numbered = refl });
  spoilt_none = spoilt_never B D P;
  spoilt_55 = λ u out. (way_numbers_lem b s out B D (four 55 0 0 0) out).1
      (record { answer = (Err NoWay); meant = no_way P (spoilt_never B D P u); numbered = refl });
}
