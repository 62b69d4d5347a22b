-- On a connected chart, checks 32 to 35 say exactly that the labelling is a witness.
use mathlib.Core.Path.{◌≡◌, sym, ◌∙◌}
use mathlib.Core.Logic.{◌≢◌, inl, inr, ◌↔◌}
use Prim.Native.Nat.{ℕ, zero, suc, ◌<◌}
use native.Mathlib.Omega.{arith}
use Rattle.theory.specs.Paths.{Star, here, step, Plus, last, more, Endless, Returns}
use Rattle.theory.specs.Charts.{Steps, SameSteps, Formed, Any, Branch, Loop}
use Rattle.theory.specs.LoopCharts.{InLoop, entry, other, LoopChart}
use Rattle.theory.specs.Witnesses.{Witness, Connected}
use Rattle.theory.specs.Checks.{Passed}
use Rattle.theory.proofs.Paths.{plus_star, star_cases, star_map, plus_map, endless_step, endless_step_at, endless_from, endless_cast, cycle_endless, return_cycle}
use Rattle.theory.proofs.Cycles.{endless_iff, L2_iff}
use Rattle.theory.proofs.Rounds.{off_start, round_below, round_map}

module _ {size : ℕ} {S : Steps} (formed : Formed size S) where
  pub loop_to : (v l u w : ℕ) → InLoop S v l u w → w < size
  loop_to v l = round_below size (λ w. formed.to_vertex v l w) (λ u w. formed.to_vertex u 0 w)

  -- no infinite branch path from any vertex
  pub passed_no_endless : Passed S → (u : ℕ) → ¬ Endless (Branch S) u
  passed_no_endless c u p = let (w, q, r) = (endless_iff size (λ x y. formed.to_vertex x 0 y) u).0 p in c.c32 w r

  passed_returns : Passed S → (v l : ℕ) → Returns (InLoop S v l) v
  passed_returns c v l = (L2_iff size (loop_to v l) v).1 (λ (w, q, r). c.c32 w (plus_map (λ x y e. off_start e.0 e.1) r))

  pub loop_not_end : {v l : ℕ} → Loop S v l → v ≢ 0
  loop_not_end (b, w, e) z = omega (arith, (formed.from_vertex _ _ _ e).0)

  pub passed_loop_chart : Passed S → (v l : ℕ) → Loop S v l → LoopChart (InLoop S v l) v
  passed_loop_chart c v l o = record {
    L1 = cycle_endless (c.loops v l o).c33;
    L2 = passed_returns c v l;
    L3 = λ p. elim (star_cases p) [ inl e ↦ loop_not_end o e | inr q ↦ (c.loops v l o).c34 q ];
  }

  pub passed_witness : (start : ℕ) → Passed S → Witness S start
  passed_witness start c = record { W1 = passed_no_endless c start; W2a = passed_loop_chart c; W2b = λ v l o. (c.loops v l o).c35 }

  -- where no infinite branch path begins at u, none begins at what a transition from u leads to
  witness_step : {start u l w : ℕ} → Witness S start → S u l w → ¬ Endless (Branch S) u → ¬ Endless (Branch S) w
  witness_step {l = zero} c e h g = h (endless_step e g)
  witness_step {u = u} {l = suc l} {w = w} c e h g = never (λ (k, q). h (endless_cast q (endless_from g k)))
    where
      never : ¬ ((k : ℕ) × (g.at k ≡ u)) → ⊥
      never none =
          let g' : Endless (InLoop S u (suc l)) w = record { at = g.at; first = g.first; next = λ k. other (λ q. none (k, q)) (g.next k) } in
          let (k, q) = (c.W2a u (suc l) (omega arith, w, e)).L2 (endless_step (entry e) g') in
          none (k, sym (endless_step_at u (entry e) g' k) ∙ q)

  witness_along : {start u w : ℕ} → Witness S start → Star (Any S) u w → ¬ Endless (Branch S) u → ¬ Endless (Branch S) w
  witness_along c here h = h
  witness_along c (step (l, e) p) h = witness_along c p (witness_step c e h)

  branch_from : {u w : ℕ} → Plus (Branch S) u w → (0 < u) × (u < size)
  branch_from (last e) = formed.from_vertex _ _ _ e
  branch_from (more e p) = formed.from_vertex _ _ _ e

  pub witness_passed : (start : ℕ) → Connected size S start → Witness S start → Passed S
  witness_passed start reach c = record {
    c32 = λ w p. let b = branch_from p in witness_along c (reach w b.0 b.1) c.W1 (cycle_endless p);
    loops = λ v l o. record {
      c33 = let (k, q) = (c.W2a v l o).L2 (c.W2a v l o).L1 in return_cycle (c.W2a v l o).L1 k q;
      c34 = λ p. (c.W2a v l o).L3 (plus_star p);
      c35 = c.W2b v l o;
    };
  }

  pub passed_iff_witness : (start : ℕ) → Connected size S start → Passed S ↔ Witness S start
  passed_iff_witness start reach = (passed_witness start, witness_passed start reach)

-- the checks go by which transitions there are, however that is stated
module _ {R S : Steps} (same : SameSteps R S) where
  from_loop : (v l u w : ℕ) → InLoop S v l u w → InLoop R v l u w
  from_loop v l = round_map (λ w e. (same v l w).1 e) (λ u w e. (same u 0 w).1 e)

  from_entries : (v l : ℕ) → Loop S v l → Loop R v l
  from_entries v l (b, w, e) = (b, w, (same v l w).1 e)

  pub passed_same : Passed R → Passed S
  passed_same c = record {
    c32 = λ w p. c.c32 w (plus_map (λ u x e. (same u 0 x).1 e) p);
    loops = λ v l o.
        let k = c.loops v l (from_entries v l o) in
        record {
          c33 = plus_map (round_map (λ w e. (same v l w).0 e) (λ u w e. (same u 0 w).0 e)) k.c33;
          c34 = λ p. k.c34 (plus_map (from_loop v l) p);
          c35 = λ w h p m n. k.c35 w h (star_map (from_loop v l) p) m (from_entries w m n);
        };
  }
