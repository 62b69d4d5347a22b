-- What the code of 51 and 52 finds is the rule's answer.
use Prim.Native.Nat.{ℕ, ◌<◌}
use mathlib.Core.Path.{◌≡◌, refl, sym, ◌∙◌}
use mathlib.Core.Logic.{◌≢◌, ◌⊎◌}
use mathlib.Core.List.{List}
use native.Mathlib.Omega.{arith}
use Rattle.theory.specs.Paths.{Plus}
use Rattle.theory.specs.Charts.{Steps, Formed}
use Rattle.theory.specs.LoopCharts.{Around}
use Rattle.theory.specs.Removals.{done, refused_51, refused_52, Removes}
use Rattle.theory.proofs.Rounds.{body_iff}
use Rattle.std.specs.Prelude.{Ok, Err}
use Rattle.report.specs.declared.Refusal.{Refusal}
use Rattle.report.specs.declared.Refusal.TheVariants.{NoEntry, NotLoop}
use Rattle.bits.specs.declared.sets.Set.{Set}
use Rattle.bits.specs.Sets.{Has, Empty, Members}
use Rattle.chart.specs.Bodies.{vertices_of}
use Rattle.chart.specs.Steps.{Kept, StandingOf}
use Rattle.chart.specs.Standing.{TakenOut}
use Rattle.chart.proofs.Relations.{kept_standing}
use Rattle.reach.proofs.Searches.{some_member}
use Rattle.chart.proofs.Standing.{only?, one_taken}
use Rattle.elimination.specs.Removals.{removal_of, left_of}
use Rattle.elimination.specs.RemovalAnswers.{Fits}
use Rattle.elimination.specs.Loops.{EntryTargets, Entered, Broken, Unbroken, Ruled}
use Rattle.elimination.specs.Walks.{Judged, passed, refused}
use Rattle.elimination.specs.declared.walk.Found.{Found}
use Rattle.elimination.specs.declared.walk.Stops.{Stops}
use Rattle.elimination.proofs.Removals.{err_not_ok, standing_formed, standing_low, done_fits, done_leaves, left_kept}
use Rattle.elimination.proofs.Loops.{reached_to, reached_from, broken_same, unbroken_same, nothing_broken, first_broken}

-- the body of (v, l) is what is in the set, and some of what was past
pub record BodyFound (R : Steps) (v l : ℕ) (past body : Set) : Type 0 where
  pub sound : (w : ℕ) → Has body w → Plus (Around R v l) v w
  pub all : (w : ℕ) → Plus (Around R v l) v w → Has body w ⊎ Has past w

stands : {b labels standing : List ℕ} → Fits b labels standing → Formed (vertices_of b) (StandingOf b labels standing)
stands {b} {labels} {standing} F = standing_formed b labels standing F.formed

module _ {b labels standing : List ℕ} {v l : ℕ} (F : Fits b labels standing) {targets : Set} where
  -- 51
  module _ (M : Members (EntryTargets b labels standing v l) targets) where
    target_low : (w : ℕ) → StandingOf b labels standing v l w → w < 128
    target_low w s = standing_low b labels standing F.formed v l w s

    pub none_stands : Empty targets → Ruled b labels standing v l (Err (NoEntry v l))
    none_stands e = (refused_51 v l, refl, Removes.absent (λ (p, w, s). e w ((M.exactly w (target_low w s)).1 (p, s))))

    pub some_stands : ¬ Empty targets → Entered b labels standing v l targets
    some_stands n =
        let (w, h) = some_member _ n in
        let (p, s) = (M.exactly w h.below).0 h in
        record {
          some = (p, w, s);
          exactly = λ x. ((λ g. ((M.exactly x g.below).0 g).1), (λ t. (M.exactly x (target_low x t)).1 (p, t)));
        }

  module _ (E : Entered b labels standing v l targets) where
    pub start_low : v < 128
    start_low = let (p, w, s) = E.some in omega (arith, (stands F).from_vertex v l w s, F.formed.header.vertices_high)

    -- no loop starts at the end
    pub start_not_end : v ≢ 0
    start_not_end = let (p, w, s) = E.some in λ e. omega (arith, (stands F).from_vertex v l w s, e)

    -- 52, or done, by what is found
    goes : Unbroken v (Has targets) (Kept b standing) → Removes (StandingOf b labels standing) v l done
    goes u = nothing_broken (stands F) E.some (unbroken_same E.exactly (kept_standing b labels standing) u)

    stays : {r : ℕ} → Broken v (Has targets) (Kept b standing) r → Ruled b labels standing v l (Err (NotLoop v l r))
    stays k = (refused_52 v l _, refl, first_broken (stands F) E.some (broken_same E.exactly (kept_standing b labels standing) k))

    module _ {before : Stops} (e : before.at ≡ v) where
      pub judged_stays : {p : Refusal} → Judged (Has targets) (Kept b standing) before l (Err p) → Ruled b labels standing v l (Err p)
      judged_stays (refused k) = rw e (stays (rw e at k))

      pub judged_goes : {found : Found} → Judged (Has targets) (Kept b standing) before l (Ok found)
          → Removes (StandingOf b labels standing) v l done
      judged_goes (passed u W) = goes (rw e at u)

      -- what is found of the body is what the loop's chart reaches, but for what was past
      pub body_found : {found : Found} → Judged (Has targets) (Kept b standing) before l (Ok found)
          → BodyFound (StandingOf b labels standing) v l before.past found.body
      body_found (passed u W) = record {
        sound = λ w g. (body_iff w).1 (rw e at (reached_to E.exactly (kept_standing b labels standing) (W.sound w g)));
        all = λ w p. W.all w (rw e (reached_from E.exactly (kept_standing b labels standing) ((body_iff w).0 p)));
      }

-- WHAT THE CALL LEAVES, by its answer
module _ (b labels : List ℕ) (v l : ℕ) (standing : List ℕ) where
  pub left_cleared : {after : List ℕ} → removal_of b labels v l standing ≡ Ok tt → TakenOut b labels v l standing after
      → after ≡ left_of b labels v l standing
  left_cleared e t =
      one_taken (only? v l) (done_fits b labels v l standing e).marked.long t (done_leaves b labels v l standing e)

  pub left_same : {p : Refusal} → removal_of b labels v l standing ≡ Err p → standing ≡ left_of b labels v l standing
  left_same e = sym (left_kept b labels v l standing (λ z. err_not_ok (sym e ∙ z)))
