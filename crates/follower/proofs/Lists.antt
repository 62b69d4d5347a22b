-- Lists of calls from a fresh start: the answers are the rule's over the chart of the body, by value, in place and lent,
-- and none is a refusal.
use Prim.Native.Nat.{ℕ}
use mathlib.Core.Path.{◌≡◌, refl, sym, ap, ◌∙◌, subst}
use mathlib.Core.Logic.{◌≢◌, ◌⊎◌, inl, inr}
use mathlib.Core.Bool.{Bool}
use mathlib.Core.List.Memᴰ
use mathlib.Core.List.{List, map, Memᴰ}
use lib.ListN.{length}
use Rattle.theory.specs.Events.{Call, restart, event, Word, Answer, answer, spoilt, refused_53, event_rule}
use Rattle.theory.specs.Runs.{run, run_leaves}
use Rattle.theory.proofs.Followers.{from_fresh}
use Rattle.theory.proofs.Events.{never_refused}
use Rattle.theory.proofs.Runs.{run_follows}
use Rattle.std.specs.Prelude.{Result, Ok}
use Rattle.report.specs.declared.Refusal.{Refusal}
use Rattle.report.specs.declared.Response.{Response}
use Rattle.report.specs.declared.Response.TheVariants.{Spoilt}
use Rattle.chart.specs.Bodies.{WellFormed}
use Rattle.chart.specs.Systems.{system_of}
use Rattle.chart.proofs.Checks.{passes}
use Rattle.follower.specs.declared.Follower.{Follower}
use Rattle.follower.specs.declared.Moved.{Moved}
use Rattle.follower.specs.States.{state_size, bytes_in, state_in, Formed, InState, Marked, kept_in, no_state}
use Rattle.follower.specs.Calls.{followed_as, called_on, lent_on}
use Rattle.follower.specs.FollowerAnswers.{FreshStart, StateFits}
use Rattle.follower.specs.Lists.{call_by_value, call_in_place, RuleResponds, RuleFollows, ByRule}
use Rattle.follower.proofs.Calls.{Gives, Ready, bytes_long, state_back, mark_flag, unspoilt_kept, fresh_fits, called_ruled, restart_alike, call_ruled, fresh_called, still_fits, lent_held}

ready : {b : List ℕ} {f : Follower} (c : Call) → StateFits b f → Ready b f c
ready restart p = tt
ready (event a) p = p

-- the answers ys to a list of calls on the state f are the rule's, and so is the state g after them
pub record RunRuled (b : List ℕ) (f : Follower) (cs : List Call) (ys : List (Result Response Refusal)) (g : Follower) : Type 1 where
  pub answers : List Answer
  pub written : ys ≡ map followed_as answers
  pub follows : RuleFollows b f cs answers g
  pub formed : Formed g
  pub fits : StateFits b g

module _ {b : List ℕ} (W : WellFormed b) where
  -- whatever answers and leaves what one call on the state does, where 53 passes; Own is what it asks of its states
  module _ {S : Type 0} (step : S → Call → Result Response Refusal × S) (state : S → Follower) (Own : S → Type 0)
      (own : (s : S) → Own s → Formed (state s))
      (same : (s : S) (c : Call) → Own s → Formed (called_on b (state s) c).follower
      → Gives b (called_on b (state s) c) (step s c).0 (state (step s c).1))
      (next : (s : S) (c : Call) → Own s → Formed (called_on b (state s) c).follower → Own (step s c).1) where
    run_ruled : (s : S) → Own s → StateFits b (state s) → (cs : List Call)
        → RunRuled b (state s) cs (run step cs s) (state (run_leaves step cs s))
    run_ruled s o p cs =
        let (xs, e, h, (o', p')) =
        run_follows event_rule (system_of b) step followed_as (λ s. InState (state s)) (λ s. kept_in (state s))
        (λ s. Own s × StateFits b (state s)) each cs s (o, p) in
        record { answers = xs; written = e; follows = h; formed = own _ o'; fits = p' }
      where
        each : (s : S) (c : Call) → Own s × StateFits b (state s)
            → (x : Answer) × ((step s c).0 ≡ followed_as x) × RuleResponds b (state s) c x (state (step s c).1)
            × (Own (step s c).1 × StateFits b (state (step s c).1))
        each s c (o, p) =
            let R = call_ruled W (state s) c (own s o) (ready c p) in
            let (e, q) = same s c o R.formed in
            let r = subst (RuleResponds b (state s) c R.answer) q R.responds in
            (R.answer, sym e ∙ R.answered, r, (next s c o R.formed, still_fits W p (subst Marked q R.marked) r))

    list_follows : (s : S) → Own s → FreshStart b (state s) → (cs : List Call)
        → ByRule b cs (run step cs s) (state (run_leaves step cs s))
    list_follows s o F cs =
        let R = run_ruled s o (fresh_fits W F) cs in
        record {
          answers = R.answers;
          written = R.written;
          spoilt = kept_in (state (run_leaves step cs s));
          marked = mark_flag R.fits.marked;
          rule = from_fresh event_rule (system_of b) F.alone (rw (unspoilt_kept F.unspoilt) at R.follows);
        }

  -- BY VALUE AND IN PLACE
  restart_same : (f g : Follower) → called_on b f restart ≡ called_on b g restart
  restart_same f g =
      called_ruled b f restart (passes b W) refl ∙ restart_alike b f g ∙ sym (called_ruled b g restart (passes b W) refl)

  value_same : (f : Follower) (c : Call) → Gives b (called_on b f c) (call_by_value b f c).0 (call_by_value b f c).1
  value_same f restart =
      let e = restart_same f no_state in (ap (λ (m : Moved). m.answer) e, ap (λ (m : Moved). m.follower) e)
  value_same f (event a) = (refl, refl)

  pub by_value_follows : (f : Follower) → FreshStart b f → (cs : List Call)
      → ByRule b cs (run (call_by_value b) cs f) (run_leaves (call_by_value b) cs f)
  by_value_follows f F = list_follows (call_by_value b) (λ f. f) Formed (λ f F. F) (λ f c F G. value_same f c)
      (λ f c F G. subst Formed (value_same f c).1 G) f F.formed F

  pub in_place_follows : (f : Follower) → FreshStart b f → (cs : List Call)
      → ByRule b cs (run (call_in_place b) cs f) (run_leaves (call_in_place b) cs f)
  in_place_follows f F = list_follows (call_in_place b) (λ f. f) Formed (λ f F. F) (λ f c F G. (refl, refl)) (λ f c F G. G) f F.formed F

  -- LENT BYTES that hold a state
  pub record Holding (s : List ℕ) : Type 0 where
    pub long : length s ≡ state_size
    pub formed : Formed (state_in s)

  pub holding : {f : Follower} → Formed f → Holding (bytes_in f)
  holding {f} F = record { long = bytes_long f F.sixteen; formed = rw (state_back f F.sixteen) F }

  lent_same : (s : List ℕ) (c : Call) → Holding s → Formed (called_on b (state_in s) c).follower
      → Gives b (called_on b (state_in s) c) (lent_on b s c).0 (state_in (lent_on b s c).1)
  lent_same s c H G = rw (lent_held b s c H.long) (refl, sym (state_back (called_on b (state_in s) c).follower G.sixteen))

  lent_next : (s : List ℕ) (c : Call) → Holding s → Formed (called_on b (state_in s) c).follower → Holding (lent_on b s c).1
  lent_next s c H G = rw (lent_held b s c H.long) (holding G)

  pub lent_follows : (s : List ℕ) → Holding s → FreshStart b (state_in s) → (cs : List Call)
      → ByRule b cs (run (lent_on b) cs s) (state_in (run_leaves (lent_on b) cs s))
  lent_follows = list_follows (lent_on b) state_in Holding (λ s H. H.formed) lent_same lent_next

  -- from any state that passes
  pub lent_run : (s : List ℕ) → Holding s → StateFits b (state_in s) → (cs : List Call)
      → RunRuled b (state_in s) cs (run (lent_on b) cs s) (state_in (run_leaves (lent_on b) cs s))
  lent_run = run_ruled (lent_on b) state_in Holding (λ s H. H.formed) lent_same lent_next

  -- FRESH STARTS in lent bytes: what a restart leaves there
  pub fresh_held : (s : List ℕ) → length s ≡ state_size → Holding (lent_on b s restart).1 × FreshStart b (state_in (lent_on b s restart).1)
  fresh_held s l =
      let F = fresh_called W (state_in s) in
      rw (lent_held b s restart l) (holding F.formed, rw (state_back (called_on b (state_in s) restart).follower F.formed.sixteen) F)

-- no answer is a refusal
abbrev pub NoRefusal : Result Response Refusal → Type 0
NoRefusal y = ((w : Word) × (end : Bool) × (offered : ℕ) × (y ≡ followed_as (answer w end offered))) ⊎ (y ≡ Ok Spoilt)

module _ {b : List ℕ} {cs : List Call} where
  pub none_refused : {ys : List (Result Response Refusal)} {left : Follower} → ByRule b cs ys left → (y : Result Response Refusal) → Memᴰ y ys → NoRefusal y
  none_refused R y m =
      let (x, i, q) = Memᴰ.of_map followed_as R.answers (rw R.written at m) in
      told x (never_refused R.rule x i) (sym q)
    where
      told : (x : Answer) → x ≢ refused_53 → y ≡ followed_as x → NoRefusal y
      told (answer w end offered) n e = inl (w, end, offered, e)
      told spoilt n e = inr e
      told refused_53 n e = absurd (n refl)
