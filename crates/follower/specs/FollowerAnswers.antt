-- What documents 01 and 02 (C-15) say of each answer to an event or a restart, and of the state after it.
use Rattle.std.specs.Prelude.{ℕ, ◌<◌, ◌≡◌, ◌≢◌, ◌↔◌, Bool, ltb, length, Result, Ok, Err}
use mathlib.Core.List.{List, Memᴰ}
use Rattle.theory.specs.Ascending.{Ascending}
use Rattle.theory.specs.Tests.{Decides}
use Rattle.theory.specs.Followers.{Next, Offered}
use Rattle.theory.specs.Events.{Call, restart, event}
use Rattle.report.specs.declared.Refusal.{Refusal}
use Rattle.report.specs.declared.Refusal.TheVariants as refusal
use Rattle.report.specs.declared.Response.{Response}
use Rattle.report.specs.declared.Response.TheVariants.{NotPossible, Spoilt, Taken}
use Rattle.chart.specs.Bodies.{vertices_of, start_of, WellFormed}
use Rattle.chart.specs.Refusals.{ChartRefused}
use Rattle.chart.specs.Systems.{system_of}
use Rattle.follower.specs.declared.Follower.{Follower}
use Rattle.follower.specs.States.{state_size, bytes_in, state_in, Formed, InState, Unspoilt, IsSpoilt, Marked, spoilt_state}

-- a fresh start: the start alone, not spoilt
pub record FreshStart (b : List ℕ) (f : Follower) : Type 0 where
  pub formed : Formed f
  pub alone : (v : ℕ) → InState f v ↔ (v ≡ start_of b)
  pub unspoilt : Unspoilt f

-- 53 passes: some vertex is in the set, and none of V or above, and the mark is 0 or 1
pub record StateFits (b : List ℕ) (f : Follower) : Type 0 where
  pub some : (v : ℕ) × InState f v
  pub below : (v : ℕ) → InState f v → v < vertices_of b
  pub marked : Marked f

-- an action leads from some vertex of the set to w; it has a target
abbrev pub Target : List ℕ → Follower → ℕ → ℕ → Type 0
Target b f a w = Next (system_of b) (InState f) a w

abbrev pub Possible : List ℕ → Follower → ℕ → Type 0
Possible b f a = Offered (system_of b) (InState f) a

-- whether the end is in the set, and the number of different actions that its vertices offer
pub record Shown (b : List ℕ) (f : Follower) (end : Bool) (n : ℕ) : Type 0 where
  pub holds_end : Decides end (InState f 0)
  pub actions : List ℕ
  pub ascending : Ascending ltb actions
  pub offered : (a : ℕ) → Memᴰ a actions ↔ Possible b f a
  pub number : length actions ≡ n

-- EACH ANSWER to a call on a state, with the state after it; a refusal leaves it as it came
pub data CallAnswer (b : List ℕ) (f : Follower) : Call → Result Response Refusal → Follower → Type 0 where
  -- 20, 21
  other_chart : {c : Call} {p : Refusal} → ChartRefused b p → CallAnswer b f c (Err p) f
  -- 53, of an event
  unfit : {a : ℕ} → WellFormed b → ¬ StateFits b f → CallAnswer b f (event a) (Err refusal.FollowerSet) f
  -- a restart gives the start alone and is taken; it takes the mark away
  restarts : {g : Follower} {end : Bool} {n : ℕ} → WellFormed b → FreshStart b g → Shown b g end n
      → CallAnswer b f restart (Ok (Taken end n)) g
  -- an event with a target from some member is taken, and the set becomes all such targets
  goes : {a : ℕ} {g : Follower} {end : Bool} {n : ℕ} → WellFormed b → StateFits b f → Unspoilt f → Possible b f a
      → Formed g → ((w : ℕ) → InState g w ↔ Target b f a w) → Unspoilt g → Shown b g end n
      → CallAnswer b f (event a) (Ok (Taken end n)) g
  -- otherwise it is not possible, with what the unchanged set shows, and the state is spoilt
  spoils : {a : ℕ} {end : Bool} {n : ℕ} → WellFormed b → StateFits b f → Unspoilt f → ¬ Possible b f a → Shown b f end n
      → CallAnswer b f (event a) (Ok (NotPossible end n)) (spoilt_state f)
  -- a spoilt state stays as it is, whatever the event
  stays : {a : ℕ} → WellFormed b → StateFits b f → IsSpoilt f → CallAnswer b f (event a) (Ok Spoilt) f

-- EACH ANSWER to a call on lent bytes, whatever their number, with the bytes after it
pub data LentAnswer (b s : List ℕ) (c : Call) : Result Response Refusal → List ℕ → Type 0 where
  -- 20, 21
  other_chart : {p : Refusal} → ChartRefused b p → LentAnswer b s c (Err p) s
  -- 53, also of a restart: another number of bytes than the state's
  other_length : WellFormed b → length s ≢ state_size → LentAnswer b s c (Err refusal.FollowerSet) s
  -- as to a call on the state that they hold
  holds_state : {x : Result Response Refusal} {g : Follower} → length s ≡ state_size → CallAnswer b (state_in s) c x g
      → LentAnswer b s c x (bytes_in g)
