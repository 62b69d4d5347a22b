-- The checks 31 to 35 of document 01 and what each of their places says.
use Rattle.std.specs.Prelude.{◌≢◌, ℕ, ◌<◌, ◌≤◌}
use Rattle.theory.specs.Paths.{Star, Plus}
use Rattle.theory.specs.Charts.{Steps, Any, Branch, Loop}
use Rattle.theory.specs.LoopCharts.{InBody}
use Rattle.theory.specs.Witnesses.{Layered, Connected}
use Rattle.theory.specs.Least.{Least, Earlier}

-- checks 33, 34 and 35 of one loop: a way back; no end in the body; lower levels inside
pub record LoopPasses (S : Steps) (v l : ℕ) : Type 0 where
  pub c33 : InBody S v l v
  pub c34 : ¬ InBody S v l 0
  pub c35 : Layered S v l

-- 32: a vertex on a branch cycle; no vertex is
abbrev pub OnBranchCycle : Steps → ℕ → Type 0
OnBranchCycle S w = Plus (Branch S) w w

abbrev pub NoBranchCycle : Steps → Type 0
NoBranchCycle S = (w : ℕ) → ¬ OnBranchCycle S w

-- checks 32 to 35
pub record Passed (S : Steps) : Type 0 where
  pub c32 : NoBranchCycle S
  pub loops : (v l : ℕ) → Loop S v l → LoopPasses S v l

-- what the checks answer, with the places of document 01
pub data Outcome : Type 0 where
  passes : Outcome
  unreached : (p : ℕ) → Outcome
  branch_cycle : (p : ℕ) → Outcome
  no_return : (v l : ℕ) → Outcome
  end_inside : (v l : ℕ) → Outcome
  not_lower : (v l r : ℕ) → Outcome

-- 31: a vertex other than the end that the start does not reach
abbrev pub Unreached : ℕ → Steps → ℕ → ℕ → Type 0
Unreached size S start w = (0 < w) × (w < size) × (¬ Star (Any S) start w)

-- 35: a body vertex r other than v with an entry of equal or higher level
abbrev pub NotLower : Steps → ℕ → ℕ → ℕ → Type 0
NotLower S v l r = (r ≢ v) × InBody S v l r × ((m : ℕ) × Loop S r m × (l ≤ m))

-- one loop fails, in the order 33, 34, 35
pub data LoopFails (S : Steps) (v l : ℕ) : Outcome → Type 0 where
  fails_33 : ¬ InBody S v l v → LoopFails S v l (no_return v l)
  fails_34 : InBody S v l v → InBody S v l 0 → LoopFails S v l (end_inside v l)
  fails_35 : {r : ℕ} → InBody S v l v → ¬ InBody S v l 0 → Least (NotLower S v l) r
      → LoopFails S v l (not_lower v l r)

-- every loop before (v, l), by vertex and then by level, passes
abbrev pub EarlierPass : Steps → ℕ → ℕ → Type 0
EarlierPass S v l = (w m : ℕ) → Earlier w m v l → Loop S w m → LoopPasses S w m

-- the answer of the checks: the first that fails, at its lowest place
pub data Checked (size : ℕ) (S : Steps) (start : ℕ) : Outcome → Type 0 where
  all_pass : Connected size S start → Passed S → Checked size S start passes
  fails_31 : {p : ℕ} → Least (Unreached size S start) p → Checked size S start (unreached p)
  fails_32 : {p : ℕ} → Connected size S start → Least (OnBranchCycle S) p → Checked size S start (branch_cycle p)
  fails_loop : {v l : ℕ} {o : Outcome} → Connected size S start → NoBranchCycle S
      → Loop S v l → EarlierPass S v l → LoopFails S v l o → Checked size S start o
