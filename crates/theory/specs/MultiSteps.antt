-- Several loops taken out together, where the transitions R stand: 000's multi-step loop elimination (Definition 4.5),
-- and the answer that document 02 gives to a list of loops (C-12).
use Rattle.std.specs.Prelude.{◌≡◌, ◌≢◌, List, ℕ, ◌<◌, length, get_or}
use Rattle.theory.specs.Paths.{Plus}
use Rattle.theory.specs.Charts.{Steps, SameSteps, Loop}
use Rattle.theory.specs.LoopCharts.{Around, LoopChart}
use Rattle.theory.specs.Least.{Least}
use Rattle.theory.specs.Orders.{Pair}
use Rattle.theory.specs.Removals.{Answer, done, Removes}

-- the loop at place i of a list, from 0: its start and its level
abbrev pub loop_at : List Pair → ℕ → Pair
loop_at cs i = get_or cs i (0, 0)

module _ (R : Steps) (c : Pair) where
  -- its set U of loop-entry transitions
  abbrev pub EntryOf : Steps
  EntryOf u l w = (u ≡ c.0) × (l ≡ c.1) × R u l w

  -- it is a loop sub-chart (Definition 4.3): U is not empty, and what it induces is a loop chart
  pub record LoopSubchart : Type 0 where
    pub loop : Loop R c.0 c.1
    pub chart : LoopChart (Around R c.0 c.1) c.0

  -- its body: what its chart reaches, its own start left out
  abbrev pub InBodyOf : ℕ → Type 0
  InBodyOf w = (w ≢ c.0) × Plus (Around R c.0 c.1) c.0 w

-- Definition 4.5: Q results from R by taking out the loops of the list together. The transitions that become
-- unreachable stay, as document 01 has it for a single loop; and a list may be empty
pub record MultiStep (R : Steps) (cs : List Pair) (Q : Steps) : Type 0 where
  pub subcharts : (i : ℕ) → i < length cs → LoopSubchart R (loop_at cs i)
  -- (ms-1): their sets of loop-entry transitions are disjoint
  pub disjoint : (i j : ℕ) → i < length cs → j < length cs → i ≢ j
      → (u l w : ℕ) → ¬ (EntryOf R (loop_at cs i) u l w × EntryOf R (loop_at cs j) u l w)
  -- (ms-2): no start is in the body of another
  pub outside : (i j : ℕ) → i < length cs → j < length cs → i ≢ j → ¬ InBodyOf R (loop_at cs j) (loop_at cs i).0
  -- what stands then: all but their loop-entry transitions
  pub results : SameSteps Q (λ u l w. R u l w × ((i : ℕ) → i < length cs → ¬ EntryOf R (loop_at cs i) u l w))

-- with the places of document 02: an answer that a single removal gives, or 57
pub data GroupAnswer : Type 0 where
  single : Answer → GroupAnswer
  refused_57 : (p : ℕ) → GroupAnswer

module _ (R : Steps) (cs : List Pair) where
  -- what the loop at place i answers by itself
  abbrev pub RemovesAt : ℕ → Answer → Type 0
  RemovesAt i a = Removes R (loop_at cs i).0 (loop_at cs i).1 a

  -- no loop of the list is refused by itself
  abbrev pub EachGoes : Type 0
  EachGoes = (i : ℕ) → i < length cs → RemovesAt i done

  -- 57: the start of the loop at place p is inside the body of another loop of the list
  abbrev pub StartInside : ℕ → Type 0
  StartInside p = (p < length cs) × ((j : ℕ) × (j < length cs) × (j ≢ p) × InBodyOf R (loop_at cs j) (loop_at cs p).0)

  -- what the list answers: 51 and 52 loop by loop in its order, then 57, each over R
  pub data RemovesTogether : GroupAnswer → Type 0 where
    refused : {i : ℕ} {a : Answer} → i < length cs → ((j : ℕ) → j < i → RemovesAt j done) → RemovesAt i a → a ≢ done
        → RemovesTogether (single a)
    inside : {p : ℕ} → EachGoes → Least StartInside p → RemovesTogether (refused_57 p)
    goes : EachGoes → ((p : ℕ) → ¬ StartInside p) → RemovesTogether (single done)
