-- ALL THAT IS PROMISED, in one record; its proof is `promises`. The contracts of the code say by equation that the calls
-- answer and leave what the functions here do: `verdict_of`, `written_of`, `removal_of`, `called_on`, `lent_on` and so on. `Bytes` has
-- every entry of a list below 256, which the code's types say of what comes in.
use Rattle.std.specs.Prelude.{◌≡◌, ◌↔◌, List, take, ℕ, Ok}
use Rattle.theory.specs.Charts.{Loop}
use Rattle.theory.specs.Standing.{Loops}
use Rattle.theory.specs.Events.{Call, restart}
use Rattle.report.specs.Numbers.{accepted_with}
use Rattle.report.specs.Numbers.{four, verdict_numbers, length_numbers, done_numbers, done_numbers, followed_numbers}
use Rattle.report.specs.Numbers.{length_numbers, length_numbers}
use Rattle.bits.specs.Bits.{Bytes}
use Rattle.chart.specs.Bodies.{WellFormed}
use Rattle.chart.specs.Standing.{StandsFor}
use Rattle.elimination.specs.RemovalAnswers.{Fits}
use Rattle.elimination.specs.Together.{together_of}
use Rattle.follower.specs.declared.Follower.{Follower}
use Rattle.follower.specs.States.{Formed, no_state}
use Rattle.follower.specs.WayAnswers.{StatePasses}
use Rattle.extraction.specs.ExtractionAnswers.{DrawnPasses}
use Rattle.verdict.specs.Verdicts.{chart_in, labels_in, verdict_of}
use Rattle.promises.specs.Numbered.{Telling}
use Rattle.promises.specs.Accepted.{Holds}
use Rattle.promises.specs.Check.{steps_in, Sentence}
use Rattle.promises.specs.ExpressionChart.{ChartByNumbers}
use Rattle.promises.specs.Removal.{RemovalByNumbers}
use Rattle.promises.specs.Follower.{CallByNumbers, LentByNumbers}
use Rattle.promises.specs.VertexTransitions.{HandedBack}
use Rattle.promises.specs.ShortestWay.{WayByNumbers, OfShortestWays}
use Rattle.promises.specs.LoopsTogether.{TogetherByNumbers, InEveryOrder, EmptyDone, OverAccepted}
use Rattle.promises.specs.Extraction.{ExtractionGives, ExtractionByNumbers, OfStartTexts, OfWritten, GivesG}
use Rattle.promises.specs.Spoiling.{OfAnEvent, SpoiltUntilRestart}
use Rattle.promises.specs.Demand2.{WritesTheChart, LabellingPasses, RelationPasses}
use Rattle.promises.specs.Demand3.{Demand3}

pub record Promises : Type 1 where
  -- DEMAND 1, of each call: which n p q r it answers, and which bytes it leaves where it is lent some. The check
  pub check : (f : List ℕ) → Bytes f → (n p q r : ℕ)
      → (verdict_numbers (verdict_of f) ≡ four n p q r) ↔ Sentence f n p q r
  -- the expression's chart
  pub expression_chart : (s out : List ℕ) → ChartByNumbers s out
  -- taking out a loop
  pub removal : (b labels : List ℕ) → Bytes labels → (v l : ℕ) (standing : List ℕ)
      → RemovalByNumbers b labels v l standing
  -- an event or a restart of the follower: on lent bytes, on a state by value or lent itself; and a restart by value
  pub on_lent_bytes : (b s : List ℕ) → Bytes s → (c : Call) → LentByNumbers b s c
  pub on_a_state : (b : List ℕ) (f : Follower) → Formed f → (c : Call) → CallByNumbers b f c
  pub restart_by_value : (b : List ℕ) → CallByNumbers b no_state restart
  -- of each call no two answers have the same four numbers
  pub numbers_tell : Telling verdict_numbers × Telling length_numbers × Telling done_numbers × Telling done_numbers
      × Telling followed_numbers × Telling length_numbers × Telling length_numbers
  -- the transitions of a vertex, as a part of the caller's chart bytes
  pub vertex_transitions : (b : List ℕ) → Bytes b → (v : ℕ) → HandedBack b v
  -- DEMAND 2: which files are accepted, and with which counts
  pub accepted : (f : List ℕ) → Bytes f → (v t l : ℕ) → (verdict_of f ≡ Ok (accepted_with v t l)) ↔ Holds f v t l
  -- an expression's chart has exactly the steps that the published rules derive
  pub writes_the_chart : (s out : List ℕ) → WritesTheChart s out
  -- a labelling passes exactly when it is a layered loop witness of a connected chart
  pub labelling_passes : (b labels : List ℕ) → WellFormed b → Bytes labels → LabellingPasses b labels
  -- a relation exactly when it is a bisimulation
  pub relation_passes : (e b relation : List ℕ) → RelationPasses e b relation
  -- DEMAND 3, over an accepted file: removals and followers
  pub over_accepted : (f : List ℕ) → Bytes f → (v t l : ℕ) → verdict_of f ≡ Ok (accepted_with v t l) → Demand3 f
  -- DOCUMENT 02. C-11, the shortest way: each answer, and what holds of the list
  pub shortest_way_lem : (b s out : List ℕ) → Bytes b → Bytes s → WayByNumbers b s out
  pub shortest_ways : (b s : List ℕ) → Bytes b → Bytes s → StatePasses b s → OfShortestWays b s
  -- C-12, several loops out together: each answer; a list that is done, and the empty list; and over an accepted file,
  -- where the bytes stand for a plain set X of its loops
  pub loops_together : (b labels loops standing : List ℕ) → Bytes labels → TogetherByNumbers b labels loops standing
  pub in_every_order : (b labels loops standing : List ℕ) → Bytes labels
      → done_numbers (together_of b labels loops standing) ≡ four 0 0 0 0 → InEveryOrder b labels loops standing
  pub empty_done : (b labels standing : List ℕ) → Bytes labels → Fits b labels standing → EmptyDone b labels standing
  pub together_accepted : (f : List ℕ) → Bytes f → (v t l : ℕ) → verdict_of f ≡ Ok (accepted_with v t l)
      → (X : Loops) → ((u m : ℕ) → X u m → Loop (steps_in f) u m)
      → (standing : List ℕ) → StandsFor (chart_in f) (labels_in f) standing X → OverAccepted f X standing
  -- C-14, an expression for a drawn chart: each answer; of a chart and a labelling that pass, the start's text; the
  -- table that is written, the first n of the lent bytes t after the call; and G
  pub expression_of_chart : (b labels out : List ℕ) → Bytes labels → ExtractionByNumbers b labels out
  pub start_texts : (b labels : List ℕ) → Bytes labels → DrawnPasses b labels → OfStartTexts b labels
  pub written_tables : (b labels out : List ℕ) → Bytes labels → (n : ℕ) (t : List ℕ)
      → ExtractionGives b labels out (four 0 n 0 0) t → OfWritten b labels (take n t)
  pub gives_G : GivesG
  -- C-15, a wrong button spoils the run: an event by the numbers, with every byte after it; and "spoilt" exactly at the events
  -- after one that is not possible since the last restart. The other answers, and who spoils together, are above
  pub an_event : (b s : List ℕ) → Bytes s → StatePasses b s → (a : ℕ) → OfAnEvent b s a
  pub spoilt_until_restart : (b : List ℕ) → WellFormed b → (cs : List Call) → SpoiltUntilRestart b cs
