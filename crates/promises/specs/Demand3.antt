-- Demand 3: `Demand3` below, of any accepted file. First the removals: "Take the chart and labels of any accepted file,
-- all steps standing." Here b is the chart and `labels` the labelling; a list of calls gives each a pair (v, level),
-- whatever it is, and the standing bytes that the call before left. Then the followers. Lists of answers are compared by
-- the four numbers: of the calls' answers by document 01's (`done_numbers`, `followed_numbers`), of the theory's as they
-- are written out here.
use Rattle.std.specs.Prelude.{◌≡◌, ◌↔◌, Bool, false, cond, List, [], ◌∷◌, map, ℕ, ◌-◌, eqb, length, get_or, replicate, Result, Ok}
use Rattle.theory.specs.Paths.{Endless}
use Rattle.theory.specs.Charts.{Any, Loop}
use Rattle.theory.specs.Standing.{Loops, Inside}
use Rattle.theory.specs.Orders.{Pair, Order}
use Rattle.theory.specs.Removals.{Answer, done, refused_51, refused_52, Different, PlainAll}
use Rattle.theory.specs.Expressions.{Expr}
use Rattle.theory.specs.Nodes.{expr}
use Rattle.theory.specs.Rules.{rules}
use Rattle.theory.specs.Followers.{Answers}
use Rattle.theory.specs.Events as events
use Rattle.theory.specs.Runs.{run, run_leaves, run_fresh, kept_fresh, rule_machine}
use Rattle.report.specs.declared.Numbers.{Numbers}
use Rattle.report.specs.declared.Refusal.{Refusal}
use Rattle.report.specs.Numbers.{four, flag, done_numbers, followed_numbers}
use Rattle.chart.specs.Bodies.{count_of}
use Rattle.chart.specs.Steps.{StepsOf, StandingOf}
use Rattle.chart.specs.Standing.{StandsFor}
use Rattle.expression.specs.Table as nodes
use Rattle.elimination.specs.Removals.{removal_of, left_of, answers_of, left_after}
use Rattle.follower.specs.declared.Follower.{Follower}
use Rattle.follower.specs.States.{state_size, no_state}
use Rattle.follower.specs.Calls.{called_on, lent_on}
use Rattle.follower.specs.Lists.{call_by_value, call_in_place}
use Rattle.verdict.specs.Verdicts.{nodes_in, chart_in, labels_in}
use Rattle.promises.specs.Check.{steps_in, expression_in}

-- all steps stand: every byte is 1
abbrev pub all_standing : List ℕ → List ℕ
all_standing b = replicate (count_of b) 1

-- the loops of X that are not taken out when (v, l) is answered so: where it is done, all but (v, l)
abbrev pub Remaining : Result Unit Refusal → ℕ → ℕ → Loops → Loops
Remaining answer v l X u m = X u m × (answer ≡ Ok tt → Different v l u m)

-- "For every list of removals, refused ones included, each on the steps that the last one left: a removal is done
-- exactly when its loop still stands and no loop stands that starts inside its body, its own start aside. After the
-- list exactly the branch steps and the entries of loops not taken out stand." X has the loops not taken out: before
-- each call and after the last a byte is 1 exactly for a branch, or for an entry whose loop is in X
pub data EachRemoval (b labels : List ℕ) : (standing : List ℕ) → Loops → List Pair → Type 1 where
  ended : {standing : List ℕ} {X : Loops} → StandsFor b labels standing X → EachRemoval b labels standing X []
  call : {standing : List ℕ} {X : Loops} {v l : ℕ} {calls : List Pair}
      → StandsFor b labels standing X
      → (removal_of b labels v l standing ≡ Ok tt) ↔ (X v l × ¬ Inside (StepsOf b labels) X v l)
      → EachRemoval b labels (left_of b labels v l standing) (Remaining (removal_of b labels v l standing) v l X) calls
      → EachRemoval b labels standing X ((v, l) ∷ calls)

-- document 01's numbers for each answer of the plain set
abbrev pub plain_numbers : Answer → Numbers
plain_numbers done = four 0 0 0 0
plain_numbers (refused_51 v l) = four 51 v l 0
plain_numbers (refused_52 v l r) = four 52 v l r

-- Document 01: "Each answer, places included, is the plain set's." The set has all loops at first, is fed the pairs and
-- nothing else, and answers ys; after the list a byte is 1 exactly for a branch, or for an entry whose loop is in the
-- set Y that is left
pub record AsPlainSet (b labels : List ℕ) (calls : List Pair) (ys : List Answer) (Y : Loops) : Type 0 where
  pub answers : map done_numbers (answers_of b labels calls (all_standing b)) ≡ map plain_numbers ys
  pub stands : StandsFor b labels (left_after b labels calls (all_standing b)) Y

-- whatever the set answers, and it has an answer to every list
pub record AgainstPlainSet (b labels : List ℕ) (calls : List Pair) : Type 1 where
  pub same : (ys : List Answer) (Y : Loops) → PlainAll (StepsOf b labels) (Loop (StepsOf b labels)) calls ys Y
      → AsPlainSet b labels calls ys Y
  pub answered : (ys : List Answer) × (Y : Loops) × PlainAll (StepsOf b labels) (Loop (StepsOf b labels)) calls ys Y

-- "An order of all loops exists in which each waits for those starting inside its body, its own start again aside."
abbrev pub OrderExists : List ℕ → List ℕ → Type 0
OrderExists b labels = (xs : List Pair) × Order (StepsOf b labels) xs

-- 1 for a branch, 0 for an entry
abbrev pub branch_byte : ℕ → ℕ
branch_byte l = cond (eqb l 0) 1 0

-- "Every such order runs with no refusal, leaves exactly the branch steps, and leaves no endless path from any vertex."
-- An endless path goes by standing steps
pub record RunsThrough (b labels : List ℕ) (xs : List Pair) : Type 0 where
  pub no_refusal : answers_of b labels xs (all_standing b) ≡ map (λ x. (Ok tt)) xs
  pub branches : left_after b labels xs (all_standing b) ≡ map branch_byte labels
  pub no_endless : (v : ℕ) → ¬ Endless (Any (StandingOf b labels (left_after b labels xs (all_standing b)))) v

-- THE FOLLOWERS. A list of events and restarts begins at a fresh start, which is what a restart hands back or leaves;
-- each call gets the state that the one before handed back or left. The follower over the chart body b answers with the
-- numbers ks, and the mark of the state after the list says whether it is spoilt:
pub record FollowerGives (b : List ℕ) (cs : List events.Call) (ks : List Numbers) (spoilt : Bool) : Type 0 where
  -- by value
  pub by_value : map followed_numbers (run (call_by_value b) cs (called_on b no_state events.restart).follower) ≡ ks
  pub by_value_mark : (run_leaves (call_by_value b) cs (called_on b no_state events.restart).follower).mark ≡ flag spoilt
  -- in a state that is lent itself, whatever it was before
  pub in_place : (f : Follower) → map followed_numbers (run (call_in_place b) cs (called_on b f events.restart).follower) ≡ ks
  pub in_place_mark : (f : Follower) → (run_leaves (call_in_place b) cs (called_on b f events.restart).follower).mark ≡ flag spoilt
  -- in as many lent bytes as a state has, whatever they were before; the mark is the byte after the set
  pub lent : (s : List ℕ) → length s ≡ state_size
      → map followed_numbers (run (lent_on b) cs (lent_on b s events.restart).1) ≡ ks
  pub lent_mark : (s : List ℕ) → length s ≡ state_size
      → get_or (run_leaves (lent_on b) cs (lent_on b s events.restart).1) 16 0 ≡ flag spoilt

-- the documents' numbers for each answer of the published rules' follower
abbrev pub rule_numbers : events.Answer → Numbers
rule_numbers (events.answer events.taken end offered) = four 0 1 (flag end) offered
rule_numbers (events.answer events.not_possible end offered) = four 0 0 (flag end) offered
rule_numbers events.spoilt = four 0 2 0 0
rule_numbers events.refused_53 = four 53 0 0 0

-- the root's expression
abbrev pub root_in : List ℕ → Expr
root_in f = expr (nodes.node (nodes_in f)) (nodes.count (nodes_in f) - 1)

-- "And for every list of events and restarts, those not possible or refused included, from a fresh start, the follower
-- over the panel's chart and the one over the expression's chart give the same answers, and these are the ones that the
-- published rules give." The rules' follower has expressions and the end as members, and begins at the expression e
-- alone, not spoilt: its answers exist, and are no others. Document 02: "the panel and expression followers must spoil
-- together": after the list all three are spoilt, or none is
pub record OneList (panel expression : List ℕ) (e : Expr) (cs : List events.Call) : Type 1 where
  pub answers : List events.Answer
  pub spoilt : Bool
  pub rules_give : Answers events.event_rule (rules e) false cs answers spoilt
  pub no_others : (xs : List events.Answer) (mark : Bool) → Answers events.event_rule (rules e) false cs xs mark
      → (xs ≡ answers) × (mark ≡ spoilt)
  pub panel_gives : FollowerGives panel cs (map rule_numbers answers) spoilt
  pub expression_gives : FollowerGives expression cs (map rule_numbers answers) spoilt
  -- the rules' follower as it runs
  pub rules_run : run_fresh events.event_rule (rule_machine e) false cs ≡ answers
  pub rules_mark : kept_fresh events.event_rule (rule_machine e) false cs ≡ spoilt

-- DEMAND 3, of a file f that is accepted
pub record Demand3 (f : List ℕ) : Type 1 where
  -- each removal of every list is done exactly when it should be, and what stands before each and after the list
  pub removals : (calls : List Pair)
      → EachRemoval (chart_in f) (labels_in f) (all_standing (chart_in f)) (Loop (steps_in f)) calls
  -- each answer of every list of removals, places included, is the plain set's
  pub plain_set : (calls : List Pair) → AgainstPlainSet (chart_in f) (labels_in f) calls
  -- an order of all loops exists
  pub order : OrderExists (chart_in f) (labels_in f)
  -- every such order runs with no refusal, leaves exactly the branch steps, and no endless path
  pub orders_run : (xs : List Pair) → Order (steps_in f) xs → RunsThrough (chart_in f) (labels_in f) xs
  -- for every list of events and restarts, the two charts' followers and the published rules' answer one list
  pub followers : (calls : List events.Call) → OneList (chart_in f) (expression_in f) (root_in f) calls
