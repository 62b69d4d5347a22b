-- The follower over the published rules and over charts, computed of the definitions.
use mathlib.Core.Path.{◌≡◌, refl, ◌∙◌}
use mathlib.Core.Bool.{Bool, true, false}
use mathlib.Core.List.{List, [], ◌∷◌, flat_map}
use Rattle.theory.specs.Ascending.{insert, sort}
use Rattle.theory.specs.Tests.{some_in}
use Rattle.theory.specs.Expressions.{Expr, deadlock, act, sum, product, star}
use Rattle.theory.specs.Rules.{rules}
use Rattle.theory.specs.Transitions.{Transition, chart}
use Rattle.theory.specs.Followers.{Answers}
use Rattle.theory.specs.Events.{Call, restart, event, taken, not_possible, Answer, answer, spoilt, refused_53, event_rule}
use Rattle.theory.specs.Runs.{run, pick, call_on, run_fresh, chart_machine, rule_machine}
use Rattle.theory.proofs.Followers.{one_answers}
use Rattle.theory.proofs.Runs.{chart_answers, rules_answers}

abbrev by_rules : Expr → List Call → List Answer
by_rules e cs = run_fresh event_rule (rule_machine e) false cs

-- document 01's starred case: G's expression, 1 repeated and left by 2, and its chart
abbrev loop : Expr
loop = star (act 1) (act 2)

abbrev loop_chart : List Transition
loop_chart = (1, 1, 1) ∷ (1, 2, 0) ∷ []

abbrev loop_calls : List Call
loop_calls = restart ∷ event 1 ∷ event 2 ∷ event 1 ∷ []

abbrev loop_answers : List Answer
loop_answers = answer taken false 2 ∷ answer taken false 2 ∷ answer taken true 0 ∷ answer not_possible true 0 ∷ []

pub loop_run : by_rules loop loop_calls ≡ loop_answers
unfolding sort insert some_in pick flat_map
loop_run = refl

pub loop_chart_run : run_fresh event_rule (chart_machine 1 loop_chart) false loop_calls ≡ loop_answers
unfolding sort insert some_in pick flat_map
loop_chart_run = refl

-- so the rules and the chart give these answers and no others
pub loop_follows : {xs : List Answer} {mark : Bool} → Answers event_rule (rules loop) false loop_calls xs mark → xs ≡ loop_answers
loop_follows f = (one_answers event_rule (rules loop) f (rules_answers loop event_rule false loop_calls)).0 ∙ loop_run

pub loop_chart_follows : {xs : List Answer} {mark : Bool} → Answers event_rule (chart 1 loop_chart) false loop_calls xs mark
    → xs ≡ loop_answers
loop_chart_follows f =
    (one_answers event_rule (chart 1 loop_chart) f (chart_answers 1 loop_chart event_rule false loop_calls)).0 ∙ loop_chart_run

-- after it the run is spoilt until a restart; an event that no vertex offers spoils it again
pub spoilt_run : by_rules loop (event 2 ∷ event 1 ∷ event 1 ∷ event 2 ∷ restart ∷ event 0 ∷ event 1 ∷ restart ∷ event 1 ∷ [])
    ≡ answer taken true 0 ∷ answer not_possible true 0 ∷ spoilt ∷ spoilt ∷ answer taken false 2
    ∷ answer not_possible false 2 ∷ spoilt ∷ answer taken false 2 ∷ answer taken false 2 ∷ []
unfolding sort insert some_in pick flat_map
spoilt_run = refl

-- two members after one event: the end is in the set beside a member that offers 2
pub two_members : by_rules (sum (act 1) (product (act 1) (act 2))) (event 1 ∷ event 2 ∷ event 2 ∷ [])
    ≡ answer taken true 1 ∷ answer taken true 0 ∷ answer not_possible true 0 ∷ []
unfolding sort insert some_in pick flat_map
two_members = refl

-- an action that two members offer counts once
pub counted_once : by_rules (sum (product (act 1) (act 2)) (product (act 1) (sum (act 2) (act 3)))) (event 1 ∷ [])
    ≡ answer taken false 2 ∷ []
unfolding sort insert some_in pick flat_map
counted_once = refl

-- a deadlock offers nothing and is not the end
pub stuck : by_rules (product (act 1) deadlock) (event 1 ∷ event 1 ∷ restart ∷ [])
    ≡ answer taken false 0 ∷ answer not_possible false 0 ∷ answer taken false 1 ∷ []
unfolding sort insert some_in pick flat_map
stuck = refl

-- only the empty set is refused, also where it is spoilt, and a restart fills it and takes the mark away
pub empty_set_lem : run (call_on event_rule (rule_machine loop)) (event 1 ∷ restart ∷ event 1 ∷ []) (true, [])
    ≡ refused_53 ∷ answer taken false 2 ∷ answer taken false 2 ∷ []
unfolding sort insert some_in pick flat_map
empty_set_lem = refl
