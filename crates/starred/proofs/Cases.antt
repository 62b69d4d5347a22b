-- Every case of the table holds, by one computation.
use mathlib.Core.Path.{◌≡◌, refl}
use mathlib.Core.Bool.{true}
use mathlib.Core.List.{flat_map}
use Rattle.theory.specs.Ascending.{insert, sort}
use Rattle.theory.specs.Transitions.{precedes}
use Rattle.theory.specs.Nodes.{down_f, down, expr, first, up, uses, rise_f, rise, after}
use Rattle.theory.specs.Runs.{pick}
use Rattle.theory.specs.ExpressionCharts.{edges, collect, transitions}
use Rattle.theory.specs.Tests as tests
use Rattle.theory.specs.Reachability.{values, rounds, reaches}
use Rattle.theory.specs.LabellingTests.{any_test, loop_test, loop_list, body_test, unreached_test, cycle_test, not_lower_test, loop_outcome, failing_test, loops_outcome, outcome}
use Rattle.theory.specs.RemovalTests.{around_test, stray_test, rule_answer}
use Rattle.theory.specs.RelationTests.{matched_test, unmatched_test, pair_outcome, failing_pair, relation_outcome}
use Rattle.bits.specs.Bits.{bits_of, bytes_from, set_bytes, list_from}
use Rattle.chart.specs.Checks as chart
use Rattle.chart.specs.Steps.{transitions_from, transitions_of}
use Rattle.expression.specs.Table as nodes
use Rattle.expression.specs.Body.{four_of, flat, chart_transitions, body_of, written_of, buffer_of}
use Rattle.witness.specs.Labellings as labelling
use Rattle.bisimulation.specs.Relations as relation
use Rattle.elimination.specs.Removals.{standing_test, stands_test, ruled_of, removal_of, cleared_from, left_of}
use Rattle.follower.specs.Calls.{state_test, answer_of, state_after, called_on, lent_on}
use Rattle.verdict.specs.Files.{record_stage, records_from, records_of, offset_of, body_at}
use Rattle.verdict.specs.Verdicts.{verdict_of}
use Rattle.starred.specs.Cases.{nodes_g, nodes_twice, nodes_sum, chart_g, labels_g, file_g, nested, nested_labels, written_g, written_sum, calls_g, answers_g, cases, all_hold}

pub all_hold_lem : all_hold cases ≡ true
unfolding cases nodes_g nodes_twice nodes_sum chart_g labels_g file_g nested nested_labels written_g written_sum calls_g
    answers_g verdict_of body_at offset_of records_of records_from record_stage
    relation.relation_of relation.relation_outcome_of relation.stray_bit_test relation.related_test relation_outcome
    failing_pair pair_outcome unmatched_test matched_test
    labelling.labelled_of labelling.labelling_outcome labelling.loops_of labelling.step_test outcome loops_outcome
    failing_test loop_outcome not_lower_test cycle_test unreached_test body_test loop_list loop_test any_test reaches rounds
    values tests.some_below tests.lowest tests.first_row tests.row_pairs tests.pairs_from tests.pairs chart.check_of chart.header_ok chart.fits_at chart.above_at chart.ok_at chart.first_bad chart.◌and◌ written_of buffer_of body_of chart_transitions flat four_of nodes.check_of nodes.misused nodes.malformed nodes.lowest_failing nodes.count nodes.node transitions collect edges after rise rise_f uses up first down down_f precedes sort insert left_of cleared_from removal_of ruled_of stands_test standing_test rule_answer stray_test around_test lent_on called_on state_after answer_of state_test list_from set_bytes bytes_from bits_of transitions_of transitions_from pick flat_map tests.some_in expr
all_hold_lem = refl
