-- The laws, each file with those worth knowing by name.

-- PATHS, SEARCHES AND DECISIONS
-- an infinite path out of a cycle: cycle_endless
pub mod Paths
-- the pigeonhole principle, pigeonhole; bounded search, look_below; the lowest with a property, least_below, and there is one,
-- least_one
pub mod Search
-- tests put together decide statements put together
pub mod Tests
-- lists of pairs: order in a list, and the pairs that pass a test
pub mod Pairs
-- reachability as a test that runs: decides_reaches, decides_plus
pub mod Reachability
-- within finitely many vertices a path is infinite exactly where a cycle is reached: endless_iff; without cycles, induction along
-- the transitions: each_vertex
pub mod Cycles
-- LOOP CHARTS, AND THE CHECKS OF A LABELLING
-- L1, L2, L3 and the body by reachability and cycles, for any chart: round_L1, round_L2, round_L3, body_iff. Of two charts that
-- agree on what v reaches, where one is a loop chart so is the other, loop_chart_agree; what v reaches in the other it reaches
-- in the one, reach
pub mod Rounds
-- 32 to 35 pass exactly where the labelling is a witness, on a connected chart: passed_iff_witness; they go by which
-- transitions there are: passed_same
pub mod Checks
-- with 31 too: passes_iff_witness; there is one outcome: one_outcome
pub mod Outcomes
-- the outcome and the loops as tests that run: outcome_checked, loops_listed
pub mod LabellingTests
-- TAKING OUT LOOPS
-- a loop of the set can be taken out exactly when none of the set starts inside: takeable_iff, by its halves inside_not_L2 and
-- taken_loop_chart; it then reaches nothing but its body: taken_reaches
pub mod Removal
-- lists of removals answer as the plain set does: removals_agree, from all standing by agree_at_first; the rule has one answer,
-- one_answer; when the plain set says "done", plain_done
pub mod Removals
-- the answers as tests that run: of one call rule_answer_lem and plain_answer_lem, of lists rule_answers and plain_answers, of several
-- loops together group_answer_lem
pub mod RemovalTests
-- an order of all loops exists, order_exists; the plain set lets each through, order_plain; it runs, order_runs; what it leaves,
-- order_leaves
pub mod Orders
-- 000's multi-step removal exactly where no loop is in the list twice and the answer is "done": multi_iff; one answer,
-- one_group_answer; the first loop leaves the others loop charts, apart_rest, so that they go one by one in every order and leave
-- the same, multi_singles; over a chart that passed, where each can be taken out none starts inside another, none_inside
pub mod MultiSteps
-- EXPRESSIONS AND THEIR CHARTS
-- two strictly ascending lists with the same members are equal: one_list
pub mod Ascending
-- the steps of an expression as a list: derivatives_sound, derivatives_complete
pub mod Derivatives
-- the steps of an expression multiplied by others in turn: in_context
pub mod Contexts
-- induction down a table whose operands are lower
pub mod Down
-- where a node leads, from the root down: after_left, after_right, after_last
pub mod Up
-- the chart over a table of nodes has exactly the steps of the rules: edges_are_steps, chart_sound, chart_complete; its start
-- stands for the expression, residual_of_start; it ascends strictly, transitions_ascend
pub mod ExpressionCharts
-- first actions and the climb in document 01's words: first_iff, climb_iff, climb_one; the chart has exactly what they lead to:
-- chart_leads
pub mod Climbs
-- at most 8,192 transitions for at most 127 nodes: transitions_le
pub mod Counts
-- what the fields of its transitions can be: transition_bounds
pub mod Bounds
-- the expression's chart and the rules have a bisimulation between them: chart_rules
pub mod Rules
-- RELATIONS AND FOLLOWERS
-- 42 to 45 pass exactly where the relation is a bisimulation: related_iff_bisimulation; one outcome, one_relation_outcome; as a
-- test that runs, relation_checked
pub mod Relations
-- equality is a bisimulation, equal_states; so are two, one after the other, composed; with actions replaced one stays one,
-- renamed_bisimulation
pub mod Systems
-- by any rule, over any two systems with a bisimulation between them: they answer alike, followers_agree and fresh_agree; where
-- the one has answers so has the other, follows_carried and fresh_carried. What a set shows and the answers are determined:
-- one_view, follows_one, one_answers. Members stay within a set that no step leaves, follows_within; there is one, follows_some
pub mod Followers
-- the rule, sentence by sentence: restart_taken, event_taken, event_not_possible, event_spoilt, event_refused; no 53 from a
-- fresh start, never_refused
pub mod Events
-- "spoilt" exactly at the events after one that is not possible since the last restart: answers_exactly; the same of answers
-- written otherwise, exactly_written
pub mod Spoiling
-- followers that run: any function that meets a rule, run_follows; any rule over a machine with lists of moves, machine_follows and
-- machine_answers; charts and the rules as machines, chart_machine_lem, chart_answers, rules_machine, rules_answers
pub mod Runs
-- the follower computed of the definitions: document 01's case, loop_follows, loop_chart_follows, and on from there, spoilt_run
pub mod FollowerCases
-- shortest lists of events to the end: by the follower's events exactly where by paths, ends_unspoilt, and then all are taken,
-- ends_taken; from a spoilt state never, spoilt_stays; the same over bisimilar systems, ends_carried; one list, one_shortest; shorter
-- than there are vertices, ends_short, shortest_few; found action by action, lowest_more, and by layers, first_more, first_less
pub mod Ways
-- the same as tests that run: ends_in_tested, lowest_list_lem, shortest_list_lem
pub mod WayTests
-- AN EXPRESSION FOR A CHART
-- what is written is the text, written_sound, and a text is written where the budget reaches its size, written_complete; so there is
-- one text, one_text, and one sum, one_sum; with at most n nodes it is found exactly if it has no more, fitting_iff, fitting_none
pub mod TextTests
-- where 32 to 35 pass every vertex but the end has a text, has_text, and inside a loop an inner text, has_inner_text; its actions are
-- the chart's, text_acting
pub mod Texts
-- a table grown node by node is a forest, grown_forest, and with one root a tree, grown_tree
pub mod Forests
-- a table in post-order is a tree, post_tree, and its root has the expression, post_expr; what is numbered is one, numbered_post, and
-- the only one, post_numbered; as many nodes as the expression has, post_size
pub mod PostOrders
-- what remains at a vertex steps as the vertex does: the rules on the start's text are bisimilar to the chart, text_bisimulation
pub mod Remains
-- the chart of the table of the start's text is bisimilar to the drawn chart: table_bisimulation
pub mod TextCharts
-- by a relation that is decided: remains_at?
pub mod Decisions
-- G's chart gives G's expression and its table, computed of the definitions; so do a loop inside a loop, sums of three and of none
pub mod TextCases
