-- The table of the starred cases: what is asked of the definitions that the contracts cite, and what document 01 says.
use Rattle.std.specs.Prelude.{Bool, true, false, ◌&&◌, List, [], ◌∷◌, ◌++◌, map, ℕ, ◌-◌, eqb, length, replicate}
use Rattle.theory.specs.Expressions.{Expr}
use Rattle.theory.specs.Nodes.{expr}
use Rattle.theory.specs.Events.{Call, restart, event, event_rule}
use Rattle.theory.specs.Runs.{run, run_leaves, run_fresh, rule_machine}
use Rattle.report.specs.declared.Numbers.{Numbers}
use Rattle.report.specs.Numbers.{four, verdict_numbers, length_numbers, done_numbers, followed_numbers}
use Rattle.expression.specs.Table.{node, count}
use Rattle.expression.specs.Body.{written_of, buffer_of}
use Rattle.witness.specs.Labellings.{labelled_of}
use Rattle.elimination.specs.Removals.{removal_of, left_of}
use Rattle.follower.specs.States.{bytes_in, state_in}
use Rattle.follower.specs.Calls.{followed_as, lent_on}
use Rattle.follower.specs.Lists.{call_by_value, call_in_place}
use Rattle.verdict.specs.Verdicts.{on_loops, accepted, verdict_of}

pub data Case : Type 0 where
  -- the verdict on a yard file, as four numbers
  checks : (file : List ℕ) (answer : Numbers) → Case
  -- the checks of a labelling beside a chart body, as four numbers
  labels : (body labelling : List ℕ) (answer : Numbers) → Case
  -- the expression's chart of some nodes, written to lent bytes: the answer's four numbers, and the lent bytes after it
  writes : (nodes lent : List ℕ) (answer : Numbers) (left : List ℕ) → Case
  -- taking out a loop, of a chart body and a labelling, from lent standing bytes: the same
  removes : (body labelling : List ℕ) (v level : ℕ) (standing : List ℕ) (answer : Numbers) (left : List ℕ) → Case
  -- events and restarts over a chart body: on a state by value, on one that is lent itself, on lent bytes, each call on
  -- what the one before handed back or left: the answers' four numbers, and the state's bytes after the list
  follows : (body state : List ℕ) (calls : List Call) (answers : List Numbers) (left : List ℕ) → Case
  follows_in_place : (body state : List ℕ) (calls : List Call) (answers : List Numbers) (left : List ℕ) → Case
  follows_lent : (body state : List ℕ) (calls : List Call) (answers : List Numbers) (left : List ℕ) → Case
  -- the published rules' follower for some nodes, from a fresh start
  rules_follow : (nodes : List ℕ) (calls : List Call) (answers : List Numbers) → Case

abbrev pub same_numbers : Numbers → Numbers → Bool
same_numbers a b = eqb a.n b.n && eqb a.p b.p && eqb a.q b.q && eqb a.r b.r

abbrev pub same_bytes : List ℕ → List ℕ → Bool
same_bytes [] [] = true
same_bytes [] (y ∷ ys) = false
same_bytes (x ∷ xs) [] = false
same_bytes (x ∷ xs) (y ∷ ys) = eqb x y && same_bytes xs ys

abbrev pub same_answers : List Numbers → List Numbers → Bool
same_answers [] [] = true
same_answers [] (y ∷ ys) = false
same_answers (x ∷ xs) [] = false
same_answers (x ∷ xs) (y ∷ ys) = same_numbers x y && same_answers xs ys

-- the root's expression
abbrev pub root_of : List ℕ → Expr
root_of nodes = expr (node nodes) (count nodes - 1)

abbrev pub holds : Case → Bool
holds (checks file answer) = same_numbers (verdict_numbers (verdict_of file)) answer
holds (labels body labelling answer) =
    same_numbers (verdict_numbers (on_loops (labelled_of body labelling) (accepted body))) answer
holds (writes nodes lent answer left) =
    same_numbers (length_numbers (written_of nodes (length lent))) answer
    && same_bytes (buffer_of nodes lent) left
holds (removes body labelling v level standing answer left) =
    same_numbers (done_numbers (removal_of body labelling v level standing)) answer
    && same_bytes (left_of body labelling v level standing) left
holds (follows body state calls answers left) =
    same_answers (map followed_numbers (run (call_by_value body) calls (state_in state))) answers
    && same_bytes (bytes_in (run_leaves (call_by_value body) calls (state_in state))) left
holds (follows_in_place body state calls answers left) =
    same_answers (map followed_numbers (run (call_in_place body) calls (state_in state))) answers
    && same_bytes (bytes_in (run_leaves (call_in_place body) calls (state_in state))) left
holds (follows_lent body state calls answers left) =
    same_answers (map followed_numbers (run (lent_on body) calls state)) answers
    && same_bytes (run_leaves (lent_on body) calls state) left
holds (rules_follow nodes calls answers) =
    same_answers (map (λ x. followed_numbers (followed_as x)) (run_fresh event_rule (rule_machine (root_of nodes)) false calls))
    answers

abbrev pub all_hold : List Case → Bool
all_hold [] = true
all_hold (c ∷ cs) = holds c && all_hold cs

-- G's record of kind 1, and the same with the root 04 00 00 00
unfoldable pub nodes_g : List ℕ
nodes_g =
    0x01 ∷ 0x01 ∷ 0x00 ∷ 0x00
    ∷ 0x01 ∷ 0x02 ∷ 0x00 ∷ 0x00
    ∷ 0x04 ∷ 0x00 ∷ 0x00 ∷ 0x01 ∷ []

unfoldable pub nodes_twice : List ℕ
nodes_twice =
    0x01 ∷ 0x01 ∷ 0x00 ∷ 0x00
    ∷ 0x01 ∷ 0x02 ∷ 0x00 ∷ 0x00
    ∷ 0x04 ∷ 0x00 ∷ 0x00 ∷ 0x00 ∷ []

-- a + a
unfoldable pub nodes_sum : List ℕ
nodes_sum =
    0x01 ∷ 0x07 ∷ 0x00 ∷ 0x00
    ∷ 0x01 ∷ 0x07 ∷ 0x00 ∷ 0x00
    ∷ 0x02 ∷ 0x00 ∷ 0x00 ∷ 0x01 ∷ []

-- G's chart: V 2, start 1, (1,1,1) (1,2,0)
unfoldable pub chart_g : List ℕ
chart_g =
    0x02 ∷ 0x01 ∷ 0x02 ∷ 0x00
    ∷ 0x01 ∷ 0x01 ∷ 0x01 ∷ 0x00
    ∷ 0x01 ∷ 0x02 ∷ 0x00 ∷ 0x00 ∷ []

-- a row of a relation whose first byte is given; a follower's state with such a set, and its mark
abbrev pub relation_row : ℕ → List ℕ
relation_row b = b ∷ replicate 15 0x00

abbrev pub state_of : ℕ → ℕ → List ℕ
state_of b mark = relation_row b ++ mark ∷ []

-- G with these nodes, labels and first and last rows of its relation
unfoldable pub file_g : List ℕ → List ℕ → ℕ → ℕ → List ℕ
file_g nodes labelling first last =
    (0x0C ∷ 0x00 ∷ 0x01 ∷ 0x00 ∷ nodes)
    ++ ((0x0C ∷ 0x00 ∷ 0x02 ∷ 0x00 ∷ chart_g)
    ++ ((0x02 ∷ 0x00 ∷ 0x03 ∷ 0x00 ∷ labelling)
    ++ ((0x40 ∷ 0x00 ∷ 0x04 ∷ 0x00 ∷ relation_row first)
    ++ (relation_row 0x00 ++ (relation_row 0x00 ++ relation_row last)))))

-- V 3, start 1, (1,1,2) (1,3,0) (2,1,2) (2,2,1)
unfoldable pub nested : List ℕ
nested =
    0x03 ∷ 0x01 ∷ 0x04 ∷ 0x00
    ∷ 0x01 ∷ 0x01 ∷ 0x02 ∷ 0x00
    ∷ 0x01 ∷ 0x03 ∷ 0x00 ∷ 0x00
    ∷ 0x02 ∷ 0x01 ∷ 0x02 ∷ 0x00
    ∷ 0x02 ∷ 0x02 ∷ 0x01 ∷ 0x00 ∷ []

unfoldable pub nested_labels : List ℕ
nested_labels = 0x02 ∷ 0x00 ∷ 0x01 ∷ 0x00 ∷ []

-- four standing bytes
abbrev pub standing : ℕ → ℕ → ℕ → ℕ → List ℕ
standing a b c d = a ∷ b ∷ c ∷ d ∷ []

unfoldable pub labels_g : List ℕ
labels_g = 0x01 ∷ 0x00 ∷ []

-- G's expression chart: V 4, start 3, (1,1,3) (2,2,0) (3,1,3) (3,2,0)
unfoldable pub written_g : List ℕ
written_g =
    0x04 ∷ 0x03 ∷ 0x04 ∷ 0x00
    ∷ 0x01 ∷ 0x01 ∷ 0x03 ∷ 0x00
    ∷ 0x02 ∷ 0x02 ∷ 0x00 ∷ 0x00
    ∷ 0x03 ∷ 0x01 ∷ 0x03 ∷ 0x00
    ∷ 0x03 ∷ 0x02 ∷ 0x00 ∷ 0x00 ∷ []

-- that of a + a: V 4, start 3, (1,7,0) (2,7,0) (3,7,0)
unfoldable pub written_sum : List ℕ
written_sum =
    0x04 ∷ 0x03 ∷ 0x03 ∷ 0x00
    ∷ 0x01 ∷ 0x07 ∷ 0x00 ∷ 0x00
    ∷ 0x02 ∷ 0x07 ∷ 0x00 ∷ 0x00
    ∷ 0x03 ∷ 0x07 ∷ 0x00 ∷ 0x00 ∷ []

-- restart, 1, 2, 1 over G: taken no 2; taken no 2; taken yes 0; not possible yes 0
unfoldable pub calls_g : List Call
calls_g = restart ∷ event 1 ∷ event 2 ∷ event 1 ∷ []

unfoldable pub answers_g : List Numbers
answers_g = four 0 1 0 2 ∷ four 0 1 0 2 ∷ four 0 1 1 0 ∷ four 0 0 1 0 ∷ []

unfoldable pub cases : List Case
cases =
    -- G
    checks (file_g nodes_g labels_g 0x01 0x02) (four 0 2 2 1)
    -- empty
    ∷ checks [] (four 2 1 0 0)
    -- G and a byte
    ∷ checks (file_g nodes_g labels_g 0x01 0x02 ++ 0x00 ∷ []) (four 4 106 0 0)
    -- labels 00 00, 01 01, 01 02
    ∷ checks (file_g nodes_g (0x00 ∷ 0x00 ∷ []) 0x01 0x02) (four 32 1 0 0)
    ∷ checks (file_g nodes_g (0x01 ∷ 0x01 ∷ []) 0x01 0x02) (four 34 1 1 0)
    ∷ checks (file_g nodes_g (0x01 ∷ 0x02 ∷ []) 0x01 0x02) (four 33 1 2 0)
    -- row 3 cleared, row 0 cleared, row 0 03
    ∷ checks (file_g nodes_g labels_g 0x01 0x00) (four 42 3 1 0)
    ∷ checks (file_g nodes_g labels_g 0x00 0x02) (four 44 3 1 3)
    ∷ checks (file_g nodes_g labels_g 0x03 0x02) (four 43 0 1 0)
    -- the root 04 00 00 00
    ∷ checks (file_g nodes_twice labels_g 0x01 0x02) (four 12 0 2 0)
    -- the chart of two nested loops with labels 1 0 1 0: a loop of equal level inside, at vertex 2
    ∷ labels nested (0x01 ∷ 0x00 ∷ 0x01 ∷ 0x00 ∷ []) (four 35 1 1 2)
    ∷ labels nested nested_labels (four 0 3 4 2)
    -- G's expression chart; the two lent bytes past it are kept
    ∷ writes nodes_g (replicate 22 0xAA) (four 0 20 0 0) (written_g ++ 0xAA ∷ 0xAA ∷ [])
    -- a lent byte too few: refused 54 with the bytes needed, and nothing lent is touched
    ∷ writes nodes_g (replicate 19 0xAA) (four 54 20 0 0) (replicate 19 0xAA)
    -- the root 04 00 00 00: refused 12 0 2 0
    ∷ writes nodes_twice (replicate 20 0xAA) (four 12 0 2 0) (replicate 20 0xAA)
    -- a + a has one transition
    ∷ writes nodes_sum (replicate 16 0xAA) (four 0 16 0 0) written_sum
    -- two nested loops, all standing: the outer one breaks L2; the inner one goes, and then the outer one
    ∷ removes nested nested_labels 1 2 (standing 1 1 1 1) (four 52 1 2 2) (standing 1 1 1 1)
    ∷ removes nested nested_labels 2 1 (standing 1 1 1 1) (four 0 0 0 0) (standing 1 1 0 1)
    ∷ removes nested nested_labels 1 2 (standing 1 1 0 1) (four 0 0 0 0) (standing 0 1 0 1)
    -- a loop that is gone, and branches, which have no level
    ∷ removes nested nested_labels 2 1 (standing 1 1 0 1) (four 51 2 1 0) (standing 1 1 0 1)
    ∷ removes nested nested_labels 2 0 (standing 1 1 1 1) (four 51 2 0 0) (standing 1 1 1 1)
    -- no way on from vertex 2: L1 is broken; an entry that leads to the end: L3
    ∷ removes nested nested_labels 1 2 (standing 1 1 0 0) (four 52 1 2 1) (standing 1 1 0 0)
    ∷ removes chart_g (0x01 ∷ 0x01 ∷ []) 1 1 (1 ∷ 1 ∷ []) (four 52 1 1 3) (1 ∷ 1 ∷ [])
    -- a standing byte that is neither 0 nor 1; one too few
    ∷ removes nested nested_labels 2 1 (standing 1 1 1 2) (four 50 0 0 0) (standing 1 1 1 2)
    ∷ removes nested nested_labels 2 1 (1 ∷ 1 ∷ 1 ∷ []) (four 50 0 0 0) (1 ∷ 1 ∷ 1 ∷ [])
    -- restart, 1, 2, 1 over G's chart, over its expression chart and by the rules; the end alone is left, spoilt
    ∷ follows chart_g (state_of 0x00 0x00) calls_g answers_g (state_of 0x01 0x01)
    ∷ follows_in_place chart_g (state_of 0x00 0x00) calls_g answers_g (state_of 0x01 0x01)
    ∷ follows_lent chart_g (replicate 17 0xAA) calls_g answers_g (state_of 0x01 0x01)
    ∷ follows written_g (state_of 0x00 0x00) calls_g answers_g (state_of 0x01 0x01)
    ∷ follows_in_place written_g (state_of 0x00 0x00) calls_g answers_g (state_of 0x01 0x01)
    ∷ follows_lent written_g (replicate 17 0xAA) calls_g answers_g (state_of 0x01 0x01)
    ∷ rules_follow nodes_g calls_g answers_g
    -- and then it is spoilt until a restart
    ∷ follows chart_g (state_of 0x01 0x01) (event 1 ∷ restart ∷ []) (four 0 2 0 0 ∷ four 0 1 0 2 ∷ []) (state_of 0x02 0x00)
    ∷ follows_lent written_g (state_of 0x01 0x01) (event 1 ∷ event 2 ∷ []) (four 0 2 0 0 ∷ four 0 2 0 0 ∷ []) (state_of 0x01 0x01)
    ∷ rules_follow nodes_g (event 2 ∷ event 1 ∷ event 1 ∷ restart ∷ [])
    (four 0 1 1 0 ∷ four 0 0 1 0 ∷ four 0 2 0 0 ∷ four 0 1 0 2 ∷ [])
    -- the empty set, and one with the vertex V: an event is refused 53 and leaves them, a restart is taken
    ∷ follows chart_g (state_of 0x00 0x01) (event 1 ∷ restart ∷ []) (four 53 0 0 0 ∷ four 0 1 0 2 ∷ []) (state_of 0x02 0x00)
    ∷ follows chart_g (state_of 0x06 0x00) (event 1 ∷ []) (four 53 0 0 0 ∷ []) (state_of 0x06 0x00)
    ∷ follows_lent chart_g (state_of 0x06 0x01) (event 1 ∷ []) (four 53 0 0 0 ∷ []) (state_of 0x06 0x01)
    -- a mark of 2: the same
    ∷ follows_lent chart_g (state_of 0x02 0x02) (event 1 ∷ []) (four 53 0 0 0 ∷ []) (state_of 0x02 0x02)
    ∷ follows_lent chart_g (state_of 0x02 0x02) (restart ∷ event 1 ∷ []) (four 0 1 0 2 ∷ four 0 1 0 2 ∷ []) (state_of 0x02 0x00)
    -- sixteen lent bytes are refused 53, by a restart too
    ∷ follows_lent chart_g (relation_row 0x02) (restart ∷ event 1 ∷ []) (four 53 0 0 0 ∷ four 53 0 0 0 ∷ []) (relation_row 0x02)
    -- event 0 is not possible
    ∷ follows chart_g (state_of 0x02 0x00) (event 0 ∷ []) (four 0 0 0 2 ∷ []) (state_of 0x02 0x01)
    -- no chart: a refused restart hands back the empty set by value, not spoilt, and leaves lent bytes as they are
    ∷ follows [] (state_of 0x02 0x01) (event 1 ∷ []) (four 20 0 0 0 ∷ []) (state_of 0x02 0x01)
    ∷ follows [] (state_of 0x02 0x01) (event 1 ∷ restart ∷ []) (four 20 0 0 0 ∷ four 20 0 0 0 ∷ []) (state_of 0x00 0x00)
    ∷ follows_lent [] (state_of 0x02 0x01) (restart ∷ []) (four 20 0 0 0 ∷ []) (state_of 0x02 0x01)
    -- a + a offers one action
    ∷ rules_follow nodes_sum (restart ∷ event 7 ∷ []) (four 0 1 0 1 ∷ four 0 1 1 0 ∷ [])
    ∷ []
