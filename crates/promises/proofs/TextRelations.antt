-- For every table that has the start's text in post-order some relation passes 40 to 45 against the chart.
use mathlib.Core.Path.{◌≡◌, sym, ap, ◌∙◌}
use mathlib.Core.Logic.Iff
use mathlib.Core.Logic.{◌↔◌, by_cases}
use mathlib.Core.Bool.{Bool}
use mathlib.Core.List.{List, ◌++◌}
use Prim.Native.Nat.{ℕ, zero, suc, ◌+◌, ◌-◌, ◌*◌, ◌≤◌, ◌<◌}
use native.Mathlib.Decide.{dec_lt}
use native.Mathlib.Omega.{arith}
use lib.ListN.{length, get_or, get_or-append}
use lib.Seq.{get_or-append-add}
use Rattle.theory.specs.Expressions.{Expr}
use Rattle.theory.specs.Systems.{Bisimulation}
use Rattle.theory.specs.Tests.{Decides}
use Rattle.theory.specs.Texts.{Text}
use Rattle.theory.specs.PostOrders.{PostOrder}
use Rattle.theory.specs.Remains.{RemainsAt}
use Rattle.theory.proofs.Tests.{test_of, decides_dec}
use Rattle.theory.proofs.Systems.{same_relation}
use Rattle.theory.proofs.TextCharts.{table_bisimulation}
use Rattle.theory.proofs.Decisions.{remains-at?, remains_at_below}
use Rattle.std.specs.Prelude.{Ok}
use Rattle.bits.specs.Bits.{Bytes, set_bytes}
use Rattle.bits.proofs.SetBytes.{set_length, set_bytes_lem}
use Rattle.chart.specs.Bodies.{vertices_of, start_of, WellFormed}
use Rattle.chart.specs.Systems.{system_of, drawn_of}
use Rattle.chart.proofs.Relations.{indexed_member, drawn_formed}
use Rattle.expression.specs.Table.{node, count}
use Rattle.expression.specs.Body.{body_of, chart_transitions}
use Rattle.expression.proofs.Chart.{body_vertices, body_start, body_transitions}
use Rattle.bisimulation.specs.Relations.{rows_from, relation_of}
use Rattle.bisimulation.specs.Answers.{Related}
use Rattle.bisimulation.proofs.RowLaws.{rows_length, rows_test, related_row, related_column}
use Rattle.bisimulation.proofs.Relations.{same_steps, relation_iff_bisimulation}

-- the rows of a test are bytes
rows_bytes : (t : ℕ → ℕ → Bool) (u n : ℕ) → Bytes (rows_from t u n)
unfolding rows_from
rows_bytes t u zero k = omega arith
rows_bytes t u (suc n) k =
    by_cases (dec_lt k 16)
    (λ h. rw (get_or-append (set_bytes (t u)) (rows_from t (suc u) n) 0 k (omega (arith, set_length (t u)))) (set_bytes_lem (t u) k))
    (λ h.
    let e : length (set_bytes (t u)) + (k - 16) ≡ k = omega (arith, set_length (t u)) in
    rw (sym (ap (λ (j : ℕ). get_or (set_bytes (t u) ++ rows_from t (suc u) n) j 0) e)
    ∙ get_or-append-add (set_bytes (t u)) (rows_from t (suc u) n) (k - 16) 0)
    (rows_bytes t (suc u) n (k - 16)))

module _ (body labels : List ℕ) (W : WellFormed body) where
  -- a table s that has the start's text in post-order
  module _ (s : List ℕ) (e : Expr) (root : ℕ) (last : count s ≡ suc root) (post : PostOrder (node s) 0 e root)
      (t : Text (drawn_of body labels) (start_of body) 0 e) where
    Remaining : ℕ → ℕ → Type 0
    Remaining = RemainsAt (drawn_of body labels) (vertices_of body) (node s) (suc root)

    some_vertex : 0 < vertices_of body
    some_vertex = omega (arith, W.header.vertices_low)

    test : ℕ → ℕ → Bool
    test u v = test_of (remains-at? (drawn_of body labels) (vertices_of body) some_vertex (node s) (suc root) u v)

    decides : (u v : ℕ) → Decides (test u v) (Remaining u v)
    unfolding test Remaining
    decides u v = decides_dec (remains-at? (drawn_of body labels) (vertices_of body) some_vertex (node s) (suc root) u v)

    inside : (u v : ℕ) → Remaining u v → (u ≤ suc root) × (v < vertices_of body)
    unfolding Remaining
    inside u v r = remains_at_below (drawn_of body labels) (vertices_of body) some_vertex (node s) (suc root) u v r

    relation : List ℕ
    relation = rows_from test 0 (suc (suc root))

    long : length relation ≡ 16 * suc (suc root)
    unfolding relation
    long = rows_length test 0 (suc (suc root))

    bits : (u v : ℕ) → Remaining u v ↔ Related relation u v
    unfolding relation
    bits u v = (
      (λ r.
          let b = inside u v r in
          rows_test test (suc (suc root)) u v (omega arith) (omega (arith, W.header.vertices_high)) ∙ (decides u v).1 r),
      (λ q.
          let l = related_row relation (suc (suc root)) u v long q in
          (decides u v).0 (sym (rows_test test (suc (suc root)) u v l (related_column relation u v q)) ∙ q)),
    )

    matched : Bisimulation (system_of (body_of s)) (system_of body) (Related relation)
    unfolding chart_transitions Remaining
    matched =
        rw (body_start s, body_transitions s, last)
        (same_relation bits
        (same_steps (λ u a w. Iff.rfl) (indexed_member body) (suc root) (start_of body)
        (RemainsAt (drawn_of body labels) (vertices_of body) (node s) (suc root))
        (table_bisimulation (drawn_of body labels) (vertices_of body) (drawn_formed body labels W) W.header.start_high
        (node s) e root post t)))

    pub some_relation : (r : List ℕ) × Bytes r × (relation_of (body_of s) body r ≡ Ok tt)
    unfolding relation
    some_relation = (
      relation,
      rows_bytes test 0 (suc (suc root)),
      (relation_iff_bisimulation (body_of s) body relation).1 (
        long ∙ omega (arith, body_vertices s),
        (λ u v q. let b = inside u v ((bits u v).1 q) in (omega (arith, body_vertices s), b.1)),
        matched,
      ),
    )
