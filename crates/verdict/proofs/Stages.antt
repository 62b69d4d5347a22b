-- What the stages know of the nodes' and the chart's bytes.
use mathlib.Core.Path.{◌≡◌, sym, ◌∙◌, ap}
use mathlib.Core.List.{List}
use Prim.Native.Nat.{ℕ, ◌+◌, ◌/◌, ◌≤◌}
use native.Mathlib.Omega.{arith}
use lib.ListN.{length}
use Rattle.bits.specs.Bits.{Bytes}
use Rattle.std.specs.Prelude.{Result, Ok}
use Rattle.report.specs.declared.Refusal.{Refusal}
use Rattle.chart.specs.Bodies.{vertices_of, start_of}
use Rattle.chart.specs.Checks as chart
use Rattle.chart.specs.Numbered.{Lists, Numbered}
use Rattle.chart.proofs.Checks.{well_formed}
use Rattle.expression.specs.Table as expression
use Rattle.expression.specs.Table.{count}
use Rattle.expression.specs.Body.{body_of}
use Rattle.expression.proofs.Table.{passed→well_formed}
use Rattle.expression.proofs.Chart.{body_vertices, body_start, body_passes}
use Rattle.bisimulation.specs.Answers.{ListedChart, NumberedChart}
use Rattle.report.specs.declared.Accepted.{Accepted}
use Rattle.verdict.specs.Verdicts.{nodes_in, chart_in, labels_in, relation_in, drawn_verdict, ComeToPairs}

-- the vertices of the expression's chart: one for each node, and the end
pub nodes_few : (s : List ℕ) → expression.check_of s ≡ Ok tt → length s / 4 + 1 ≤ 128
unfolding count
nodes_few s e = let n = (passed→well_formed s e).sized.few in omega (arith, n)

pub nodes_vertices : (s : List ℕ) → vertices_of (body_of s) ≡ length s / 4 + 1
unfolding count
nodes_vertices s = let e = body_vertices s in omega (arith, e)

pub nodes_start : (s : List ℕ) → start_of (body_of s) ≡ length s / 4
unfolding count
nodes_start s = body_start s

pub chart_long : (b : List ℕ) → chart.check_of b ≡ Ok tt → 4 ≤ length b
chart_long b e = (well_formed b e).header.long

-- WHAT 43 TO 45 ARE GIVEN: the expression's chart by its steps, in any order or in order
module _ {nodes b relation keys words : List ℕ} {vertices m : ℕ} (B : Bytes nodes) (C : ComeToPairs nodes vertices b relation) where
  pub listed_chart : Lists (body_of nodes) keys words m → ListedChart keys words m vertices b relation (body_of nodes)
  listed_chart L =
      record { passes = body_passes nodes B C.both.0; size = sym C.is_number; lists = L; fits = C.fits; starts = C.starts }

  pub numbered_chart : Numbered (body_of nodes) keys words m → NumberedChart keys words m vertices b relation (body_of nodes)
  numbered_chart N =
      record { passes = body_passes nodes B C.both.0; size = sym C.is_number; numbered = N; fits = C.fits; starts = C.starts }

-- WHAT A STAGE ANSWERS of bytes that are bodies of the file
pub stage_in : (check : List ℕ → Result Unit Refusal) {x y : List ℕ} {s t : Result Unit Refusal} → x ≡ y → s ≡ check x → s ≡ t → check y ≡ t
stage_in check q e h = ap check (sym q) ∙ sym e ∙ h

-- and the last two stages, of bytes that are bodies of the file
pub drawn_in : (f : List ℕ) {n b l r : List ℕ} {s : Result Accepted Refusal} → n ≡ nodes_in f → b ≡ chart_in f → l ≡ labels_in f
    → r ≡ relation_in f → s ≡ drawn_verdict n b l r → s ≡ drawn_verdict (nodes_in f) (chart_in f) (labels_in f) (relation_in f)
drawn_in f i j k m e = rw (← i, ← j, ← k, ← m) e
