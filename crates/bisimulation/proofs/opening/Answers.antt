use native.Mathlib.Omega.{arith}
use mathlib.Core.Path.{sym, ◌∙◌}
use mathlib.Core.Bool.{false≢true}
use Rattle.chart.proofs.Checks.{well_formed}
use Rattle.bisimulation.proofs.Openings.{opening_40, opening_41, opening_42, opening_passed}
use Rattle.bisimulation.proofs.opening.Goals as goal

pub returns-then-relation-vertices : goal.returns-then-relation-vertices
returns-then-relation-vertices c = opening_40 _ _ _ _ c.if-relation-vertices.true

pub invariant_of-relation : goal.invariant_of-relation
invariant_of-relation c = record { whole = c.if-relation-vertices.false; few = c.requires.1 }

pub returns-then-not-all_inside : goal.returns-then-not-all_inside
returns-then-not-all_inside c =
    opening_41 _ _ _ _ c.if-relation-vertices.false c.strays.ensures
    (λ n. false≢true (sym c.if-not-all_inside.true ∙ c.all_inside.ensures.1 n))

pub byte-q-requires : goal.byte-q-requires
byte-q-requires c = omega (arith, (well_formed _ c.requires.0).header.long)

pub related-requires : goal.related-requires
related-requires c =
    let h = (well_formed _ c.requires.0).header in (c.requires.2, omega (arith, h.vertices_high, h.start_high, c.byte-q.ensures.0))

pub returns-then-not-related : goal.returns-then-not-related
returns-then-not-related c =
    opening_42 _ _ _ _ c.if-relation-vertices.false
    (c.all_inside.ensures.0 c.if-not-all_inside.false) c.byte-q.ensures.0
    (λ r. false≢true (sym c.if-not-related.true ∙ c.related.ensures.1 r))

pub returns : goal.returns
returns c =
    opening_passed _ _ _ _ c.if-relation-vertices.false
    (c.all_inside.ensures.0 c.if-not-all_inside.false) c.byte-q.ensures.0
    (c.related.ensures.0 c.if-not-related.false)
