use native.Mathlib.Omega.{arith}
use mathlib.Core.Path.{sym, ◌∙◌}
use mathlib.Core.Bool.{false≢true}
use Rattle.chart.proofs.Checks.{well_formed}
use Rattle.bisimulation.proofs.PairChecks.{pair_passed}
use Rattle.bisimulation.proofs.pairs.Search.suspect_pair.Goals as goal

pub returns-then-not-contains : goal.returns-then-not-contains
returns-then-not-contains c = λ e relation S. pair_passed (λ r. S.others _ _ r (λ h. false≢true (sym c.if-not-contains.true ∙ c.contains.ensures.1 (rw c.row.ensures h))))

pub row-requires : goal.row-requires
row-requires c =
    let h = (well_formed _ c.args.self.now.tables.now.chart.now.passed).header.vertices_high in omega (arith, c.requires.1, h)

pub check_pair-requires : goal.check_pair-requires
check_pair-requires c =
    let h = (well_formed _ c.args.self.now.tables.now.chart.now.passed).header.vertices_high in
    (c.requires.0, omega (arith, c.requires.1, h))

pub returns : goal.returns
returns c = λ e relation S.
    c.check_pair.ensures e relation S.tables (S.given _ _ c.requires.1 (rw c.row.ensures at (c.contains.ensures.0 c.if-not-contains.false)))
