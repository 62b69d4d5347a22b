use native.Mathlib.Omega.{arith}
use Rattle.chart.proofs.Checks.{passes}
use Rattle.chart.proofs.Rows.{looked_up, leaving_row, beside_long, beside_stands}
use Rattle.elimination.proofs.Entries.{entry_all}
use Rattle.elimination.proofs.opening.Standing.entry_targets.Goals as goal

pub part_in-requires : goal.part_in-requires
part_in-requires c = (passes _ c.args.self.now.fits.formed, c.requires)

pub labelled_in-requires : goal.labelled_in-requires
labelled_in-requires c =
    let F = c.args.self.now.fits in
    let (v, R) = c.requires in
    let B = c.args.self.now.bytes in
    let f = c.part_in.ensures v R in
    let S = looked_up _ v B (passes _ F.formed) f in (
      leaving_row _ v B (passes _ F.formed) f,
      beside_long S R _ (omega (arith, F.each)),
      beside_long S R _ (omega (arith, F.marked.long)),
    )

pub returns : goal.returns
returns c =
    let F = c.args.self.now.fits in
    let B = c.args.self.now.bytes in
    λ v R. entry_all (omega (arith, c.if-level-eq0.false))
    (beside_stands (looked_up _ v B (passes _ F.formed) (c.part_in.ensures v R)) R c.labelled_in.ensures)
