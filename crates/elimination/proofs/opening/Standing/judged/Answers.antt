use mathlib.Core.Path.{refl, sym, ◌∙◌}
use Rattle.std.proofs.lemmas.Result.{err_from_is_err_and}
use Rattle.theory.specs.Removals.{done}
use Rattle.chart.proofs.Checks.{passes}
use Rattle.elimination.proofs.Walking.{settled_fresh}
use Rattle.elimination.proofs.Answers.{start_low, start_not_end, judged_stays, judged_goes}
use Rattle.elimination.proofs.opening.Standing.judged.Goals as goal

pub fill_begins-requires : goal.fill_begins-requires
fill_begins-requires c = passes _ c.args.self.now.fits.formed

pub new-chart-requires : goal.new-chart-requires
new-chart-requires c = (passes _ c.args.self.now.fits.formed, c.fill_begins.ensures)

pub new-requires-2 : goal.new-requires-2
new-requires-2 c = start_low c.args.self.now.fits c.requires

pub judge-requires : goal.judge-requires
judge-requires c =
    let A = c.new-2.ensures in
    (settled_fresh A, λ h. start_not_end c.args.self.now.fits c.requires (sym ((A.past 0).0 h)))

pub returns-in_err-judge : goal.returns-in_err-judge
returns-in_err-judge c =
    let x = err_from_is_err_and c.from_residual.result c.from_residual.ensures.1 in
    let (e, f, g) = c.new.ensures in
    rw (x.1, x.2) (judged_stays c.args.self.now.fits c.requires c.new-2.ensures.at
    (rw (e ∙ c.new-chart.ensures, f) at c.in_err-judge.ensures.2))

pub returns : goal.returns
returns c =
    let (e, f, g) = c.new.ensures in (
      done,
      refl,
      judged_goes c.args.self.now.fits c.requires c.new-2.ensures.at
          (rw (e ∙ c.new-chart.ensures, f) at c.in_ok-judge.ensures.2),
    )
