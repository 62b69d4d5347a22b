use mathlib.Core.Path.{refl, ap, ◌∙◌}
use Rattle.chart.proofs.Checks.{passes}
use Rattle.std.proofs.lemmas.Result.{err_from_is_err_and}
use Rattle.theory.specs.Orders.{Pair}
use Rattle.theory.specs.Removals.{done}
use Rattle.theory.specs.MultiSteps.{single, refused_57}
use Rattle.elimination.specs.Together.{loops_of}
use Rattle.elimination.proofs.Removals.{standing_low}
use Rattle.elimination.proofs.LoopLists.{loops_long, loops_at}
use Rattle.elimination.proofs.Rulings.{lowest_inside, nothing_inside, ruling_refused, ruling_gone}
use Rattle.elimination.proofs.opening.Standing.ruled_together.Goals as goal

pub fill_begins-requires : goal.fill_begins-requires
fill_begins-requires c = passes _ c.args.self.now.fits.formed

pub new-chart-requires : goal.new-chart-requires
new-chart-requires c = (passes _ c.args.self.now.fits.formed, c.fill_begins.ensures)

pub ruled_each-requires : goal.ruled_each-requires
ruled_each-requires c = let (e, f, g) = c.new.ensures in (c.requires, e ∙ c.new-chart.ensures, f)

pub returns-in_err-bodies : goal.returns-in_err-bodies
returns-in_err-bodies c =
    let p = err_from_is_err_and c.from_residual.result c.from_residual.ensures.1 in
    rw (p.1, p.2) (ruling_refused c.in_err-bodies.ensures refl)

pub returns-in-Some : goal.returns-in-Some
returns-in-Some c =
    let loops = c.args.loops.now in
    let (each, inside) = ruling_gone c.in_ok-bodies.ensures refl in
    let (h, L) = c.in-Some.ensures in (
      refused_57 _,
      refl,
      lowest_inside (standing_low _ _ _ c.args.self.now.fits.formed) (loops_of loops) inside each
          (λ i h. ap (λ (x : Pair). x.0) (loops_at loops i h)) (loops_long loops) h L,
    )

pub returns-in-None : goal.returns-in-None
returns-in-None c =
    let loops = c.args.loops.now in
    let (each, inside) = ruling_gone c.in_ok-bodies.ensures refl in (
      single done,
      refl,
      nothing_inside (standing_low _ _ _ c.args.self.now.fits.formed) (loops_of loops) inside each
          (λ i h. ap (λ (x : Pair). x.0) (loops_at loops i h)) (loops_long loops) c.in-None.ensures,
    )
