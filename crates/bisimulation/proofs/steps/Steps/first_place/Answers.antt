use native.Mathlib.Omega.{arith}
use mathlib.Core.Path.{◌≡◌}
use Rattle.bisimulation.proofs.PlaceLaws.{places_start, place_vertex}
use Rattle.bisimulation.proofs.steps.Steps.first_place.Goals as goal

pub loop-x-init : goal.loop-x-init
loop-x-init c = (omega arith, λ e keys m W N. places_start W N)

pub loop-x-preserved : goal.loop-x-preserved
loop-x-preserved c =
    let i = c.loop-x.invariant in
    let b = c.count_bits-at.ensures in
    (omega arith, λ e keys m W N. place_vertex W N _ (i.1 e keys m W N) _ b.0)

pub returns : goal.returns
returns c =
    let i = c.loop-x.invariant in
    let e : c.loop-x.x ≡ c.args.u = omega arith in
    (omega arith, rw e at i.1)
