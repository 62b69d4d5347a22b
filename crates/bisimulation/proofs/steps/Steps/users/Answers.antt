use native.Mathlib.Omega.{arith}
use mathlib.Core.Path.{◌≡◌}
use Rattle.bisimulation.proofs.TableLaws.{users_none, users_more}
use Rattle.bisimulation.proofs.steps.Steps.users.Goals as goal

pub loop-u-init : goal.loop-u-init
loop-u-init c = (omega arith, rw c.requires (users_none c.args.self.now.words.now))

pub spread-requires : goal.spread-requires
spread-requires c =
    let S = c.args.self.now.stepped in
    λ k on. omega (arith, S.known _ k on, S.steps_few, c.loop-u.invariant.1.long)

pub loop-u-preserved : goal.loop-u-preserved
loop-u-preserved c =
    let s = c.stretch-b.ensures in
    (s.within, users_more c.args.self.now.words.now _ c.loop-u.invariant.1 s c.between.ensures c.spread.ensures)

pub returns : goal.returns
returns c = let e : c.loop-u.u ≡ c.args.self.now.relation.rows = omega (arith, c.loop-u.invariant.0, c.loop-u-test.false) in rw e at c.loop-u.invariant.1
