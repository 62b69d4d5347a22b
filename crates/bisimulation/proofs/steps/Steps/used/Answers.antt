use native.Mathlib.Omega.{arith}
use Rattle.bisimulation.proofs.TableLaws.{used_more}
use Rattle.bisimulation.proofs.steps.Steps.used.Goals as goal

pub loop-u-preserved : goal.loop-u-preserved
loop-u-preserved c =
    let i = c.loop-u in used_more c.args.self.now.words.now i.u i.all c.bit_or-all.result i.invariant c.bit_or-all.ensures

pub returns : goal.returns
returns c = λ u k h on. c.loop-u.invariant u k (omega (arith, c.loop-u-test.false)) on
