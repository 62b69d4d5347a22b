use native.Mathlib.Omega.{arith}
use Rattle.bits.specs.Bits.{Bytes}
use Rattle.expression.specs.Body.{body_of}
use Rattle.bisimulation.proofs.Openings.{stepped, some_listed}
use Rattle.verdict.proofs.Stages.{numbered_chart}
use Rattle.verdict.proofs.search_pairs.Goals as goal

pub invariant_of-steps : goal.invariant_of-steps
invariant_of-steps c =
    let B : Bytes c.args.nodes.now = λ i. omega (arith, c.type_inv.nodes i) in
    let N = numbered_chart B c.requires.0 c.number_steps-count.ensures in
    record { stepped = stepped (some_listed (body_of c.args.nodes.now, N, c.requires.1)) }

pub check_pairs-requires : goal.check_pairs-requires
check_pairs-requires c =
    let B : Bytes c.args.nodes.now = λ i. omega (arith, c.type_inv.nodes i) in
    (body_of c.args.nodes.now, numbered_chart B c.requires.0 c.number_steps-count.ensures, c.requires.1)

pub returns : goal.returns
returns c =
    let B : Bytes c.args.nodes.now = λ i. omega (arith, c.type_inv.nodes i) in
    c.check_pairs.ensures (body_of c.args.nodes.now) (numbered_chart B c.requires.0 c.number_steps-count.ensures) c.requires.1
