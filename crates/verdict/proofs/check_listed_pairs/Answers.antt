use mathlib.Core.Path.{refl}
use native.Mathlib.Omega.{arith}
use Rattle.bits.specs.Bits.{Bytes}
use Rattle.expression.specs.Body.{body_of}
use Rattle.bisimulation.proofs.Openings.{none_doubtful, stepped}
use Rattle.verdict.proofs.Stages.{listed_chart}
use Rattle.verdict.proofs.check_listed_pairs.Goals as goal

pub list_steps-count-requires : goal.list_steps-count-requires
list_steps-count-requires c = let p = c.requires in (p.0.both.0, p.1, refl, refl)

pub invariant_of-steps : goal.invariant_of-steps
invariant_of-steps c =
    let B : Bytes c.args.nodes.now = λ i. omega (arith, c.type_inv.nodes i) in
    record { stepped = stepped (body_of c.args.nodes.now, listed_chart B c.requires.0 c.list_steps-count.ensures) }

pub doubtful-suspects-requires : goal.doubtful-suspects-requires
doubtful-suspects-requires c =
    let B : Bytes c.args.nodes.now = λ i. omega (arith, c.type_inv.nodes i) in
    (body_of c.args.nodes.now, listed_chart B c.requires.0 c.list_steps-count.ensures)

pub returns-then-is_empty : goal.returns-then-is_empty
returns-then-is_empty c =
    let B : Bytes c.args.nodes.now = λ i. omega (arith, c.type_inv.nodes i) in
    let L = listed_chart B c.requires.0 c.list_steps-count.ensures in
    none_doubtful L (c.doubtful-suspects.ensures (body_of c.args.nodes.now) L) (c.is_empty.ensures.0 c.if-is_empty.true)

pub search_pairs-requires : goal.search_pairs-requires
search_pairs-requires c =
    let B : Bytes c.args.nodes.now = λ i. omega (arith, c.type_inv.nodes i) in
    let L = listed_chart B c.requires.0 c.list_steps-count.ensures in
    (c.requires.0, c.doubtful-suspects.ensures (body_of c.args.nodes.now) L)
