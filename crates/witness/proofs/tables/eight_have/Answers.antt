use mathlib.Core.Path.{sym, ◌∙◌}
use native.Mathlib.Omega.{arith}
use Rattle.bits.specs.Bits.{Bytes}
use Rattle.theory.proofs.Tests.{decides_and, decides_eqb}
use Rattle.witness.proofs.Runs.{eight_branches, eight_same}
use Rattle.witness.proofs.tables.eight_have.Goals as goal

pub returns-then-label-eq0 : goal.returns-then-label-eq0
returns-then-label-eq0 c = λ e i p q.
    let B : Bytes c.args.labels.now = λ j. omega (arith, c.type_inv.labels j) in
    let z = (decides_eqb c.read_u64.result 0).0 e in
    rw c.if-label-eq0.true (eight_branches B c.read_u64.ensures z i p q)

pub returns : goal.returns
returns c = λ e.
    let (x, y) = (decides_and (decides_eqb c.read_u32.result _) (decides_eqb c.read_u32-2.result _)).0 e in
    let B : Bytes c.args.labels.now = λ i. omega (arith, c.type_inv.labels i) in
    eight_same c.args.labels.now B c.requires.1
    (sym c.read_u32.ensures.0 ∙ x) (sym c.read_u32-2.ensures.0 ∙ y)
