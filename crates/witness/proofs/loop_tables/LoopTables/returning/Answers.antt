use borrow.Author.Rules.{rules}
use Rattle.witness.specs.Loops.{Back}
use Rattle.witness.proofs.Sifting.{sifted}
use Prim.Native.Nat.{◌+◌}
use native.Mathlib.Omega.{arith}
use Rattle.bits.specs.Sets.{SetFits}
use Rattle.bits.proofs.Words.{bit_below}
use Rattle.bits.proofs.Members.{low_has, high_has}
use Rattle.witness.proofs.loop_tables.LoopTables.returning.Goals as goal

pub returning_bits-requires : goal.returning_bits-requires
returning_bits-requires c =
    let a = c.args in
    let p = c.requires in
    let F : SetFits a.set = search rules in
    (λ k on. omega (arith, p.0 k (low_has a.set k (bit_below 64 a.set.lo k F.0 on) on)), p.1, omega arith)

pub returning_bits-requires-2 : goal.returning_bits-requires-2
returning_bits-requires-2 c =
    let a = c.args in
    let p = c.requires in
    let F : SetFits a.set = search rules in
    (λ k on. p.0 (64 + k) (high_has a.set k (bit_below 64 a.set.hi k F.1 on) on), p.1, omega arith)

pub returns : goal.returns
returns c =
    let a = c.args in
    sifted (Back a.self.now.branches.after.now a.v) a.set _ c.returning_bits.ensures c.returning_bits-2.ensures
