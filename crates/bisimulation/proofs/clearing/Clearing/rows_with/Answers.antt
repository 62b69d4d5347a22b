use mathlib.Core.Path.{subst}
use Prim.Native.Nat.{ℕ}
use Rattle.bits.specs.Sets.{Members}
use Rattle.bits.specs.Tables.{InSome}
use Rattle.bisimulation.proofs.clearing.Clearing.rows_with.Goals.{then-known-steps, else-known-steps}
use Rattle.bisimulation.proofs.clearing.Clearing.rows_with.Goals as goal

pub returns : goal.returns
returns c =
    let k = c.args in elim c.if-known-steps.branch [
      | then-known-steps w ↦ rw w.known-is (record { rows = w.united-known.ensures; known = w.united-known.ensures })
      | else-known-steps w ↦
          rw w.known-is (record {
            rows = subst (λ (x : ℕ). Members (InSome k.self.now.users.now x) k.known.now.rows) w.if-known-steps.false c.requires;
            known = c.requires;
          })
    ]
