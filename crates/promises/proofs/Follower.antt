-- The follower, by the numbers, proved.
use mathlib.Core.List.{List}
use Prim.Native.Nat.{ℕ, zero, suc}
use native.Mathlib.Omega.{arith}
use lib.ListN.{length-replicate, replicate}
use Rattle.theory.specs.Events.{Call, restart}
use Rattle.report.specs.Numbers.{followed_numbers}
use Rattle.bits.specs.Bits.{Bytes}
use Rattle.follower.specs.declared.Follower.{Follower}
use Rattle.follower.specs.States.{Formed, no_state}
use Rattle.follower.proofs.Calls.{call_says, lent_says}
use Rattle.promises.specs.Follower.{CallByNumbers, LentByNumbers}
use Rattle.promises.proofs.Numbered.{by_numbers}

pub lent_numbers : (b s : List ℕ) → Bytes s → (c : Call) → LentByNumbers b s c
lent_numbers b s B c = by_numbers followed_numbers (lent_says b s B c)

pub call_numbers : (b : List ℕ) (f : Follower) → Formed f → (c : Call) → CallByNumbers b f c
call_numbers b f F c = by_numbers followed_numbers (call_says b f F c)

-- a restart by value is one on the empty state
no_state_lem : Formed no_state
no_state_lem = record { sixteen = length-replicate {A = ℕ} 16 0; bytes = zeros 16 }
  where
    zeros : (n : ℕ) → Bytes (replicate n 0)
    zeros zero k = omega arith
    zeros (suc n) zero = omega arith
    zeros (suc n) (suc k) = zeros n k

pub restart_numbers : (b : List ℕ) → CallByNumbers b no_state restart
restart_numbers b = call_numbers b no_state no_state_lem restart
