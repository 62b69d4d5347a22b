use Prim.Native.Nat.{◌-◌}
use Rattle.expression.specs.Listing.{listing}
use Rattle.expression.specs.Body.{flat}
use Rattle.expression.proofs.Stores.{Writing}
use Rattle.expression.proofs.body.write_transitions.Given as goal

-- `expression::body::write_transitions` meets its contract. The invariant: with the bytes of the nodes from k on stored, the lent bytes are as they are to become.
abbrev pub invariant-loop-k : goal.invariant-loop-k
invariant-loop-k l = Writing l.out l.at (flat (listing l.keys l.words l.k (l.n - l.k))) l.initial.out 4 (flat (listing l.keys l.words 0 l.n))
