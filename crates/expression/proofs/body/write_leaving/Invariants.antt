use Prim.Native.Nat.{◌<◌}
use Rattle.expression.specs.Listing.{word_transitions, KeysFit}
use Rattle.expression.specs.Body.{flat}
use Rattle.expression.proofs.Stores.{Writing}
use Rattle.expression.proofs.body.write_leaving.Given as goal

-- `expression::body::write_leaving` meets its contract. The invariant: with the bytes of the bits that are left stored, the lent bytes are as they are to become.
abbrev pub invariant-loop-left : goal.invariant-loop-left
invariant-loop-left l = (l.k < 128) × KeysFit l.keys l.left × Writing l.out l.p (flat (word_transitions l.keys l.k l.left)) l.initial.out l.at (flat (word_transitions l.keys l.k l.word))

abbrev pub decreases-loop-left : goal.decreases-loop-left
decreases-loop-left l = l.left
