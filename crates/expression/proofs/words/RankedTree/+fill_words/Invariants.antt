use Prim.Native.Nat.{◌+◌, ◌*◌}
use Rattle.expression.proofs.words.RankedTree.+fill_words.Given as goal

-- The node's number: operands are lower.
abbrev pub decreases-fill_words : goal.decreases-fill_words
decreases-fill_words l = 2 * l.k + 1

abbrev pub decreases-fill_joined : goal.decreases-fill_joined
decreases-fill_joined l = 2 * l.k
