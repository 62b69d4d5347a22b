-- `expression::words::RankedTree::leaf_word` meets its contract. By the kind.
use mathlib.Core.Path.{sym, ◌∙◌}
use native.Mathlib.Omega.{arith}
use Rattle.expression.specs.declared.kind.Kind.TheVariants.{Deadlock}
use Rattle.expression.proofs.KindBytes.{same_kind, other_kind}
use Rattle.expression.proofs.WordLaws.{word_dead, word_own}
use Rattle.expression.proofs.words.RankedTree.leaf_word.Goals as goal

pub returns-then-eq : goal.returns-then-eq
returns-then-eq c = word_dead _ c.args.self.now.tree.formed _ c.requires.0 _ (sym c.kind.ensures ∙ same_kind _ Deadlock c.eq.ensures c.if-eq.true)

pub returns : goal.returns
returns c =
    let d = other_kind _ Deadlock c.eq.ensures c.if-eq.false in
    word_own _ c.args.self.now.tree.formed _ c.requires.0 _ _ (omega (arith, c.kind.ensures, d)) c.with_bit.ensures
