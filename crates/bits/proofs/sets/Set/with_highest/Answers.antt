use Rattle.bits.proofs.Members.{highest_high, highest_low, with_high, with_low, words_zero}
use Rattle.bits.proofs.sets.Set.with_highest.Goals as goal

pub returns-then-other-ne0 : goal.returns-then-other-ne0
returns-then-other-ne0 c = let h = c.highest_bit-k.ensures in (highest_high c.args.other _ h, with_high c.args.self _ _ h.within c.with_bit.ensures)

pub returns-then-other-ne0-2 : goal.returns-then-other-ne0-2
returns-then-other-ne0-2 c =
    let h = c.highest_bit-k-then-other-ne0-2.ensures in (
      highest_low c.args.other _ c.if-other-ne0.false h,
      with_low c.args.self _ _ h.within c.with_bit-then-other-ne0-2.ensures,
    )

pub returns : goal.returns
returns c =
    absurd (c.requires (words_zero c.args.other c.if-other-ne0-2.false c.if-other-ne0.false))
