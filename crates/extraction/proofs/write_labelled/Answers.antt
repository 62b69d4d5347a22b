use Rattle.std.proofs.Common.{◌≡◌, length}
use native.Mathlib.Omega.{arith}
use Rattle.extraction.proofs.ExtractionCalls.{none_told, short_told, copied, table_told}
use Rattle.extraction.proofs.write_labelled.Goals as goal

pub returns-in_default : goal.returns-in_default
returns-in_default c = none_told _ _ _ (rw (c.start-start.ensures.0, c.in_default.is) at c.write_text.ensures.wrote)

pub returns-then-out-needed : goal.returns-then-out-needed
returns-then-out-needed c =
    short_told _ _ _ (rw (c.start-start.ensures.0, c.in-Some.is) at c.write_text.ensures.wrote) c.if-out-needed.true

pub returns : goal.returns
returns c =
    let W = rw (c.start-start.ensures.0, c.in-Some.is) at c.write_text.ensures.wrote in
    let many : length c.write_text.new.self.nodes.bytes ≡ 508 = W.kept.long in
    table_told _ _ _ W many (omega (arith, c.if-out-needed.false))
    (copied _ c.write_text.new.self.nodes.bytes _ (omega (arith, W.said.3)) c.copy_from_slice.ensures.after)
