-- The writer of a sum and the writer of a text meet their contracts. The number that falls is that of the nodes that are left,
-- from `count` up to `limit`: twice that for a text, and one more for a sum.
use borrow.Author.Rules.{rules}
use mathlib.Core.Path.{sym, ap, refl, ◌∙◌}
use mathlib.Core.Bool.{true≢false}
use mathlib.Core.Option.{some}
use native.Mathlib.Omega.{arith}
use lib.ListN.{length-append}
use Rattle.theory.proofs.TextTests.{size_some}
use Rattle.chart.proofs.Order.{range_one}
use Rattle.extraction.specs.declared.texts.Writer.{Writer}
use Rattle.extraction.proofs.NodeLaws.{kept_all, kept_both, nodes_end}
use Rattle.extraction.proofs.WriterLaws.{vertex_low, loop_turn, loop_end, sum_none, sum_over, sum_item, sum_done, sum_dead}
use Rattle.extraction.proofs.WriterLaws.{at_size, item_at, target_low, nothing_after, text_after, product_room, sum_room}
use Rattle.extraction.proofs.WriterLaws.{no_room, full_at_action, full_at_text, full_at_end}
use Rattle.extraction.proofs.WriterLaws.{text_done, either_of, neither_of, no_text, no_left, no_right}
use Rattle.extraction.proofs.texts.Writer.+write_sum_write_text.Goals.{write_sum-then-target-back+in_ok-next, write_sum-else-target-back}
use Rattle.extraction.proofs.texts.Writer.+write_sum_write_text.Goals as goal

-- THE SUM
pub write_sum-range-range-requires : goal.write_sum-range-range-requires
write_sum-range-range-requires t c = omega (arith, vertex_low _ c.args.self.now.labelling.chart.now.passed c.requires.0)

pub write_sum-rows-requires : goal.write_sum-rows-requires
write_sum-rows-requires t c = omega (arith, vertex_low _ c.args.self.now.labelling.chart.now.passed c.requires.0)

pub write_sum-loop-row-init : goal.write_sum-loop-row-init
write_sum-loop-row-init t c =
    (refl, λ r R. sum_none c.args.self.now.labelling.chart.now.passed R c.requires.1 c.requires.2)

-- AN ITEM'S TURN
pub write_sum-item_limit-end-requires : goal.write_sum-item_limit-end-requires
write_sum-item_limit-end-requires t c =
    let A = c.loop-row.invariant.1 _ c.range-range.ensures.stands in (omega (arith, at_size A), A.room)

pub write_sum-returns-then-at-end-clause-wrote : goal.write_sum-returns-then-at-end-clause-wrote
write_sum-returns-then-at-end-clause-wrote t c =
    let s = c.args.self.now.labelling in
    let T = loop_turn s c.range-range.ensures.stands c.rows.ensures _ _ _ c.next.new.self _ (search rules) (search rules)
    c.loop-row.yielded_by _ c.in-Some.is c.next.ensures.steps in
    let A = c.loop-row.invariant.1 _ c.range-range.ensures.stands in
    let I = item_at A T c.has.ensures c.if-has.true c.item_limit-end.ensures in
    no_room A.kept (full_at_action I c.if-at-end.true)

pub write_sum-write_text-requires : goal.write_sum-write_text-requires
write_sum-write_text-requires t c =
    let s = c.args.self.now.labelling in
    let T = loop_turn s c.range-range.ensures.stands c.rows.ensures _ _ _ c.next.new.self _ (search rules) (search rules)
    c.loop-row.yielded_by _ c.in-Some.is c.next.ensures.steps in
    let A = c.loop-row.invariant.1 _ c.range-range.ensures.stands in
    let I = item_at A T c.has.ensures c.if-has.true c.item_limit-end.ensures in
    let l = c.if-at-end.false in (
      omega (arith, c.decreases, at_size A, I.room, l),
      (
        rw (c.loop-row.invariant.0, c.from-target.ensures) (target_low A T),
        record { few = omega (arith, A.room, A.low, l); within = omega (arith, A.low, I.room) },
      ),
    )

pub write_sum-returns-in_err-next-clause-wrote : goal.write_sum-returns-in_err-next-clause-wrote
write_sum-returns-in_err-next-clause-wrote t c =
    let s = c.args.self.now.labelling in
    let T = loop_turn s c.range-range.ensures.stands c.rows.ensures _ _ _ c.next.new.self _ (search rules) (search rules)
    c.loop-row.yielded_by _ c.in-Some.is c.next.ensures.steps in
    let A = c.loop-row.invariant.1 _ c.range-range.ensures.stands in
    let I = item_at A T c.has.ensures c.if-has.true c.item_limit-end.ensures in
    let l = c.if-at-end.false in
    let W = rw (c.loop-row.invariant.0, c.from-target.ensures) at c.in_err-next.ensures.wrote in
    let U = c.put.ensures in
    rw c.from_residual.ensures
    (no_room (kept_both (omega (arith, at_size A)) A.kept (kept_both (omega arith) U.kept W.kept))
    (full_at_text I (rw c.from-target.ensures at c.if-target-back.true) (omega (arith, l)) W.said))

-- what follows the action, whichever way it went
pub write_sum-put_product-next-requires : goal.write_sum-put_product-next-requires
write_sum-put_product-next-requires t c =
    let s = c.args.self.now.labelling in
    let T = loop_turn s c.range-range.ensures.stands c.rows.ensures _ _ _ c.next.new.self _ (search rules) (search rules)
    c.loop-row.yielded_by _ c.in-Some.is c.next.ensures.steps in
    let A = c.loop-row.invariant.1 _ c.range-range.ensures.stands in
    let I = item_at A T c.has.ensures c.if-has.true c.item_limit-end.ensures in
    let l = c.if-at-end.false in
    let to = c.from-target.ensures ∙ T.is_to in
    product_room I c.put.ensures (elim c.if-target-back.branch [
      | write_sum-then-target-back+in_ok-next w ↦
          text_after to w.if-target-back.true (omega (arith, l)) (rw c.loop-row.invariant.0 at w.in_ok-next.ensures.wrote)
          (ap (λ (x : Writer). x.nodes.bytes) w.self-is) w.next-is
      | write_sum-else-target-back w ↦
          nothing_after to w.if-target-back.false (omega (arith, l)) (ap (λ (x : Writer). x.nodes.bytes) w.self-is) w.next-is
    ])

pub write_sum-put_sum-at-requires : goal.write_sum-put_sum-at-requires
write_sum-put_sum-at-requires t c =
    let s = c.args.self.now.labelling in
    let T = loop_turn s c.range-range.ensures.stands c.rows.ensures _ _ _ c.next.new.self _ (search rules) (search rules)
    c.loop-row.yielded_by _ c.in-Some.is c.next.ensures.steps in
    let A = c.loop-row.invariant.1 _ c.range-range.ensures.stands in
    let I = item_at A T c.has.ensures c.if-has.true c.item_limit-end.ensures in
    let l = c.if-at-end.false in
    let to = c.from-target.ensures ∙ T.is_to in
    sum_room I c.put.ensures (elim c.if-target-back.branch [
      | write_sum-then-target-back+in_ok-next w ↦
          text_after to w.if-target-back.true (omega (arith, l)) (rw c.loop-row.invariant.0 at w.in_ok-next.ensures.wrote)
          (ap (λ (x : Writer). x.nodes.bytes) w.self-is) w.next-is
      | write_sum-else-target-back w ↦
          nothing_after to w.if-target-back.false (omega (arith, l)) (ap (λ (x : Writer). x.nodes.bytes) w.self-is) w.next-is
    ]) c.put_product-next.ensures

pub write_sum-loop-row-preserved-then-has : goal.write_sum-loop-row-preserved-then-has
write_sum-loop-row-preserved-then-has t c =
    let s = c.args.self.now.labelling in
    let T = loop_turn s c.range-range.ensures.stands c.rows.ensures _ _ _ c.next.new.self _ (search rules) (search rules)
    c.loop-row.yielded_by _ c.in-Some.is c.next.ensures.steps in
    let A = c.loop-row.invariant.1 _ c.range-range.ensures.stands in
    let I = item_at A T c.has.ensures c.if-has.true c.item_limit-end.ensures in
    let l = c.if-at-end.false in
    let to = c.from-target.ensures ∙ T.is_to in (
      elim c.if-target-back.branch [
        | write_sum-then-target-back+in_ok-next w ↦
            ap (λ (x : Writer). x.labelling) w.self-is ∙ w.in_ok-next.ensures.kept ∙ c.loop-row.invariant.0
        | write_sum-else-target-back w ↦ ap (λ (x : Writer). x.labelling) w.self-is ∙ c.loop-row.invariant.0
      ],
      λ r R. rw (length-append c.loop-row.yielded _, range_one R c.range-range.ensures.stands)
          (sum_item I c.put.ensures (elim c.if-target-back.branch [
            | write_sum-then-target-back+in_ok-next w ↦
                text_after to w.if-target-back.true (omega (arith, l)) (rw c.loop-row.invariant.0 at w.in_ok-next.ensures.wrote)
                (ap (λ (x : Writer). x.nodes.bytes) w.self-is) w.next-is
            | write_sum-else-target-back w ↦
                nothing_after to w.if-target-back.false (omega (arith, l)) (ap (λ (x : Writer). x.nodes.bytes) w.self-is) w.next-is
          ]) c.put_product-next.ensures c.put_sum-at.ensures),
    )

pub write_sum-loop-row-preserved : goal.write_sum-loop-row-preserved
write_sum-loop-row-preserved t c =
    let s = c.args.self.now.labelling in
    let T = loop_turn s c.range-range.ensures.stands c.rows.ensures _ _ _ c.next.new.self _ (search rules) (search rules)
    c.loop-row.yielded_by _ c.in-Some.is c.next.ensures.steps in
    let A = c.loop-row.invariant.1 _ c.range-range.ensures.stands in (
      c.loop-row.invariant.0,
      λ r R. rw (length-append c.loop-row.yielded _, range_one R c.range-range.ensures.stands)
          (sum_over A T (λ p. true≢false (sym (c.has.ensures.1 p) ∙ c.if-has.false))),
    )

-- THE END of the transitions
pub write_sum-returns-then-count-at-clause-wrote : goal.write_sum-returns-then-count-at-clause-wrote
write_sum-returns-then-count-at-clause-wrote t c =
    let s = c.args.self.now.labelling in
    let E = loop_end s c.range-range.ensures.stands c.rows.ensures _ _ _ c.next.new.self _ (search rules) (search rules)
    c.loop-row.yielded_by c.in-None.is c.next.ensures.steps in
    sum_done (c.loop-row.invariant.1 _ c.range-range.ensures.stands) (omega (arith, E)) c.if-count-at.true

pub write_sum-returns-then-at-limit-clause-wrote : goal.write_sum-returns-then-at-limit-clause-wrote
write_sum-returns-then-at-limit-clause-wrote t c =
    let A = c.loop-row.invariant.1 _ c.range-range.ensures.stands in
    no_room A.kept (full_at_end (omega (arith, at_size A)) (omega (arith, c.if-count-at.false)) c.if-at-limit.true)

pub write_sum-returns-clause-wrote : goal.write_sum-returns-clause-wrote
write_sum-returns-clause-wrote t c =
    let s = c.args.self.now.labelling in
    let E = loop_end s c.range-range.ensures.stands c.rows.ensures _ _ _ c.next.new.self _ (search rules) (search rules)
    c.loop-row.yielded_by c.in-None.is c.next.ensures.steps in
    sum_dead (c.loop-row.invariant.1 _ c.range-range.ensures.stands) (omega (arith, E)) (omega (arith, c.if-count-at.false))
    (omega (arith, c.if-at-limit.false)) c.put-2.ensures

-- THE TEXT
pub write_text-returns-then-w-limit-clause-wrote : goal.write_text-returns-then-w-limit-clause-wrote
write_text-returns-then-w-limit-clause-wrote t c =
    no_room kept_all (no_text _ _ _ _ _ (either_of _ _ _ c.if-w-limit.true))

pub write_text-returns-in_err-left-clause-wrote : goal.write_text-returns-in_err-left-clause-wrote
write_text-returns-in_err-left-clause-wrote t c =
    let L = c.in_err-left.ensures.wrote in rw c.from_residual.ensures (no_room L.kept (no_left _ _ _ L))

pub write_text-write_sum-requires-2 : goal.write_text-write_sum-requires-2
write_text-write_sum-requires-2 t c =
    let p = c.requires in
    let k = neither_of c.args.w c.args.count c.args.limit c.if-w-limit.false in
    let L = c.in_ok-left.ensures.wrote.said in
    let f = nodes_end (some L.0) L.2 in (
      omega (arith, c.decreases, k.1, f, size_some L.0, L.3),
      (
        rw c.in_ok-left.ensures.kept p.0,
        record { few = omega (arith, L.3, p.1.within); within = omega (arith, p.1.within) },
        omega (arith, k.1, L.3),
      ),
    )

pub write_text-returns-in_err-right-clause-wrote : goal.write_text-returns-in_err-right-clause-wrote
write_text-returns-in_err-right-clause-wrote t c =
    let L = c.in_ok-left.ensures.wrote in
    let R = rw c.in_ok-left.ensures.kept at c.in_err-right.ensures.wrote in
    rw c.from_residual-in_err-right.ensures
    (no_room (kept_both (omega (arith, nodes_end (some L.said.0) L.said.2)) L.kept R.kept) (no_right _ _ _ L R))

pub write_text-returns-clause-wrote : goal.write_text-returns-clause-wrote
write_text-returns-clause-wrote t c =
    let k = neither_of c.args.w c.args.count c.args.limit c.if-w-limit.false in
    text_done _ _ _ k.0 k.1 c.in_ok-left.ensures.wrote (rw c.in_ok-left.ensures.kept at c.in_ok-right.ensures.wrote) c.put.ensures
