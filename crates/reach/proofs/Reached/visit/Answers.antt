use Rattle.reach.proofs.Knowing.{known_of, whole_of}
use Rattle.reach.proofs.Searches.{visit_jump, visit_next}
use Rattle.reach.proofs.Reached.visit.Goals as goal

pub returns-then-jumps : goal.returns-then-jumps
returns-then-jumps c =
    let r = c.args.self.now in
    let all = c.row-all.ensures in
    visit_jump _ _ _ _ c.args.stop c.args.w c.args.s _ _ (known_of r.known) c.requires.1 (c.jumps.ensures c.if-jumps.true)
    (rw all at c.union.ensures) (rw all at c.union-then-jumps.ensures)

pub row_or_empty-requires : goal.row_or_empty-requires
row_or_empty-requires c = whole_of _ c.args.self.now.whole

pub returns : goal.returns
returns c =
    visit_next _ c.args.stop c.args.w c.args.s _ c.requires.1 c.if-w-stop.false
    (rw c.row_or_empty.ensures at c.union-2.ensures)
