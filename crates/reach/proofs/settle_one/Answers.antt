use Rattle.reach.proofs.Searches.{all_in}
use Rattle.reach.proofs.Settling.{reached_part, settles_one}
use Rattle.reach.proofs.settle_one.Goals as goal

pub returns : goal.returns
returns c =
    let p = c.requires in
    let e = c.row_or_empty-set.ensures in
    let within = all_in c.difference.ensures
    (c.is_empty.ensures.0 c.if-not-is_empty.false) in
    rw c.put_row.ensures
    (settles_one p.1 p.2 p.4 p.5 (rw e at within)
    (rw e at (c.joined_by_two-all.ensures c.args.next.now (reached_part p.4 within))) c.with.ensures)
