use native.Mathlib.Omega.{arith}
use Rattle.reach.specs.Searches.{ReachedIn}
use Rattle.reach.proofs.Knowing.{known_of, whole_of}
use Rattle.reach.proofs.Searches.{all_in, met_turn, joined_turn}
use Rattle.reach.proofs.Reached.turn_reaches.Goals as goal

pub row_or_empty-set-requires : goal.row_or_empty-set-requires
row_or_empty-set-requires c = whole_of _ c.args.self.now.whole

pub joined_by_two-requires : goal.joined_by_two-requires
joined_by_two-requires c =
    λ x h. let (f, t) = c.requires.0 x (all_in c.difference.ensures (c.is_empty.ensures.0 c.if-is_empty.true) x h) in
    omega (arith, t, c.args.self.now.room)

pub returns-then-is_empty : goal.returns-then-is_empty
returns-then-is_empty c =
    let r = c.args.self.now in
    let p = c.requires in
    let R : ReachedIn r.next.now r.after.now c.row_or_empty-set.result = record {
      exactly = λ x y h. let (f, t) = p.0 x (all_in c.difference.ensures (c.is_empty.ensures.0 c.if-is_empty.true) x h) in
          (known_of r.known).exactly x y f t h.below;
    } in
    joined_turn p.1 (rw c.row_or_empty-set.ensures at (c.joined_by_two.ensures _ R))

pub returns : goal.returns
returns c = met_turn _ _ _ c.requires.1 (rw c.row_or_empty-set.ensures at c.closure_knowing.ensures)
