-- A sum and a text as they are written, node by node; and where there is no room for them, that every one would need more.
use Prim.Native.Nat.{ℕ, zero, suc, ◌+◌, ◌-◌, ◌≤◌, ◌<◌}
use mathlib.Core.Path.{◌≡◌, refl, sym, ap, ◌∙◌, subst}
use mathlib.Core.Logic.{◌≢◌, ◌⊎◌, ◌↔◌, inl, inr, ⊎_elim, by_cases}
use mathlib.Core.Bool.{Bool, true, false, ◌||◌, true≢false}
use mathlib.Core.List.{List, []}
use mathlib.Core.Option.{Option, none, some}
use native.Mathlib.Omega.{arith}
use native.Mathlib.Decide.{dec_le}
use lib.Dec.{eqb, ltb}
use lib.ListN.{length, get_or}
use Rattle.theory.specs.Expressions.{Expr, deadlock, act, product, star}
use Rattle.theory.specs.Nodes.{op_star, leaf}
use Rattle.theory.specs.LabelledCharts.{LabelledChart, Half, entries, branches, InHalf}
use Rattle.theory.specs.PostOrders.{size}
use Rattle.theory.specs.Texts.{plus, total, Text, text, Sum, nothing, other, alone, times}
use Rattle.theory.proofs.Tests.{decides_or, decides_eqb, decides_ltb}
use Rattle.theory.proofs.TextTests.{size_some, one_sum}
use denote.Ref.{Bor}
use Rattle.std.specs.Prelude as std
use Rattle.std.specs.Prelude.{Ok, Some, None}
use Rattle.std.specs.Iterator.{Yields}
use Rattle.std.specs.Iterator.Adapters.{zip_first, zip_second}
use Rattle.std.specs.Slice.Iter.{iter_rest}
use Rattle.std.specs.declared.iter.Zip.{Zip}
use Rattle.std.specs.declared.slice.Iter.{Iter}
use Rattle.std.proofs.iter.Yields.{fronts}
use Rattle.std.proofs.lemmas.Iterator.{zips}
use Rattle.std.proofs.lemmas.Slice.Zip.{zip_turn, zip_end}
use Rattle.bits.specs.declared.Span.{Span}
use Rattle.bits.proofs.Determined.{split_one}
use Rattle.chart.specs.Bodies.{vertices_of, count_of, from_of, action_of, to_of, WellFormed}
use Rattle.chart.specs.Checks.{check_of}
use Rattle.chart.specs.Leaving.{leaving_of, RangeOf}
use Rattle.chart.specs.Parts.{beside, PartOf, RowsOf}
use Rattle.chart.specs.Systems.{drawn_of}
use Rattle.chart.proofs.Checks.{well_formed}
use Rattle.chart.proofs.Order.{low_high, at_low, at_high}
use Rattle.chart.proofs.Rows.{looked_up, part_byte, part_leaves, beside_long, beside_byte}
use Rattle.expression.specs.Table.{parse, node}
use Rattle.witness.specs.declared.Labelling.{Labelling}
use Rattle.extraction.specs.Writers.{LabelIn, NodeRoom, KeptBelow, Put, NodesOf, no_node, followed, Timed, Added, Wrote, WholeSum}
use Rattle.extraction.proofs.NodeLaws.{size_of, nodes_end, nodes_same, kept_all, kept_both, leaf_put, dead_put, join}

-- the operator's node that joins what stands to something else: none where nothing stands
abbrev join_node : Option Expr → ℕ
join_node none = 0
join_node (some d) = 1

plus_size : (x : Option Expr) (e : Expr) → size (plus x e) ≡ size_of x + join_node x + size e
plus_size none e = omega arith
plus_size (some d) e = omega arith

followed_size : (a : ℕ) (y : Option Expr) → size (followed a y) ≡ suc (size_of y) + join_node y
followed_size a none = omega arith
followed_size a (some e) = omega arith

total_size : (x : Option Expr) → size_of x ≤ size (total x)
total_size none = omega arith
total_size (some d) = omega arith

-- ITEMS. What follows the action of transition i: the target's text, or nothing
pub data After (c : LabelledChart) (back i : ℕ) : Option Expr → Type 0 where
  at_once : c.chart.to i ≡ back → After c back i none
  by_text : {e : Expr} → c.chart.to i ≢ back → Text c (c.chart.to i) back e → After c back i (some e)

-- written: it stands after the action at node `at`, and leaves room for the node that joins the two
pub record AfterAt (c : LabelledChart) (back i at end : ℕ) (s t : List ℕ) (next : ℕ) : Type 0 where
  pub rest : Option Expr
  pub is : After c back i rest
  pub kept : KeptBelow (at + 1) s t
  pub stand : NodesOf (node t) (at + 1) rest next
  pub room : next + join_node rest ≤ end

pub nothing_after : {c : LabelledChart} {target back i at end next : ℕ} {s t : List ℕ} → target ≡ c.chart.to i → target ≡ back → at < end
    → t ≡ s → next ≡ at + 1 → AfterAt c back i at end s t next
nothing_after q e l f g = rw (f, g) (record { rest = none; is = at_once (sym q ∙ e); kept = kept_all; stand = no_node; room = omega arith })

module _ {c : LabelledChart} {half : Half} {w back : ℕ} where
  -- one item more
  sum_more : {n : ℕ} {x : Option Expr} (y : Option Expr) → Sum c half w back n x → InHalf c half w n → After c back n y
      → Sum c half w back (suc n) (some (plus x (followed (c.chart.action n) y)))
  sum_more none s h (at_once e) = alone s h e
  sum_more (some g) s h (by_text e t) = times s h e t

  -- every sum so far is of that form
  sum_last : {n : ℕ} {x z : Option Expr} → Sum c half w back n x → InHalf c half w n → Sum c half w back (suc n) z
      → (y : Option Expr) × After c back n y × (z ≡ some (plus x (followed (c.chart.action n) y)))
  sum_last s h (other r k) = absurd (k h)
  sum_last {n} s h (alone r k e) = (none, at_once e, ap (λ x. some (plus x (act (c.chart.action n)))) (one_sum r s))
  sum_last {n} s h (times {e = g} r k e t) =
      (some g, by_text e t, ap (λ x. some (plus x (product (act (c.chart.action n)) g))) (one_sum r s))

  -- sums only grow
  module _ (m most : ℕ) (long : (x : Option Expr) → Sum c half w back m x → most < size_of x) where
    at_m : {n : ℕ} (x : Option Expr) → n ≡ m → Sum c half w back n x → most < size_of x
    at_m x e s = long x (subst (λ (k : ℕ). Sum c half w back k x) e s)

    sum_grows : {n : ℕ} {x : Option Expr} → m ≤ n → Sum c half w back n x → most < size_of x
    sum_grows l nothing = at_m none (omega arith) nothing
    sum_grows l (other {n = n} {x = x} s h) =
        by_cases (dec_le m n) (λ g. sum_grows g s) (λ g. at_m x (omega arith) (other s h))
    sum_grows l (alone {n = n} {x = x} s h e) =
        by_cases (dec_le m n)
        (λ g. omega (arith, sum_grows g s, plus_size x (act (c.chart.action n))))
        (λ g. at_m _ (omega arith) (alone s h e))
    sum_grows l (times {n = n} {x = x} {e = f} s h e t) =
        by_cases (dec_le m n)
        (λ g. omega (arith, sum_grows g s, plus_size x (product (act (c.chart.action n)) f)))
        (λ g. at_m _ (omega arith) (times s h e t))

  -- so where each sum up to m is too long, so is each whole sum
  whole_long : (m most : ℕ) → m ≤ c.chart.count → ((x : Option Expr) → Sum c half w back m x → most < size_of x)
      → (e : Expr) → WholeSum c half w back e → most < size e
  whole_long m most l f e (x, s, q) = rw q (omega (arith, sum_grows m most f l s, total_size x))

-- a vertex is a number of the table of where transitions begin
pub vertex_low : (b : List ℕ) {w : ℕ} → check_of b ≡ Ok tt → w < vertices_of b → w < 128
vertex_low b p l = omega (arith, (well_formed b p).header.vertices_high)

-- THE TRANSITIONS OF w stand from range.from on up to range.to. Transition k is one of them, as the loop has it
pub record TurnAt (b labels : List ℕ) (w : ℕ) (range : Span) (k action to label : ℕ) : Type 0 where
  pub within : k < range.to
  pub leaves : from_of b k ≡ w
  pub is_action : action ≡ action_of b k
  pub is_to : to ≡ to_of b k
  pub is_label : label ≡ get_or labels k 0

module _ (l : Labelling) {w : ℕ} {range : Span} {rows : List (List ℕ)} (R : RangeOf l.chart.now.body.now w range)
    (A : RowsOf (leaving_of l.chart.now.body.now w) rows) where
  abbrev b : List ℕ
  b = l.chart.now.body.now

  abbrev labels : List ℕ
  labels = l.labels.now

  part : PartOf b w (leaving_of b w)
  part = looked_up b w l.chart.now.bytes l.chart.now.passed refl

  turn_at : {i label : ℕ} {row : List ℕ} → i < length rows → ((d : List ℕ) → row ≡ get_or rows i d)
      → ((d : ℕ) → label ≡ get_or (beside range labels) i d)
      → TurnAt b labels w range (range.from + i) (get_or row 1 0) (get_or row 2 0) label
  turn_at {i} h row_is label_is =
      let S = part in
      let many = A.many in
      let at : S.at ≡ range.from = split_one S.begins R.begins in
      record {
        within = omega (arith, split_one S.ends R.ends, at, many);
        leaves = subst (λ (k : ℕ). from_of b (k + i) ≡ w) at (part_leaves S i (omega (arith, many)));
        is_action = ap (λ (r : List ℕ). get_or r 1 0) (row_is []) ∙ A.same i 1 h (omega arith)
            ∙ part_byte S i 1 (omega (arith, many)) (omega arith) ∙ ap (λ (k : ℕ). action_of b (k + i)) at;
        is_to = ap (λ (r : List ℕ). get_or r 2 0) (row_is []) ∙ A.same i 2 h (omega arith)
            ∙ part_byte S i 2 (omega (arith, many)) (omega arith) ∙ ap (λ (k : ℕ). to_of b (k + i)) at;
        is_label = label_is 0 ∙ beside_byte S R labels i (omega (arith, many)) ∙ ap (λ (k : ℕ). get_or labels (k + i) 0) at;
      }

  -- the loop over rows and labels, which has yielded xs
  module _ (xs : List (Bor (List ℕ) × Bor ℕ)) (s t u : Zip (Iter (List ℕ)) (Iter ℕ)) (r : std.Option (Bor (List ℕ) × Bor ℕ))
      (first : iter_rest (zip_first s) ≡ rows) (second : iter_rest (zip_second s) ≡ beside range labels)
      (y : Yields (zips fronts fronts) s xs t) where
    pub loop_turn : (q : Bor (List ℕ) × Bor ℕ) → r ≡ Some q → zips fronts fronts t r u
        → TurnAt b labels w range (range.from + length xs) (get_or q.0.now 1 0) (get_or q.0.now 2 0) q.1.now
    loop_turn q e z =
        let Z = zip_turn rows (beside range labels) xs s t u r first second y q e z in
        turn_at Z.0 Z.2 Z.3

    -- at its end it has gone through all of them
    pub loop_end : r ≡ None → zips fronts fronts t r u → range.from + length xs ≡ range.to
    loop_end e z =
        let S = part in
        omega (
          arith,
          zip_end rows (beside range labels) xs s t u r first second y e z,
          A.many,
          beside_long S R labels (omega (arith, l.long)),
          split_one S.begins R.begins,
          split_one S.ends R.ends,
        )

-- it is in the half of its label
module _ {b labels : List ℕ} {w : ℕ} {range : Span} {k action to label : ℕ} (T : TurnAt b labels w range k action to label) where
  in_half_lem : (half : Half) → LabelIn half label → InHalf (drawn_of b labels) half w k
  in_half_lem entries p = (T.leaves, λ q. p (T.is_label ∙ q))
  in_half_lem branches p = (T.leaves, sym T.is_label ∙ p)

  not_in_half : (half : Half) → ¬ LabelIn half label → ¬ InHalf (drawn_of b labels) half w k
  not_in_half entries n (p, q) = n (λ z. q (sym T.is_label ∙ z))
  not_in_half branches n (p, q) = n (T.is_label ∙ q)

module _ {b : List ℕ} (labels : List ℕ) {w : ℕ} {range : Span} (R : RangeOf b w range) where
  not_in : (half : Half) (k : ℕ) → from_of b k ≢ w → ¬ InHalf (drawn_of b labels) half w k
  not_in entries k n h = n h.0
  not_in branches k n h = n h.0

  -- no item before them, and none after them
  sum_before : {back : ℕ} (half : Half) (k : ℕ) → k ≤ range.from → Sum (drawn_of b labels) half w back k none
  sum_before half zero l = nothing
  sum_before half (suc k) l = other (sum_before half k (omega arith)) (not_in half k (at_low R.begins R.ends k l))

  sum_after : {back : ℕ} {half : Half} {x : Option Expr} (k : ℕ) → Sum (drawn_of b labels) half w back range.to x
      → range.to + k ≤ count_of b → Sum (drawn_of b labels) half w back (range.to + k) x
  sum_after {back} {half} {x} zero s l = subst (λ (k : ℕ). Sum (drawn_of b labels) half w back k x) (omega arith) s
  sum_after {back} {half} {x} (suc k) s l =
      let z : suc (range.to + k) ≡ range.to + suc k = omega arith in
      let n = at_high R.begins R.ends (range.to + k) (omega arith) (omega arith) in
      subst (λ (k : ℕ). Sum (drawn_of b labels) half w back k x) z
      (other (sum_after k s (omega arith)) (not_in half (range.to + k) n))

  whole_sum : {back : ℕ} {half : Half} {x : Option Expr} → Sum (drawn_of b labels) half w back range.to x
      → Sum (drawn_of b labels) half w back (count_of b) x
  whole_sum {back} {half} {x} s =
      let l = R.ends.within in
      let z : range.to + (count_of b - range.to) ≡ count_of b = omega arith in
      subst (λ (k : ℕ). Sum (drawn_of b labels) half w back k x) z (sum_after (count_of b - range.to) s (omega arith))

-- A SUM IN THE MAKING: that of the first i transitions of w
pub record SumAt (b labels : List ℕ) (half : Half) (w back : ℕ) (range : Span) (count limit : ℕ) (s₀ s : List ℕ)
    (at i : ℕ) : Type 0 where
  pub formed : WellFormed b
  pub stands : RangeOf b w range
  pub low : limit ≤ 127
  pub kept : KeptBelow count s₀ s
  pub so_far : range.from + i ≤ range.to
  pub items : Option Expr
  pub sum : Sum (drawn_of b labels) half w back (range.from + i) items
  pub stand : NodesOf (node s) count items at
  pub room : at ≤ limit

pub sum_none : {b labels : List ℕ} {half : Half} {w back : ℕ} {range : Span} {count limit : ℕ} {s : List ℕ}
    → check_of b ≡ Ok tt → RangeOf b w range → NodeRoom count limit → count ≤ limit
    → SumAt b labels half w back range count limit s s count 0
sum_none {b} {labels} {half} {w} {back} {range} p R M l = record {
  formed = well_formed b p;
  stands = R;
  low = M.within;
  kept = kept_all;
  so_far = omega (arith, low_high R.begins R.ends);
  items = none;
  sum = subst (λ (k : ℕ). Sum (drawn_of b labels) half w back k none) (omega arith) (sum_before labels R half range.from (omega arith));
  stand = no_node;
  room = l;
}

module _ {b labels : List ℕ} {half : Half} {w back : ℕ} {range : Span} {count limit : ℕ} {s₀ s : List ℕ} {at i : ℕ}
    (A : SumAt b labels half w back range count limit s₀ s at i) where
  -- the next place
  next_sum : {x : Option Expr} → Sum (drawn_of b labels) half w back (suc (range.from + i)) x
      → Sum (drawn_of b labels) half w back (range.from + (i + 1)) x
  next_sum {x} = subst (λ (k : ℕ). Sum (drawn_of b labels) half w back k x) (omega arith)

  pub at_size : at ≡ count + size_of A.items
  at_size = nodes_end A.items A.stand

  -- a transition of the other half
  pub sum_over : {action to label : ℕ} → TurnAt b labels w range (range.from + i) action to label → ¬ LabelIn half label
      → SumAt b labels half w back range count limit s₀ s at (i + 1)
  sum_over T n = record {
    formed = A.formed;
    stands = A.stands;
    low = A.low;
    kept = A.kept;
    so_far = omega (arith, T.within);
    items = A.items;
    sum = next_sum (other A.sum (not_in_half T half n));
    stand = A.stand;
    room = A.room;
  }

  -- THE LIMIT OF AN ITEM, with the sum's node set aside
  item_room : {end : ℕ} → (count ≡ at → end ≡ limit) × (count < at → end + 1 ≡ limit) → end + join_node A.items ≡ limit
  item_room {end} (f, g) = go A.items at_size
    where
      go : (x : Option Expr) → at ≡ count + size_of x → end + join_node x ≡ limit
      go none e = omega (arith, f (omega arith))
      go (some d) e = omega (arith, g (omega (arith, size_some d)))

  some_joins : (x : Option Expr) → at ≡ count + size_of x → count < at → join_node x ≡ 1
  some_joins none e l = absurd (omega arith)
  some_joins (some d) e l = refl

  module _ {action to label : ℕ} (T : TurnAt b labels w range (range.from + i) action to label) where
    transition_in : range.from + i < count_of b
    transition_in = omega (arith, T.within, A.stands.ends.within)

    action_some : 0 < action
    action_some = rw T.is_action (A.formed.each (range.from + i) transition_in).action_low

    pub target_low : to < vertices_of b
    target_low = rw T.is_to (A.formed.each (range.from + i) transition_in).to_high

-- AN ITEM'S TURN: transition i is of this half, and what its item may take is below `end`, with the sum's node set aside
pub record ItemAt (b labels : List ℕ) (half : Half) (w back : ℕ) (range : Span) (count limit : ℕ) (s₀ s : List ℕ)
    (at i end action to : ℕ) : Type 0 where
  pub sum : SumAt b labels half w back range count limit s₀ s at i
  pub label : ℕ
  pub turn : TurnAt b labels w range (range.from + i) action to label
  pub mine : LabelIn half label
  pub room : end + join_node sum.items ≡ limit

-- so it is where its label was found to be of this half, and its limit taken
pub item_at : {b labels : List ℕ} {half : Half} {w back : ℕ} {range : Span} {count limit : ℕ} {s₀ s : List ℕ}
    {at i end action to label : ℕ} {mine : Bool} → SumAt b labels half w back range count limit s₀ s at i
    → TurnAt b labels w range (range.from + i) action to label
    → (mine ≡ true) ↔ LabelIn half label → mine ≡ true → (count ≡ at → end ≡ limit) × (count < at → end + 1 ≡ limit)
    → ItemAt b labels half w back range count limit s₀ s at i end action to
item_at A T f h r = record { sum = A; label = _; turn = T; mine = f.0 h; room = item_room A r }

module _ {b labels : List ℕ} {half : Half} {w back : ℕ} {range : Span} {count limit : ℕ} {s₀ s : List ℕ}
    {at i end action to : ℕ} (I : ItemAt b labels half w back range count limit s₀ s at i end action to) where
  -- every sum with it is too long where an item of its kind is
  item_long : ((y : Option Expr) → After (drawn_of b labels) back (range.from + i) y → end < at + size (followed (action_of b (range.from + i)) y))
      → (e : Expr) → WholeSum (drawn_of b labels) half w back e → limit < count + size e
  item_long f e W =
      let k = whole_long (suc (range.from + i)) (limit - count) (omega (arith, transition_in I.sum I.turn)) (λ x t.
      let (y, a, q) = sum_last I.sum.sum (in_half_lem I.turn half I.mine) t in
      rw q (omega (arith, f y a, at_size I.sum, plus_size I.sum.items (followed (action_of b (range.from + i)) y)))) e W in
      omega arith

  -- no room for the action
  pub full_at_action : end ≤ at → (e : Expr) → WholeSum (drawn_of b labels) half w back e → limit < count + size e
  full_at_action g = item_long (λ y a. omega (arith, size_some (followed (action_of b (range.from + i)) y)))

  -- nor for the target's text
  pub full_at_text : to ≢ back → at < end
      → ((e : Expr) → Text (drawn_of b labels) to back e → end - 1 < at + 1 + size e)
      → (e : Expr) → WholeSum (drawn_of b labels) half w back e → limit < count + size e
  full_at_text n g f = item_long go
    where
      go : (y : Option Expr) → After (drawn_of b labels) back (range.from + i) y → end < at + size (followed (action_of b (range.from + i)) y)
      go none (at_once e) = absurd (n (I.turn.is_to ∙ e))
      go (some d) (by_text e t) =
          omega (arith, f d (subst (λ (v : ℕ). Text (drawn_of b labels) v back d) (sym I.turn.is_to) t))

  -- the item is written: its action at `at`, what follows it up to `next`, then its product's node and the sum's
  module _ {s₁ s₂ : List ℕ} {next : ℕ} (U : Put at (parse at 1 action 0 0) s s₁)
      (F : AfterAt (drawn_of b labels) back (range.from + i) at end s₁ s₂ next) where
    abbrev item_is : Expr
    item_is = followed (action_of b (range.from + i)) F.rest

    -- the product's node has room, and then the sum's
    pub product_room : (at < next) × (next ≤ 127) × (suc at < next → next < 127)
    product_room = go F.rest F.stand F.room
      where
        go : (y : Option Expr) → NodesOf (node s₂) (at + 1) y next → next + join_node y ≤ end
            → (at < next) × (next ≤ 127) × (suc at < next → next < 127)
        go none n g = let e = nodes_end none n in (omega arith, omega (arith, I.sum.low), λ k. omega (arith, k))
        go (some d) n g =
            let e = nodes_end (some d) n in
            let low = I.sum.low in
            (omega arith, omega (arith, I.room), λ k. omega (arith, I.room))

    module _ {s₃ : List ℕ} {after_item : ℕ} (T : Timed at next s₂ s₃ after_item) where
      item_stands : NodesOf (node s₃) at (some item_is) after_item
      item_stands =
          let z : at + 1 ≡ suc at = omega arith in
          T.item (action_of b (range.from + i)) F.rest
          (F.kept.same at (omega arith) ∙ leaf_put (action_some I.sum I.turn) U ∙ ap leaf I.turn.is_action)
          (subst (λ (k : ℕ). NodesOf (node s₂) k F.rest next) z F.stand)

      pub item_end : after_item ≡ next + join_node F.rest
      item_end = omega (
        arith,
        nodes_end (some item_is) item_stands,
        followed_size (action_of b (range.from + i)) F.rest,
        nodes_end F.rest F.stand,
      )

      pub sum_room : (count ≤ at) × (at < after_item) × (after_item ≤ 127) × (count < at → after_item < 127)
      sum_room = (
        omega (arith, at_size I.sum),
        omega (arith, item_end, product_room.0),
        omega (arith, item_end, F.room, I.room, I.sum.low),
        λ k. omega (arith, item_end, F.room, I.room, I.sum.low, some_joins I.sum I.sum.items (at_size I.sum) k),
      )

      pub sum_item : {s₄ : List ℕ} {at' : ℕ} → Added count at after_item s₃ s₄ at'
          → SumAt b labels half w back range count limit s₀ s₄ at' (i + 1)
      sum_item {s₄} {at'} D =
          let n = product_room.0 in
          let before = nodes_same I.sum.items
          (λ k q. T.kept.same k (omega arith) ∙ F.kept.same k (omega arith) ∙ U.kept.same k q) I.sum.stand in
          let all = D.sum I.sum.items item_is before item_stands in
          record {
            formed = I.sum.formed;
            stands = I.sum.stands;
            low = I.sum.low;
            kept = kept_both (omega (arith, at_size I.sum)) I.sum.kept
                (kept_both (omega arith) U.kept
                (kept_both (omega (arith, product_room.0)) F.kept
                (kept_both (omega (arith, item_end)) T.kept D.kept)));
            so_far = omega (arith, I.turn.within);
            items = some (plus I.sum.items item_is);
            sum = next_sum I.sum (sum_more F.rest I.sum.sum (in_half_lem I.turn half I.mine) F.is);
            stand = all;
            room = omega (
              arith,
              nodes_end (some (plus I.sum.items item_is)) all,
              plus_size I.sum.items item_is,
              at_size I.sum,
              nodes_end (some item_is) item_stands,
              item_end,
              F.room,
              I.room,
            );
          }

module _ {b labels : List ℕ} {half : Half} {w back : ℕ} {range : Span} {count limit : ℕ} {s₀ s : List ℕ} {at i : ℕ}
    (A : SumAt b labels half w back range count limit s₀ s at i) where
  -- THE END of the part: items, or deadlock, or no room for it
  all_items : range.to ≤ range.from + i → Sum (drawn_of b labels) half w back (count_of b) A.items
  all_items l =
      whole_sum labels A.stands
      (subst (λ (k : ℕ). Sum (drawn_of b labels) half w back k A.items) (omega (arith, A.so_far)) A.sum)

  pub sum_done : range.to ≤ range.from + i → count < at → Wrote (WholeSum (drawn_of b labels) half w back) count limit s₀ s (Some at)
  sum_done l h = go A.items A.stand (all_items l)
    where
      go : (x : Option Expr) → NodesOf (node s) count x at → Sum (drawn_of b labels) half w back (count_of b) x
          → Wrote (WholeSum (drawn_of b labels) half w back) count limit s₀ s (Some at)
      go none n q = absurd (omega (arith, nodes_end none n))
      go (some e) n q = record { kept = A.kept; said = (e, (some e, q, refl), n, A.room) }

  no_items : at ≤ count → A.items ≡ none
  no_items l = go A.items (at_size A)
    where
      go : (x : Option Expr) → at ≡ count + size_of x → x ≡ none
      go none e = refl
      go (some d) e = absurd (omega (arith, size_some d))

  pub sum_dead : {t : List ℕ} → range.to ≤ range.from + i → at ≤ count → at < limit → Put at (parse at 0 0 0 0) s t
      → Wrote (WholeSum (drawn_of b labels) half w back) count limit s₀ t (Some (at + 1))
  sum_dead {t} l h g U =
      let q = no_items h in
      let e : at ≡ count = omega (arith, at_size A) in
      let z : suc at ≡ at + 1 = omega arith in
      record {
        kept = kept_both (omega arith) A.kept U.kept;
        said = (
          deadlock,
          (none, subst (Sum (drawn_of b labels) half w back (count_of b)) q (all_items l), refl),
          subst (λ (k : ℕ). NodesOf (node t) k (some deadlock) (at + 1)) e (subst (NodesOf (node t) at (some deadlock)) z (dead_put U)),
          omega arith,
        );
      }

-- NO ROOM, whatever was done
pub no_room : {P : Expr → Type 0} {b limit : ℕ} {s t : List ℕ} → KeptBelow b s t → ((e : Expr) → P e → limit < b + size e)
    → Wrote P b limit s t None
no_room K f = record { kept = K; said = f }

pub full_at_end : {c : LabelledChart} {half : Half} {w back count at limit : ℕ} → count ≤ at → at ≤ count → limit ≤ at
    → (e : Expr) → WholeSum c half w back e → limit < count + size e
full_at_end l h g e W = omega (arith, size_some e)

-- the target's text, after its action
pub text_after : {c : LabelledChart} {target back i at end r next : ℕ} {s t u : List ℕ}
    → target ≡ c.chart.to i → target ≢ back → at < end
    → Wrote (Text c target back) (at + 1) (end - 1) s u (Some r) → t ≡ u → next ≡ r → AfterAt c back i at end s t next
text_after {c} {back = back} q n l W f g =
    let (e, p, x, a) = W.said in
    rw (f, g) (record {
      rest = some e;
      is = by_text (λ z. n (q ∙ z)) (subst (λ (v : ℕ). Text c v back e) q p);
      kept = W.kept;
      stand = x;
      room = omega arith;
    })

-- TEXTS
-- the test that a text can be written
pub either_of : (w count limit : ℕ) → (eqb w 0 || ltb limit (count + 3)) ≡ true → (w ≡ 0) ⊎ (limit < count + 3)
either_of w count limit = (decides_or (decides_eqb w 0) (decides_ltb limit (count + 3))).0

pub neither_of : (w count limit : ℕ) → (eqb w 0 || ltb limit (count + 3)) ≡ false → (w ≢ 0) × (count + 3 ≤ limit)
neither_of w count limit e = (
  (λ z. true≢false (sym ((decides_or (decides_eqb w 0) (decides_ltb limit (count + 3))).1 (inl z)) ∙ e)),
  by_cases (dec_le (count + 3) limit) (λ g. g)
      (λ g. absurd (true≢false (sym ((decides_or (decides_eqb w 0) (decides_ltb limit (count + 3))).1 (inr (omega arith))) ∙ e))),
)

module _ (c : LabelledChart) (w back : ℕ) where
  abbrev Left : Expr → Type 0
  Left = WholeSum c entries w w

  abbrev Right : Expr → Type 0
  Right = WholeSum c branches w back

  -- a star of the two sums, and every text is one
  two_sums : {e f : Expr} → w ≢ 0 → Left e → Right f → Text c w back (star e f)
  two_sums h (x, s, p) (y, t, q) = rw (p, q) (text h s t)

  text_parts : {g : Expr} → Text c w back g → (w ≢ 0) × ((e f : Expr) × Left e × Right f × (g ≡ star e f))
  text_parts (text {x = x} {y = y} h s t) = (h, (total x, total y, (x, s, refl), (y, t, refl), refl))

  one_left : {e f : Expr} → Left e → Left f → e ≡ f
  one_left (x, s, p) (y, t, q) = p ∙ ap total (one_sum s t) ∙ sym q

  pub text_done : {count left right limit : ℕ} {s₀ s₁ s₂ s₃ : List ℕ} → w ≢ 0 → count + 3 ≤ limit
      → Wrote Left count (limit - 2) s₀ s₁ (Some left) → Wrote Right left (limit - 1) s₁ s₂ (Some right)
      → Put right (parse right 4 0 (left - 1) (right - 1)) s₂ s₃ → Wrote (Text c w back) count limit s₀ s₃ (Some (right + 1))
  text_done {count} {left} {right} {limit} {s₀} {s₁} {s₂} {s₃} h m L R U =
      let (e, p, x, a) = L.said in
      let (f, q, y, d) = R.said in
      let i = nodes_end (some e) x in
      let j = nodes_end (some f) y in
      let z : suc right ≡ right + 1 = omega arith in
      record {
        kept = kept_both (omega arith) L.kept (kept_both (omega arith) R.kept U.kept);
        said = (
          star e f,
          two_sums h p q,
          subst (NodesOf (node s₃) count (some (star e f))) z
              (join op_star
              (nodes_same (some e) (λ k g. U.kept.same k (omega arith) ∙ R.kept.same k g) x)
              (nodes_same (some f) U.kept.same y)
              U.is),
          omega arith,
        );
      }

  -- no room: for any text, for its left sum, for its right one
  pub no_text : (count limit : ℕ) → (w ≡ 0) ⊎ (limit < count + 3) → (g : Expr) → Text c w back g → limit < count + size g
  no_text count limit d g t =
      let (h, (e, f, p, q, z)) = text_parts t in
      ⊎_elim (λ k. absurd (h k)) (λ (k : limit < count + 3). rw z (omega (arith, size_some e, size_some f))) d

  pub no_left : {count limit : ℕ} {s t : List ℕ} → Wrote Left count (limit - 2) s t None
      → (g : Expr) → Text c w back g → limit < count + size g
  no_left L g t =
      let (h, (e, f, p, q, z)) = text_parts t in
      rw z (omega (arith, L.said e p, size_some f))

  pub no_right : {count left limit : ℕ} {s₀ s₁ s₂ : List ℕ} → Wrote Left count (limit - 2) s₀ s₁ (Some left)
      → Wrote Right left (limit - 1) s₁ s₂ None → (g : Expr) → Text c w back g → limit < count + size g
  no_right L R g t =
      let (h, (e, f, p, q, z)) = text_parts t in
      let (d, u, x, a) = L.said in
      let y : size d ≡ size e = ap size (one_left u p) in
      rw z (omega (arith, R.said f q, nodes_end (some d) x))
