-- The way from the root down where the nodes may be no tree: when every node has had its turn, they are one.
use Prim.Native.Nat.{ℕ, zero, suc, ◌+◌, ◌-◌, ◌<◌, ◌≤◌}
use mathlib.Core.Path.{◌≡◌, refl, sym, ◌∙◌}
use mathlib.Core.Bool.{Bool, true, false, ◌&&◌, not, false≢true}
use mathlib.Core.Logic.{◌≢◌, ⊎_elim}
use mathlib.Core.List.{List}
use native.Mathlib.Nat.{eq-or-lt_of_le}
use native.Mathlib.Decide.{ℕ_discrete}
use native.Mathlib.Omega.{arith}
use lib.Dec.{eqb}
use lib.ListN.{length, get_or, set, replicate, length-set, length-replicate}
use lib.Seq.{get_or-set_same, get_or-set_other}
use borrow.Author.Tests.{eqb-true, eqb-false, eq-eqb, ne_eqb}
use Rattle.std.specs.Prelude.{Ok}
use Rattle.theory.specs.Nodes.{Op, op_sum, op_product, op_star, Node, bad, dead, leaf, bin, one, uses_in, uses}
use Rattle.theory.proofs.Up.{uses_of_lem}
use Rattle.expression.specs.Table.{kind_of, left_of, right_of, node, is_good, count, op_of, Sized, WellFormed}
use Rattle.expression.specs.Targets.{aim_left, aim, Ready, Turn, TargetsAfter}
use Rattle.expression.proofs.Table.{node_low}
use Rattle.expression.proofs.View.{at_bin_lem, not_bin}
use Rattle.expression.proofs.KeyLaws.{target_le}
use Rattle.expression.proofs.Aims.{Aimed, own_target, aim_none, aim_both, aim_from, aim_next, aim_end}

-- ONE TURN
tests : (x y z : Bool) → (x && y) && not z ≡ true → (x ≡ true) × (y ≡ true) × (z ≡ false)
tests false y z e = absurd (false≢true e)
tests true false z e = absurd (false≢true e)
tests true true true e = absurd (false≢true e)
tests true true false e = (refl, refl, refl)

module _ (s : List ℕ) (k : ℕ) (good : is_good (node s k) ≡ true) (a : List ℕ) (aimed : get_or a k 0 ≢ 255) where
  pub turn_none : kind_of s k < 2 → Turn s k a a
  turn_none h = record { ready = record { good = good; aimed = aimed; fresh = λ o l r e. absurd (not_bin s k good h o l r e) }; is = aim_none s k good a h }

  pub turn_both : (m l r t : ℕ) → 2 ≤ kind_of s k → m ≡ kind_of s k → l ≡ left_of s k → r ≡ right_of s k
      → t ≡ aim_left (op_of m) k r (get_or a k 0)
      → (eqb (get_or a l 0) 255 && eqb (get_or a r 0) 255) && not (eqb l r) ≡ true → Turn s k a (set (set a l t) r (get_or a k 0))
  turn_both m l r t h em el er et q = record { ready = record { good = good; aimed = aimed; fresh = fresh }; is = aim_both s k good a m l r t h em el er et }
    where
      is : node s k ≡ bin (op_of (kind_of s k)) l r
      is = rw (el, er) (at_bin_lem s k good h)

      fresh : (o : Op) (x y : ℕ) → node s k ≡ bin o x y → (get_or a x 0 ≡ 255) × (get_or a y 0 ≡ 255) × (x ≢ y)
      fresh o x y e = same (sym e ∙ is)
        where
          same : {p : Op} → bin o x y ≡ bin p l r → (get_or a x 0 ≡ 255) × (get_or a y 0 ≡ 255) × (x ≢ y)
          same d =
              let u : x ≡ l = cc in
              let v : y ≡ r = cc in
              let z = tests (eqb (get_or a l 0) 255) (eqb (get_or a r 0) 255) (eqb l r) q in
              rw (u, v) (eqb-true _ 255 z.0, eqb-true _ 255 z.1, eqb-false l r z.2)

-- where the last test fails the turn may not be had
module _ (s : List ℕ) (k : ℕ) (good : is_good (node s k) ≡ true) (a : List ℕ) where
  pub no_turn : (l r : ℕ) → 2 ≤ kind_of s k → l ≡ left_of s k → r ≡ right_of s k
      → (eqb (get_or a l 0) 255 && eqb (get_or a r 0) 255) && not (eqb l r) ≡ false → Ready s k a → ⊥
  no_turn l r h el er q d =
      let is : node s k ≡ bin (op_of (kind_of s k)) l r = rw (el, er) (at_bin_lem s k good h) in
      let (nl, nr, z) = d.fresh _ l r is in
      false≢true (sym q ∙ rw (eq-eqb (get_or a l 0) 255 nl, eq-eqb (get_or a r 0) 255 nr, ne_eqb l r z))

-- 1 where node j has a target, 0 where it has none yet
abbrev marked : List ℕ → ℕ → ℕ
marked a j = one (not (eqb (get_or a j 0) 255))

marked_no : (a : List ℕ) (j : ℕ) → get_or a j 0 ≡ 255 → marked a j ≡ 0
marked_no a j e = rw (eq-eqb (get_or a j 0) 255 e)

marked_yes : (a : List ℕ) (j : ℕ) → get_or a j 0 ≢ 255 → marked a j ≡ 1
marked_yes a j d = rw (ne_eqb (get_or a j 0) 255 d)

marked_none : (a : List ℕ) (j : ℕ) → marked a j ≡ 0 → get_or a j 0 ≡ 255
marked_none a j e = elim (ℕ_discrete (get_or a j 0) 255) [
  | yes q ↦ q
  | no d ↦ absurd (let m = marked_yes a j d in omega arith)
]

-- what the turn of node k, where v stands, does: it marks what the node uses, and keeps what has had its turn
record Moves (k : ℕ) (v : Node) (a b : List ℕ) : Type 0 where
  long : length b ≡ length a
  marks : (j : ℕ) → uses_in v j + marked a j ≡ marked b j
  keeps : (p : ℕ) → k ≤ p → get_or b p 0 ≡ get_or a p 0

still : (k : ℕ) (v : Node) (a : List ℕ) → ((j : ℕ) → uses_in v j ≡ 0) → Moves k v a a
still k v a z = record { long = refl; marks = λ j. let e = z j in omega arith; keeps = λ p h. refl }

-- two that have no target get one each
module _ (a : List ℕ) (l r x y : ℕ) (hl : l < length a) (hr : r < length a) (d : l ≢ r)
    (nl : get_or a l 0 ≡ 255) (nr : get_or a r 0 ≡ 255) (dx : x ≢ 255) (dy : y ≢ 255) where
  abbrev stored : List ℕ
  stored = set (set a l x) r y

  at_left : marked stored l ≡ 1
  at_left = let e = get_or-set_other (set a l x) r l y 0 d ∙ get_or-set_same a l x 0 hl in marked_yes stored l (rw e dx)

  at_right : marked stored r ≡ 1
  at_right = let e = get_or-set_same (set a l x) r y 0 (simp length-set hr) in marked_yes stored r (rw e dy)

  both_marked : (j : ℕ) → one (eqb l j) + one (eqb r j) + marked a j ≡ marked stored j
  both_marked j = elim (ℕ_discrete l j) [
    | yes e ↦ rw (← e, eq-eqb l l refl, ne_eqb r l (λ z. d (sym z)), at_left, marked_no a l nl)
    | no f ↦ elim (ℕ_discrete r j) [
      | yes e ↦ rw (← e, ne_eqb l r d, eq-eqb r r refl, at_right, marked_no a r nr)
      | no g ↦
          rw (ne_eqb l j f, ne_eqb r j g, get_or-set_other (set a l x) r j y 0 (λ z. g (sym z)), get_or-set_other a l j x 0 (λ z. f (sym z)))
          (omega arith)
    ]
  ]

-- the operands of node k are lower, and two that have no target
abbrev Fresh : ℕ → List ℕ → Node → Type 0
Fresh k a v = (o : Op) (l r : ℕ) → v ≡ bin o l r
    → (l < k) × (r < k) × (get_or a l 0 ≡ 255) × (get_or a r 0 ≡ 255) × (l ≢ r)

module _ (k : ℕ) (a : List ℕ) (few : k < 127) (long : length a ≡ 128) (aimed : get_or a k 0 ≢ 255) where
  -- a target is no 255
  real : (o : Op) (r : ℕ) → r < k → aim_left o k r (get_or a k 0) ≢ 255
  real op_sum r h = aimed
  real op_product r h = λ z. omega arith
  real op_star r h = λ z. omega arith

  moves : (v : Node) → Fresh k a v → Moves k v a (aim k v a)
  moves bad f = still k bad a (λ j. refl)
  moves dead f = still k dead a (λ j. refl)
  moves (leaf x) f = still k (leaf x) a (λ j. refl)
  moves (bin o l r) f =
      let (hl, hr, nl, nr, d) = f o l r refl in
      let y = get_or a k 0 in
      let x = aim_left o k r y in
      record {
        long = simp length-set;
        marks = both_marked a l r x y (omega (arith, hl)) (omega (arith, hr)) d nl nr (real o r hr) aimed;
        keeps = λ j h.
            get_or-set_other (set a l x) r j y 0 (λ z. omega (arith, z, hr))
            ∙ get_or-set_other a l j x 0 (λ z. omega (arith, z, hl));
      }

-- what a node uses: its operands, and one that is both twice
left_used : (o : Op) (l r : ℕ) → 1 ≤ uses_in (bin o l r) l
left_used o l r = rw (eq-eqb l l refl) (omega arith)

right_used : (o : Op) (l r : ℕ) → 1 ≤ uses_in (bin o l r) r
right_used o l r = rw (eq-eqb r r refl) (omega arith)

twice_used : (o : Op) (l r : ℕ) → l ≡ r → 2 ≤ uses_in (bin o l r) l
twice_used o l r e = rw (← e, eq-eqb l l refl) (omega arith)

-- ALL TURNS
-- the nodes from k on have had their turn: they are well formed and have targets, and the others that have one are their
-- operands, each once; past the nodes nothing is stored
pub record Descent (s : List ℕ) (k : ℕ) (a : List ℕ) : Type 0 where
  pub long : length a ≡ 128
  pub good : (p : ℕ) → k ≤ p → p < count s → is_good (node s p) ≡ true
  pub reached : (p : ℕ) → k ≤ p → p < count s → get_or a p 0 ≢ 255
  pub counted : (j : ℕ) → suc j < count s → uses (node s) (count s) j ≡ uses (node s) k j + marked a j
  pub targets : WellFormed s → Aimed s k a
  pub past : (p : ℕ) → count s ≤ p → get_or a p 0 ≡ get_or (replicate 128 255) p 0

-- no node has one at the start
none : (m j : ℕ) → j < m → get_or (replicate {A = ℕ} m 255) j 0 ≡ 255
none zero j h = absurd (omega arith)
none (suc m) zero h = refl
none (suc m) (suc j) h = none m j (omega arith)

module _ (s : List ℕ) (sized : Sized s) where
  pub descent_start : (n : ℕ) (a : List ℕ) → n ≡ count s → a ≡ replicate 128 255 → Descent s n (set a (n - 1) 0)
  descent_start n a e q = rw q (record {
    long = long;
    good = λ p l h. absurd (omega arith);
    reached = λ p l h. absurd (omega arith);
    counted = λ j h.
        let z = get_or-set_other (replicate 128 255) (n - 1) j 0 0 (λ z. omega arith) ∙ none 128 j (omega arith) in
        let c = marked_no start j z in
        rw (e, rw e at c) (omega arith);
    targets = λ w. aim_from s w n start e long (rw (← e) (get_or-set_same (replicate 128 255) (n - 1) 0 0 (omega arith)));
    past = λ p h. get_or-set_other (replicate 128 255) (n - 1) p 0 0 (λ z. omega (arith, z, h, e, sized.some));
  })
    where
      start : List ℕ
      start = set (replicate 128 255) (n - 1) 0

      long : length start ≡ 128
      long = simp length-set (length-replicate {A = ℕ} 128 255)

  pub descent_next : (k : ℕ) (a b : List ℕ) → k < count s → Descent s (suc k) a → Turn s k a b → Descent s k b
  unfolding uses
  descent_next k a b h i t = record {
    long = move.long ∙ i.long;
    good = λ p l g. ⊎_elim (λ (e : k ≡ p). rw (← e) t.ready.good) (λ (d : k < p). i.good p d g) (eq-or-lt_of_le l);
    reached = λ p l g.
        rw (move.keeps p l)
        (⊎_elim (λ (e : k ≡ p). rw (← e) t.ready.aimed) (λ (d : k < p). i.reached p d g) (eq-or-lt_of_le l));
    counted = λ j g. let c = i.counted j g in let m = move.marks j in omega arith;
    targets = λ w. aim_next s w k a b h (i.targets w) t.is;
    past = λ p g. move.keeps p (omega (arith, h, g)) ∙ i.past p g;
  }
    where
      move : Moves k (node s k) a b
      move =
          rw t.is
          (moves k a (omega (arith, sized.few)) i.long t.ready.aimed (node s k) (λ o l r e.
          let b = node_low s k o l r e in
          let f = t.ready.fresh o l r e in
          (b.0, b.1, f.0, f.1, f.2)))

  -- where the nodes are a tree, the next one may have its turn
  pub descent_ready : WellFormed s → (k : ℕ) (a : List ℕ) → k < count s → Descent s (suc k) a → Ready s k a
  descent_ready w k a h i = record {
    good = w.good k h;
    aimed = λ z. omega (arith, z, own_target s w k a h (i.targets w), target_le s w k h, sized.few);
    fresh = λ o l r e.
        let b = node_low s k o l r e in
        let ul : uses_in (bin o l r) l ≤ uses (node s) (suc k) l = rw e at (uses_of_lem (node s) (suc k) k l (omega arith)) in
        let ur : uses_in (bin o l r) r ≤ uses (node s) (suc k) r = rw e at (uses_of_lem (node s) (suc k) k r (omega arith)) in
        let gl : suc l < count s = omega (arith, h, b.0) in
        let gr : suc r < count s = omega (arith, h, b.1) in (
          none_yet l gl (omega (arith, ul, left_used o l r)),
          none_yet r gr (omega (arith, ur, right_used o l r)),
          λ z. omega (arith, ul, twice_used o l r z, i.counted l gl, w.once l gl),
        );
  }
    where
      none_yet : (j : ℕ) → suc j < count s → 1 ≤ uses (node s) (suc k) j → get_or a j 0 ≡ 255
      none_yet j g u = marked_none a j (omega (arith, u, i.counted j g, w.once j g))

  -- when all have had it they are a tree, and their targets are there
  pub descent_end : (a b : List ℕ) → a ≡ replicate 128 255 → Descent s 0 b → WellFormed s × TargetsAfter s (Ok tt) a b
  unfolding uses
  descent_end a b q i = (well, record { found = λ e. aim_end s well b (i.targets well); past = rw q i.past; kept = λ p e. absurd (let z : ◌≡◌ {A = ℕ} 0 1 = cc in omega arith) })
    where
      well : WellFormed s
      well = record {
        sized = sized;
        good = λ p h. i.good p (omega arith) h;
        once = λ j h. let c = i.counted j h in let m = marked_yes b j (i.reached j (omega arith) (omega arith)) in omega arith;
      }
