-- A node's word from those of its operands, and the words of all nodes below one.
use Prim.Native.Nat.{ℕ, suc, ◌+◌, ◌-◌, ◌/◌, ◌%◌, ◌^◌, ◌<◌, ◌≤◌}
use mathlib.Core.Path.{◌≡◌, refl, sym, ◌∙◌}
use mathlib.Core.Logic.{◌⊎◌, inl, inr, ◌↔◌, ⊎_elim}
use mathlib.Core.List.Memᴰ
use mathlib.Core.List.{List, [], ◌∷◌, ◌++◌}
use native.Mathlib.Nat.{zero-div}
use native.Mathlib.Decide.{ℕ_discrete}
use native.Mathlib.Numerals.{add-one}
use native.Mathlib.Omega.{arith}
use lib.ListN.{length, get_or, set, replicate, length-set, length-replicate}
use lib.Seq.{get_or-set_same, get_or-set_other}
use Rattle.bits.specs.Words.{On, With}
use Rattle.theory.specs.Nodes.{Op, bin, first}
use Rattle.expression.specs.Table.{kind_of, left_of, right_of, node, count, op_of, WellFormed}
use Rattle.expression.specs.Words.{RanksOf, JoinedWord, Under, itself, by_left, by_right, Filled, Worded}
use Rattle.expression.proofs.Table.{tree}
use Rattle.expression.proofs.View.{at_bin_lem, not_bin}
use Rattle.expression.proofs.Under.{under_le, all_under}
use Rattle.expression.proofs.Aims.{zeros}
use Rattle.expression.proofs.Firsts.{first_dead, first_own, first_left, first_both}

-- no bit of 0 is set
pub off : (i : ℕ) → ¬ On 0 i
off i on = let e = zero-div (2 ^ i) in let f : 0 / 2 ^ i % 2 ≡ 0 = rw e in omega (arith, f, on)

-- THE RANKS OF LEAVES AS BITS
module _ (ranks : List ℕ) where
  none : RanksOf ranks [] 0
  none = record { exactly = λ i. ((λ on. absurd (off i on)), (λ r. absurd (Memᴰ.not-nil r.1))) }

  one : (j x : ℕ) → With 0 (get_or ranks j 0) x → RanksOf ranks (j ∷ []) x
  one j x W = record {
    exactly = λ i. (
      (λ on. ⊎_elim (λ (z : On 0 i). absurd (off i z)) (λ (e : i ≡ get_or ranks j 0). (j, Memᴰ.head refl, sym e)) ((W.exactly i).0 on)),
      (λ r. let e : r.0 ≡ j = Memᴰ.eq_of_singleton r.1 in (W.exactly i).1 (inr (sym (rw e at r.2)))),
    );
  }

  both : (js is : List ℕ) (x y z : ℕ) → RanksOf ranks js x → RanksOf ranks is y → ((i : ℕ) → On z i ↔ (On x i ⊎ On y i)) → RanksOf ranks (js ++ is) z
  both js is x y z p q f = record {
    exactly = λ i. (
      (λ on. ⊎_elim
          (λ (a : On x i). let r = (p.exactly i).0 a in (r.0, Memᴰ.append_left is r.1, r.2))
          (λ (b : On y i). let r = (q.exactly i).0 b in (r.0, Memᴰ.append_right js r.1, r.2))
          ((f i).0 on)),
      (λ r. (f i).1 (⊎_elim (λ a. inl ((p.exactly i).1 (r.0, a, r.2))) (λ b. inr ((q.exactly i).1 (r.0, b, r.2))) (Memᴰ.append_cases js r.1))),
    );
  }

-- A NODE'S WORD
module _ (s : List ℕ) (w : WellFormed s) (k : ℕ) (h : k < count s) (ranks : List ℕ) where
  pub word_dead : kind_of s k ≡ 0 → RanksOf ranks (first (node s) k) 0
  word_dead e = rw (first_dead s w k h e) (none ranks)

  pub word_own : (x : ℕ) → kind_of s k ≡ 1 → With 0 (get_or ranks k 0) x → RanksOf ranks (first (node s) k) x
  word_own x e W = rw (first_own s w k h e) (one ranks k x W)

  word_joined : (a b x : ℕ) → 2 ≤ kind_of s k → RanksOf ranks (first (node s) (left_of s k)) a → RanksOf ranks (first (node s) (right_of s k)) b
      → JoinedWord (kind_of s k) a b x → RanksOf ranks (first (node s) k) x
  word_joined a b x q p r j = elim (ℕ_discrete (kind_of s k) 3) [
    | yes e ↦ rw (first_left s w k h e, j.left e) p
    | no d ↦ rw (first_both s w k h q d) (both ranks (first (node s) (left_of s k)) (first (node s) (right_of s k)) a b x p r (j.both d))
  ]

  -- FILLING
  module _ (a : List ℕ) (long : length a ≡ 128) where
    at_own : (b : List ℕ) (x : ℕ) → length b ≡ length a → get_or (set b (suc k) x) (suc k) 0 ≡ x
    at_own b x e = get_or-set_same b (suc k) x 0 (let f = w.sized.few in omega arith)

    pub filled_leaf : (x : ℕ) → kind_of s k < 2 → RanksOf ranks (first (node s) k) x → Filled s ranks k a (set a (k + 1) x) x
    filled_leaf x q p = rw (add-one k) (record { long = length-set a (suc k) x; own = p; each = λ j u. let e = only u in rw (e, at_own a x refl) p; kept = kept })
      where
        -- below a node without operands is no other
        only : {j : ℕ} → Under (node s) k j → j ≡ k
        only itself = refl
        only (by_left e u) = absurd (not_bin s k (w.good k h) q _ _ _ e)
        only (by_right e u) = absurd (not_bin s k (w.good k h) q _ _ _ e)

        kept : (u : ℕ) → (get_or (set a (suc k) x) u 0 ≡ get_or a u 0) ⊎ ((j : ℕ) × Under (node s) k j × (u ≡ suc j))
        kept u = elim (ℕ_discrete u (suc k)) [
          | yes e ↦ inr (k, itself, e)
          | no d ↦ inl (get_or-set_other a (suc k) u x 0 d)
        ]

    pub filled_both : (l r x y z : ℕ) (b c : List ℕ) → 2 ≤ kind_of s k → l ≡ left_of s k → r ≡ right_of s k → Filled s ranks l a b x → Filled s ranks r b c y
        → JoinedWord (kind_of s k) x y z → Filled s ranks k a (set c (k + 1) z) z
    filled_both l r x y z b c q el er f g j =
        rw (add-one k) (record { long = length-set c (suc k) z ∙ g.long ∙ f.long; own = own; each = λ i u. each u; kept = kept })
      where
        is : node s k ≡ bin (op_of (kind_of s k)) l r
        is = rw (el, er) (at_bin_lem s k (w.good k h) q)

        own : RanksOf ranks (first (node s) k) z
        own = word_joined x y z q (rw el at f.own) (rw er at g.own) j

        -- what the left operand's words are when the right one's have come
        stays : (i : ℕ) → Under (node s) l i → RanksOf ranks (first (node s) i) (get_or c (suc i) 0)
        stays i u = ⊎_elim
            (λ (e : get_or c (suc i) 0 ≡ get_or b (suc i) 0). rw e (f.each i u))
            (λ (v : (t : ℕ) × Under (node s) r t × (suc i ≡ suc t)). let e : i ≡ v.0 = omega (arith, v.2) in rw e (g.each v.0 v.1))
            (g.kept (suc i))

        operand_of : (o : Op) (p t : ℕ) → node s k ≡ bin o p t → (p ≡ l) × (t ≡ r)
        operand_of o p t e = go (sym e ∙ is)
          where
            go : {n : Op} → bin o p t ≡ bin n l r → (p ≡ l) × (t ≡ r)
            go d = (cc, cc)

        other : (i : ℕ) → i < k → get_or (set c (suc k) z) (suc i) 0 ≡ get_or c (suc i) 0
        other i d = get_or-set_other c (suc k) (suc i) z 0 (λ e. omega arith)

        low : (l < k) × (r < k)
        low = (tree s w).low k (op_of (kind_of s k)) l r h is

        at_left : (i : ℕ) → Under (node s) l i → RanksOf ranks (first (node s) i) (get_or (set c (suc k) z) (suc i) 0)
        at_left i u =
            let b = low.0 in
            rw (other i (omega (arith, b, under_le (node s) (count s) (tree s w) (omega (arith, b)) u))) (stays i u)

        at_right : (i : ℕ) → Under (node s) r i → RanksOf ranks (first (node s) i) (get_or (set c (suc k) z) (suc i) 0)
        at_right i u =
            let b = low.1 in
            rw (other i (omega (arith, b, under_le (node s) (count s) (tree s w) (omega (arith, b)) u))) (g.each i u)

        each : {i : ℕ} → Under (node s) k i → RanksOf ranks (first (node s) i) (get_or (set c (suc k) z) (suc i) 0)
        each itself = rw (at_own c z (g.long ∙ f.long)) own
        each (by_left e u) = at_left _ (rw (operand_of _ _ _ e).0 at u)
        each (by_right e u) = at_right _ (rw (operand_of _ _ _ e).1 at u)

        kept : (u : ℕ) → (get_or (set c (suc k) z) u 0 ≡ get_or a u 0) ⊎ ((i : ℕ) × Under (node s) k i × (u ≡ suc i))
        kept u = elim (ℕ_discrete u (suc k)) [
          | yes e ↦ inr (k, itself, e)
          | no d ↦ ⊎_elim
              (λ (e : get_or c u 0 ≡ get_or b u 0). ⊎_elim
              (λ (t : get_or b u 0 ≡ get_or a u 0). inl (get_or-set_other c (suc k) u z 0 d ∙ e ∙ t))
              (λ v. inr (v.0, by_left is v.1, v.2))
              (f.kept u))
              (λ v. inr (v.0, by_right is v.1, v.2))
              (g.kept u)
        ]

-- ALL WORDS, from no bits
pub filled_all : (s : List ℕ) → WellFormed s → (ranks b : List ℕ) (n x : ℕ) → n ≡ count s → Filled s ranks (n - 1) (replicate 128 0) b x → Worded s ranks b
filled_all s w ranks b n x e f = record {
  long = f.long ∙ length-replicate {A = ℕ} 128 0;
  each = λ j h. f.each j (rw e (all_under (node s) (count s) (tree s w) j h));
  end = outside 0 (λ j h q. omega arith);
  rest = λ u h. outside u (λ j i q. omega arith);
}
  where
    outside : (u : ℕ) → ((j : ℕ) → j < count s → u ≡ suc j → ⊥) → get_or b u 0 ≡ 0
    outside u d = ⊎_elim
        (λ (q : get_or b u 0 ≡ get_or (replicate {A = ℕ} 128 0) u 0). q ∙ zeros 128 u)
        (λ v. absurd (d v.0 (omega (arith, w.sized.some, under_le (node s) (count s) (tree s w) (omega (arith, w.sized.some)) v.1)) v.2))
        (f.kept u)
