-- Tables of sets: their rows, what comes into them, and what they have in the end.
use mathlib.Core.Path.{◌≡◌, refl, sym, ◌∙◌, ap, subst}
use mathlib.Core.Logic.{◌≢◌, ◌⊎◌, inl, inr, ⊎_elim, ◌↔◌, by_cases}
use mathlib.Core.Bool.{Bool, true, false, cond}
use mathlib.Core.List.{List, [], ◌∷◌, ◌++◌}
use Prim.Native.Nat.{ℕ, zero, suc, ◌+◌, ◌*◌, ◌/◌, ◌%◌, ◌^◌, ◌≤◌, ◌<◌}
use native.Mathlib.Omega.{arith}
use native.Mathlib.Decide.{ℕ_discrete, dec_lt}
use borrow.Author.Tests.{ltb-true, ltb-false}
use lib.Dec.{ltb}
use lib.ListN.{length, get_or, set, length-set, replicate, length-replicate}
use lib.Seq.{get_or-set_same, get_or-set_other, ext_get_or}
use Rattle.bits.specs.declared.sets.Set.{Set}
use Rattle.bits.specs.Words.{On, With, Without}
use Rattle.bits.specs.Sets.{Has, empty_set, Members, Union, SetFits}
use Rattle.bits.specs.Tables.{row_of, HasRow, put_row, Words, Table, TableOf, Gains, When, Above, InFirst}
use Rattle.bits.specs.Listed.{places_of}
use Rattle.bits.proofs.Members.{⊎_map, none, one_set}
use Rattle.bits.proofs.Given.{FromGiven, given_none, given_more, given_places}

-- a list of one number
pub filled : (n x w : ℕ) → w < n → get_or (replicate {A = ℕ} n x) w 0 ≡ x
filled zero x w h = absurd (omega (arith, h))
filled (suc n) x zero h = refl
filled (suc n) x (suc w) h = filled n x w (omega (arith, h))

-- a list of zeros
pub blank : (n w : ℕ) → get_or (replicate {A = ℕ} n 0) w 0 ≡ 0
blank zero w = refl
blank (suc n) zero = refl
blank (suc n) (suc w) = blank n w

-- past a list's end
pub beyond : (a : List ℕ) (i : ℕ) → length a ≤ i → get_or a i 0 ≡ 0
beyond [] i h = refl
beyond (x ∷ a) zero h = absurd (omega (arith, h))
beyond (x ∷ a) (suc i) h = beyond a i (omega (arith, h))

-- ROWS. A set of a table, by the word that has the number's bit
row_word : (a : List ℕ) (v w : ℕ) → w < 128 → cond (ltb w 64) (get_or a (2 * v) 0) (get_or a (2 * v + 1) 0) ≡ get_or a (2 * v + w / 64) 0
row_word a v w m = pick (ltb w 64) refl
  where
    pick : (b : Bool) → ltb w 64 ≡ b → cond b (get_or a (2 * v) 0) (get_or a (2 * v + 1) 0) ≡ get_or a (2 * v + w / 64) 0
    pick true e = let h = ltb-true w 64 e in ap (λ (i : ℕ). get_or a i 0) (omega (arith, h))
    pick false e = let h = ltb-false w 64 e in ap (λ (i : ℕ). get_or a i 0) (omega (arith, h, m))

pub has_row : (a : List ℕ) (v w : ℕ) → w < 128 → HasRow a v w ↔ On (get_or a (2 * v + w / 64) 0) (w % 64)
unfolding row_of
has_row a v w m = (
  (λ h. subst (λ (x : ℕ). On x (w % 64)) (row_word a v w m) h.on),
  (λ h. record { below = m; on = subst (λ (x : ℕ). On x (w % 64)) (sym (row_word a v w m)) h }),
)

same_row : (a b : List ℕ) (v w : ℕ) → get_or a (2 * v) 0 ≡ get_or b (2 * w) 0 → get_or a (2 * v + 1) 0 ≡ get_or b (2 * w + 1) 0 → row_of a v ≡ row_of b w
unfolding row_of
same_row a b v w e f = rw (e, f)

-- nothing is in a row of zeros
pub blank_row : (m x : ℕ) → row_of (replicate m 0) x ≡ empty_set
unfolding row_of
blank_row m x = rw (blank m (2 * x), blank m (2 * x + 1))

-- nor in a row that the table has not
pub row_beyond : (a : List ℕ) (x : ℕ) → length a ≤ 2 * x → row_of a x ≡ empty_set
unfolding row_of
row_beyond a x h = rw (beyond a (2 * x) h, beyond a (2 * x + 1) (omega (arith, h)))

-- a set that is put into a table
pub put_long : (a : List ℕ) (v : ℕ) (s : Set) → length (put_row a v s) ≡ length a
unfolding put_row
put_long a v s = length-set (set a (2 * v) s.lo) (2 * v + 1) s.hi ∙ length-set a (2 * v) s.lo

pub put_here : (a : List ℕ) (v : ℕ) (s : Set) → 2 * v + 2 ≤ length a → row_of (put_row a v s) v ≡ s
unfolding row_of put_row
put_here a v s l = rw (low, high)
  where
    low : get_or (set (set a (2 * v) s.lo) (2 * v + 1) s.hi) (2 * v) 0 ≡ s.lo
    low = get_or-set_other (set a (2 * v) s.lo) (2 * v + 1) (2 * v) s.hi 0 (λ e. omega (arith, e)) ∙ get_or-set_same a (2 * v) s.lo 0 (omega (arith, l))

    high : get_or (set (set a (2 * v) s.lo) (2 * v + 1) s.hi) (2 * v + 1) 0 ≡ s.hi
    high = get_or-set_same (set a (2 * v) s.lo) (2 * v + 1) s.hi 0 (omega (arith, l, length-set a (2 * v) s.lo))

-- the words of the others stay
pub put_word : (a : List ℕ) (v : ℕ) (s : Set) (i : ℕ) → i ≢ 2 * v → i ≢ 2 * v + 1 → get_or (put_row a v s) i 0 ≡ get_or a i 0
unfolding put_row
put_word a v s i n m = get_or-set_other (set a (2 * v) s.lo) (2 * v + 1) i s.hi 0 (λ e. m (omega (arith, e))) ∙ get_or-set_other a (2 * v) i s.lo 0 (λ e. n (omega (arith, e)))

pub put_other : (a : List ℕ) (v : ℕ) (s : Set) (x : ℕ) → x ≢ v → row_of (put_row a v s) x ≡ row_of a x
put_other a v s x n = same_row (put_row a v s) a x x (put_word a v s (2 * x) (λ e. n (omega (arith, e))) (λ e. omega (arith, e))) (put_word a v s (2 * x + 1) (λ e. omega (arith, e)) (λ e. n (omega (arith, e))))

-- one number more in set v
pub inserted : (a : List ℕ) (v w r : ℕ) → 2 * v + 2 ≤ length a → w < 128 → With (get_or a (2 * v + w / 64) 0) (w % 64) r → Gains (λ (x y : ℕ). (x ≡ v) × (y ≡ w)) a (set a (2 * v + w / 64) r)
inserted a v w r l m W = record { long = length-set a at r; exactly = exactly; odd = λ x e. get_or-set_other a at (2 * x) r 0 (λ f. omega (arith, e, f, l, m)) }
  where
    at : ℕ
    at = 2 * v + w / 64

    A : List ℕ
    A = set a at r

    word : (x y : ℕ) → 2 * x + 2 ≤ length a → y < 128 → On (get_or A (2 * x + y / 64) 0) (y % 64) ↔ (On (get_or a (2 * x + y / 64) 0) (y % 64) ⊎ ((x ≡ v) × (y ≡ w)))
    word x y i j = elim (ℕ_discrete (2 * x + y / 64) (2 * v + w / 64)) [ yes e ↦ here e | no e ↦ there e ]
      where
        back : 2 * x + y / 64 ≡ 2 * v + w / 64 → (On (get_or a (2 * v + w / 64) 0) (y % 64) ⊎ ((x ≡ v) × (y ≡ w))) → On r (y % 64)
        back e (inl on) = (W.exactly (y % 64)).1 (inl on)
        back e (inr f) = (W.exactly (y % 64)).1 (inr (omega (arith, f.1)))

        here : 2 * x + y / 64 ≡ 2 * v + w / 64 → On (get_or A (2 * x + y / 64) 0) (y % 64) ↔ (On (get_or a (2 * x + y / 64) 0) (y % 64) ⊎ ((x ≡ v) × (y ≡ w)))
        here e = subst (λ (k : ℕ). On (get_or A k 0) (y % 64) ↔ (On (get_or a k 0) (y % 64) ⊎ ((x ≡ v) × (y ≡ w)))) (sym e)
            (subst (λ (z : ℕ). On z (y % 64) ↔ (On (get_or a (2 * v + w / 64) 0) (y % 64) ⊎ ((x ≡ v) × (y ≡ w)))) (sym (get_or-set_same a (2 * v + w / 64) r 0 (omega (arith, l, m))))
            ((λ on. ⊎_map (λ o. o) (λ f. (omega (arith, e, m, j), omega (arith, e, f, m, j))) ((W.exactly (y % 64)).0 on)), back e))

        there : ¬ (2 * x + y / 64 ≡ 2 * v + w / 64) → On (get_or A (2 * x + y / 64) 0) (y % 64) ↔ (On (get_or a (2 * x + y / 64) 0) (y % 64) ⊎ ((x ≡ v) × (y ≡ w)))
        there d = subst (λ (z : ℕ). On z (y % 64) ↔ (On (get_or a (2 * x + y / 64) 0) (y % 64) ⊎ ((x ≡ v) × (y ≡ w)))) (sym (get_or-set_other a (2 * v + w / 64) (2 * x + y / 64) r 0 d))
            (inl, ⊎_elim (λ o. o) (λ f. absurd (d (omega (arith, f.0, f.1)))))

    exactly : (x y : ℕ) → 2 * x + 2 ≤ length a → y < 128 → HasRow A x y ↔ (HasRow a x y ⊎ ((x ≡ v) × (y ≡ w)))
    exactly x y i j = ((λ h. swap ((word x y i j).0 ((has_row A x y j).0 h))), (λ h. (has_row A x y j).1 ((word x y i j).1 (unswap h))))
      where
        swap : (On (get_or a (2 * x + y / 64) 0) (y % 64) ⊎ ((x ≡ v) × (y ≡ w))) → HasRow a x y ⊎ ((x ≡ v) × (y ≡ w))
        swap (inl on) = inl ((has_row a x y j).1 on)
        swap (inr f) = inr f

        unswap : (HasRow a x y ⊎ ((x ≡ v) × (y ≡ w))) → On (get_or a (2 * x + y / 64) 0) (y % 64) ⊎ ((x ≡ v) × (y ≡ w))
        unswap (inl on) = inl ((has_row a x y j).0 on)
        unswap (inr f) = inr f

-- WHAT COMES INTO A TABLE
pub gains_nothing : {P : ℕ → ℕ → Type 0} {a : List ℕ} → ((x y : ℕ) → y < 128 → ¬ P x y) → Gains P a a
gains_nothing f = record { long = refl; exactly = λ x y h l. (inl, ⊎_elim (λ g. g) (λ p. absurd (f x y l p))); odd = λ x e. refl }

pub gains_none : {P : ℕ → ℕ → Type 0} {a : List ℕ} → ((x y : ℕ) → ¬ P x y) → Gains P a a
gains_none f = gains_nothing (λ x y l. f x y)

pub gains_insert : {C : Type 0} {a r : List ℕ} {v w : ℕ} → C → Gains (λ (x y : ℕ). (x ≡ v) × (y ≡ w)) a r → Gains (When C v w) a r
gains_insert c I = record {
  long = I.long;
  exactly = λ x y h l. (λ g. ⊎_map (λ k. k) (λ e. (c, e.0, e.1)) ((I.exactly x y h l).0 g), λ g. (I.exactly x y h l).1 (⊎_map (λ k. k) (λ e. (e.1, e.2)) g));
  odd = I.odd;
}

-- the same, said in another way
pub gains_as : {P Q : ℕ → ℕ → Type 0} {a r : List ℕ} → ((x y : ℕ) → y < 128 → P x y ↔ Q x y) → Gains P a r → Gains Q a r
gains_as f G = record {
  long = G.long;
  exactly = λ x y h l. (λ g. ⊎_map (λ k. k) (f x y l).0 ((G.exactly x y h l).0 g), λ g. (G.exactly x y h l).1 (⊎_map (λ k. k) (f x y l).1 g));
  odd = G.odd;
}

-- one gain, then another
pub gains_then : {P Q R : ℕ → ℕ → Type 0} {a b c : List ℕ} → Gains P a b → Gains Q b c → ((x y : ℕ) → y < 128 → (P x y ⊎ Q x y) ↔ R x y) → Gains R a c
gains_then {P} {Q} {R} {a} {b} {c} G H f = record { long = H.long ∙ G.long; exactly = λ x y h l. (to x y h l, from x y h l); odd = λ x e. H.odd x (G.long ∙ e) ∙ G.odd x e }
  where
    to : (x y : ℕ) → 2 * x + 2 ≤ length a → y < 128 → HasRow c x y → HasRow a x y ⊎ R x y
    to x y h l g =
        ⊎_elim
        (λ k. ⊎_map (λ z. z) (λ p. (f x y l).0 (inl p)) ((G.exactly x y h l).0 k))
        (λ q. inr ((f x y l).0 (inr q)))
        ((H.exactly x y (omega (arith, G.long)) l).0 g)

    from : (x y : ℕ) → 2 * x + 2 ≤ length a → y < 128 → HasRow a x y ⊎ R x y → HasRow c x y
    from x y h l g =
        (H.exactly x y (omega (arith, G.long)) l).1
        (⊎_elim
        (λ k. inl ((G.exactly x y h l).1 (inl k)))
        (λ r. ⊎_map (λ p. (G.exactly x y h l).1 (inr p)) (λ q. q) ((f x y l).1 r))
        g)

-- WHAT A TABLE HAS
no_row : (m x y : ℕ) → ¬ HasRow (replicate m 0) x y
no_row m x y h = none y (rw (blank_row m x) at h)

-- what has come into an empty table
pub gained : {P : ℕ → ℕ → Type 0} {r : List ℕ} (n m : ℕ) → m ≡ 2 * n → Gains P (replicate m 0) r → Table n P r
gained n m e G = record {
  long = G.long ∙ length-replicate {A = ℕ} m 0 ∙ e;
  exactly = λ x y h l. let i = length-replicate {A = ℕ} m 0 in
      (λ g. ⊎_elim (λ k. absurd (no_row m x y k)) (λ p. p) ((G.exactly x y (omega arith) l).0 g), λ p. (G.exactly x y (omega arith) l).1 (inr p));
}

pub table_as : {n : ℕ} {P Q : ℕ → ℕ → Type 0} {a : List ℕ} → ((x y : ℕ) → x < n → y < 128 → P x y ↔ Q x y) → Table n P a → Table n Q a
table_as f T = record {
  long = T.long;
  exactly = λ x y h l. (λ g. (f x y h l).0 ((T.exactly x y h l).0 g), λ q. (T.exactly x y h l).1 ((f x y h l).1 q));
}

-- the same of a table of any length, where nothing comes to sets that it has not
pub blank_table : {P : ℕ → ℕ → Type 0} (n m : ℕ) → m ≡ 2 * n → ((x y : ℕ) → ¬ P x y) → TableOf P (replicate m 0)
blank_table n m e f = record
    { whole = (n, length-replicate {A = ℕ} m 0 ∙ e); exactly = λ x y l. (λ h. absurd (no_row m x y h), λ p. absurd (f x y p)) }

pub table_of_as : {P Q : ℕ → ℕ → Type 0} {a : List ℕ} → ((x y : ℕ) → y < 128 → P x y ↔ Q x y) → TableOf P a → TableOf Q a
table_of_as f T = record {
  whole = T.whole;
  exactly = λ x y l. (λ g. (f x y l).0 ((T.exactly x y l).0 g), λ q. (T.exactly x y l).1 ((f x y l).1 q));
}

pub table_of_gains : {P Q : ℕ → ℕ → Type 0} {a r : List ℕ} → TableOf P a → Gains Q a r
    → ((x y : ℕ) → length a ≤ 2 * x → ¬ Q x y) → TableOf (λ (x y : ℕ). P x y ⊎ Q x y) r
table_of_gains {P} {Q} {a} {r} T G f = record {
  whole = (T.whole.0, G.long ∙ T.whole.1);
  exactly = λ x y l. by_cases (dec_lt (2 * x) (length a)) (inside x y l)
      (outside x y l);
}
  where
    inside : (x y : ℕ) → y < 128 → 2 * x < length a → HasRow r x y ↔ (P x y ⊎ Q x y)
    inside x y l h = let E = G.exactly x y (omega (arith, h, T.whole.1)) l in
        (λ g. ⊎_map (T.exactly x y l).0 (λ q. q) (E.0 g), λ g. E.1 (⊎_map (T.exactly x y l).1 (λ q. q) g))

    outside : (x y : ℕ) → y < 128 → ¬ (2 * x < length a) → HasRow r x y ↔ (P x y ⊎ Q x y)
    outside x y l h = (
      λ g. absurd (none y (rw (row_beyond r x (omega (arith, h, G.long))) at g)),
      ⊎_elim (λ p. absurd (none y (rw (row_beyond a x (omega (arith, h))) at ((T.exactly x y l).1 p))))
          (λ q. absurd (f x y (omega (arith, h)) q)),
    )

-- more has come into it
pub table_gains : {n : ℕ} {P Q : ℕ → ℕ → Type 0} {a r : List ℕ} → Table n P a → Gains Q a r → Table n (λ (x y : ℕ). P x y ⊎ Q x y) r
table_gains T G = record {
  long = G.long ∙ T.long;
  exactly = λ x y h l. (
    λ g. ⊎_map (T.exactly x y h l).0 (λ q. q) ((G.exactly x y (omega (arith, T.long)) l).0 g),
    λ g. (G.exactly x y (omega (arith, T.long)) l).1 (⊎_map (T.exactly x y h l).1 (λ q. q) g),
  );
}

-- a set that is joined to set v
pub gains_put : (a : List ℕ) (v : ℕ) (s r : Set) → 2 * v + 2 ≤ length a → Union (row_of a v) s r → Gains (λ (x y : ℕ). (x ≡ v) × Has s y) a (put_row a v r)
gains_put a v s r l U = record { long = put_long a v r; exactly = λ x y h m. by_cases (ℕ_discrete x v) (here x y) (there x y); odd = λ x e. put_word a v r (2 * x) (λ f. omega (arith, e, f, l)) (λ f. omega (arith, f)) }
  where
    here : (x y : ℕ) → x ≡ v → HasRow (put_row a v r) x y ↔ (HasRow a x y ⊎ ((x ≡ v) × Has s y))
    here x y e = subst (λ (z : ℕ). HasRow (put_row a v r) z y ↔ (HasRow a z y ⊎ ((z ≡ v) × Has s y))) (sym e) (
      (λ h. ⊎_map (λ g. g) (λ g. (refl, g)) ((U y).0 (rw (put_here a v r l) at h))),
      (λ h. rw (put_here a v r l) ((U y).1 (⊎_map (λ g. g) (λ g. g.1) h))),
    )

    there : (x y : ℕ) → ¬ (x ≡ v) → HasRow (put_row a v r) x y ↔ (HasRow a x y ⊎ ((x ≡ v) × Has s y))
    there x y n = ((λ h. inl (rw (put_other a v r x n) at h)), (λ h. rw (put_other a v r x n) (⊎_elim (λ g. g) (λ g. absurd (n g.0)) h)))

-- a bit that is taken away was there, and another stays
module _ {x k r : ℕ} (W : Without x k r) where
  pub taken_less : (j : ℕ) → On r j → On x j
  taken_less j h = ((W.exactly j).0 h).0

  pub taken_or : (j : ℕ) → On x j → (j ≡ k) ⊎ On r j
  taken_or j h = by_cases (ℕ_discrete j k) (λ e. inl e) (λ e. inr ((W.exactly j).1 (h, e)))

-- `spread`: what is put in already, for the bits that have been given
pub record Spreading (a : List ℕ) (v : ℕ) (s : Set) (ks t : List ℕ) : Type 0 where
  pub gains : Gains (λ (w z : ℕ). FromGiven (λ k y. y ≡ v + k) ks w × Has s z) a t

pub spread_none : (a : List ℕ) (v : ℕ) (s : Set) → Spreading a v s [] a
spread_none a v s = record { gains = gains_none (λ w z h. given_none h.0) }

pub spread_more : {a t t' ks : List ℕ} {v : ℕ} {s : Set} (k : ℕ) → Spreading a v s ks t → Gains (λ (w z : ℕ). (w ≡ v + k) × Has s z) t t'
    → Spreading a v s (ks ++ k ∷ []) t'
spread_more k S H = record {
  gains = gains_then S.gains H (λ w z l. (
    ⊎_elim (λ (g, h). ((given_more k).1 (inl g), h)) (λ (e, h). ((given_more k).1 (inr e), h)),
    (λ (g, h). ⊎_map (λ f. (f, h)) (λ e. (e, h)) ((given_more k).0 g)),
  ));
}

pub spread_all : {a t ks : List ℕ} {v x : ℕ} {s : Set} → x < 2 ^ 64 → places_of x ≡ ks → Spreading a v s ks t
    → Gains (λ (w z : ℕ). Above v x w × Has s z) a t
spread_all f e S = gains_as (λ w z l. (
  (λ (g, h). let (k, on, p) = (given_places f e).0 g in ((k, p, on), h)),
  (λ ((k, p, on), h). ((given_places f e).1 (k, on, p), h)),
)) S.gains

-- the numbers of a row that has been read
pub row_members : (a : List ℕ) (v : ℕ) {s : Set} → s ≡ row_of a v → Members (HasRow a v) s
row_members a v e = record { exactly = λ w l. ((λ h. rw e at h), (λ h. rw e h)) }

-- `union_of`: no set, and one more
pub union_none : (a : List ℕ) {s : Set} → s ≡ empty_set → Members (InFirst a 0) s
union_none a e = record { exactly = λ w l. ((λ h. absurd (none w (rw e at h))), (λ (v, m, h). absurd (omega arith))) }

pub union_more : (a : List ℕ) (v : ℕ) {s q r : Set} → Members (InFirst a v) s → q ≡ row_of a v → Union s q r → Members (InFirst a (v + 1)) r
union_more a v {s} {q} {r} M e U = record { exactly = λ w l. ((λ h. there w l ((U w).0 h)), back w l) }
  where
    there : (w : ℕ) → w < 128 → Has s w ⊎ Has q w → InFirst a (v + 1) w
    there w l (inl h) = let (x, m, g) = (M.exactly w l).0 h in (x, omega arith, g)
    there w l (inr h) = (v, omega arith, rw e at h)

    back : (w : ℕ) → w < 128 → InFirst a (v + 1) w → Has r w
    back w l (x, m, h) =
        by_cases (ℕ_discrete x v)
        (λ f. (U w).1 (inr (rw e (subst (λ (y : ℕ). HasRow a y w) f h))))
        (λ f. (U w).1 (inl ((M.exactly w l).1 (x, omega arith, h))))

-- ONE TABLE: what a table has determines its words
row_fits : (a : List ℕ) (x : ℕ) → Words a → SetFits (row_of a x)
unfolding row_of
row_fits a x W = (W (2 * x), W (2 * x + 1))

same_words : (a b : List ℕ) (i : ℕ) → ((x : ℕ) → i ≡ 2 * x ⊎ i ≡ 2 * x + 1 → row_of a x ≡ row_of b x) → get_or a i 0 ≡ get_or b i 0
unfolding row_of
same_words a b i f = elim (ℕ_discrete (i % 2) 0) [ yes e ↦ even (omega (arith, e)) | no e ↦ uneven (omega (arith, e)) ]
  where
    even : i ≡ 2 * (i / 2) → get_or a i 0 ≡ get_or b i 0
    even e = rw (e) (ap (λ (s : Set). s.lo) (f (i / 2) (inl e)))

    uneven : i ≡ 2 * (i / 2) + 1 → get_or a i 0 ≡ get_or b i 0
    uneven e = rw (e) (ap (λ (s : Set). s.hi) (f (i / 2) (inr e)))

pub same_table : (a b : List ℕ) (n : ℕ) → Words a → Words b → length a ≡ 2 * n → length b ≡ 2 * n → ((x : ℕ) → x < n → (y : ℕ) → HasRow a x y ↔ HasRow b x y) → a ≡ b
same_table a b n F W l m f = ext_get_or 0 a b (l ∙ sym m) (λ i h. same_words a b i (λ x e. one_set (row_of a x) (row_of b x) (row_fits a x F) (row_fits b x W) (f x (within i x h e))))
  where
    within : (i x : ℕ) → i < length a → i ≡ 2 * x ⊎ i ≡ 2 * x + 1 → x < n
    within i x h (inl e) = omega arith
    within i x h (inr e) = omega arith

pub table_one : {n : ℕ} {P : ℕ → ℕ → Type 0} {a b : List ℕ} → Words a → Words b → Table n P a → Table n P b → a ≡ b
table_one {n} {P} {a} {b} F W S T = same_table a b n F W S.long T.long (λ x h y. ((λ g. (T.exactly x y h g.below).1 ((S.exactly x y h g.below).0 g)), (λ g. (S.exactly x y h g.below).1 ((T.exactly x y h g.below).0 g))))

pub gains_one : {P : ℕ → ℕ → Type 0} {z a b : List ℕ} → Words a → Words b → Gains P z a → Gains P z b → a ≡ b
gains_one {P} {z} {a} {b} F W S T = ext_get_or 0 a b (S.long ∙ sym T.long) each
  where
    rows : (x : ℕ) → 2 * x + 2 ≤ length z → row_of a x ≡ row_of b x
    rows x h = one_set (row_of a x) (row_of b x) (row_fits a x F) (row_fits b x W) (λ y. ((λ g. (T.exactly x y h g.below).1 ((S.exactly x y h g.below).0 g)), (λ g. (S.exactly x y h g.below).1 ((T.exactly x y h g.below).0 g))))

    each : (i : ℕ) → i < length a → get_or a i 0 ≡ get_or b i 0
    each i h = by_cases (ℕ_discrete (length z) (2 * (i / 2) + 1)) (λ e. last e) (λ n. same_words a b i (λ x e. rows x (inside x n e)))
      where
        inside : (x : ℕ) → ¬ (length z ≡ 2 * (i / 2) + 1) → i ≡ 2 * x ⊎ i ≡ 2 * x + 1 → 2 * x + 2 ≤ length z
        inside x n (inl e) = let q : i / 2 ≡ x = omega arith in omega (arith, S.long)
        inside x n (inr e) = omega (arith, S.long)

        last : length z ≡ 2 * (i / 2) + 1 → get_or a i 0 ≡ get_or b i 0
        last e = let q : i ≡ 2 * (i / 2) = omega (arith, S.long) in rw q (S.odd (i / 2) e ∙ sym (T.odd (i / 2) e))
