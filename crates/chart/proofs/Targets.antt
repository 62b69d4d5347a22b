-- The targets of a vertex by an action, and the actions that a set offers, gathered vertex by vertex.
use Prim.Native.Nat.{ℕ, suc, ◌+◌, ◌-◌, ◌≤◌, ◌<◌}
use mathlib.Core.Path.{◌≡◌, refl, sym, ◌∙◌, subst}
use mathlib.Core.Logic.{◌≢◌, ◌⊎◌, ◌↔◌, ⊎_elim, by_cases}
use mathlib.Core.Bool.{Bool, true, false, cond}
use mathlib.Core.List.{List, ◌∷◌}
use native.Mathlib.Decide.{ℕ_discrete, dec_lt}
use native.Mathlib.Numerals.{add-one}
use native.Mathlib.Omega.{arith}
use lib.Dec.{eqb}
use lib.ListN.{length, get_or, set, length-set, replicate, get_or-eq_default}
use lib.Seq.{get_or-set_same, get_or-set_other, ext_get_or}
use Rattle.theory.specs.Tests.{Decides}
use Rattle.theory.proofs.Tests.{decided, decides_same, decides_and, decides_eqb, decides_below}
use Rattle.bits.specs.Bits.{list_from}
use Rattle.bits.specs.declared.sets.Set.{Set}
use Rattle.bits.specs.Sets.{Has, empty_set, Empty, Members}
use Rattle.chart.proofs.Rows.{EntersBelow, enters_nothing, enters_more, enters_rest, enters_all, acts_same, row_within, row_action, row_to, row_low, rows_after, after_long, after_byte}
use Rattle.bits.proofs.Gains.{blank}
use Rattle.bits.proofs.Visits.{Visit, FromPast, past_none, past_still, past_new, past_or, past_all}
use Rattle.chart.specs.Bodies.{count_of, from_of, action_of}
use Rattle.chart.specs.Parts.{count_in, action_in, row_byte, PartOf, RowsOf, ActionsRise, ActsAt, ActsTo, ActsIn, Lower}
use Rattle.chart.specs.Images.{ActsFrom, Offers, Marks, MarksMore}

decides_acts : {part : List ℕ} {i b : ℕ} (a : ℕ) → b ≡ action_in part i → Decides (eqb b a) (ActsAt part a i)
decides_acts {b = b} a e = decides_same ((λ p. record { is = sym e ∙ p }), (λ q. e ∙ q.is)) (decides_eqb b a)

-- BY EIGHTS over lower actions: those before the eight rows that would end at row e
module _ {rows : List (List ℕ)} {a : ℕ} where
  pub lower_none : Lower rows a 0
  lower_none = record { within = omega arith; below = λ i l. absurd (omega (arith, l)) }

  pub lower_more : {e : ℕ} → ActionsRise rows → 8 ≤ e → e ≤ length rows → row_byte rows (e - 1) 1 < a → Lower rows a e
  lower_more {e} A l h f = record { within = h; below = λ i g. omega (arith, A i (e - 1) (omega (arith, g)) (omega (arith, l, h)), f) }

-- THE TARGETS BY AN ACTION, of the rows before row i, where those passed have lower ones
pub acting_none : {part : List ℕ} {rows : List (List ℕ)} {a n : ℕ} {s : Set} → RowsOf part rows → Lower rows a n → s ≡ empty_set
    → Members (EntersBelow part (ActsAt part a) (n + 0)) s
acting_none R L e = enters_nothing (λ k l y. omega (arith, L.below k (omega (arith, l)), row_action R {i = k} (omega (arith, l, L.within)), y.is)) e

module _ {part : List ℕ} {rows : List (List ℕ)} (R : RowsOf part rows) (a n : ℕ) where
  -- of the rows from row n on, the one at i
  at_row : {i : ℕ} → i < length (rows_after rows n) → n + i < length rows
  at_row {i} h = omega (arith, h, after_long rows n)

  pub acting_low : {i : ℕ} → i < length (rows_after rows n) → row_byte (rows_after rows n) i 2 < 128
  acting_low {i} h = rw (after_byte rows n i 2) (row_low R (at_row h))

  pub acting_more : {i : ℕ} {s r : Set} → i < length (rows_after rows n)
      → ((y : ℕ) → Has r y ↔ (Has s y ⊎ ((eqb (row_byte (rows_after rows n) i 1) a ≡ true) × (y ≡ row_byte (rows_after rows n) i 2))))
      → Members (EntersBelow part (ActsAt part a) (n + i)) s → Members (EntersBelow part (ActsAt part a) (n + (i + 1))) r
  acting_more {i} {s} {r} h W M =
      let e : n + i + 1 ≡ n + (i + 1) = omega arith in
      subst (λ (j : ℕ). Members (EntersBelow part (ActsAt part a) j) r) e
      (enters_more (row_within R (at_row h)) (sym (row_to R (at_row h)) ∙ sym (after_byte rows n i 2))
      (decides_acts a (after_byte rows n i 1 ∙ row_action R (at_row h))) W M)

  -- from one that is higher on, none has the action
  pub acting_stops : {i : ℕ} {s : Set} → i < length (rows_after rows n) → a < row_byte (rows_after rows n) i 1
      → Members (EntersBelow part (ActsAt part a) (n + i)) s → Members (ActsTo part a) s
  acting_stops {i} h l M =
      enters_rest (λ k q g y. omega (arith, R.row.sorted (n + i) k q g, after_byte rows n i 1, row_action R (at_row h), l, y.is)) M

  pub acting_all : {i : ℕ} {s : Set} → length (rows_after rows n) ≤ i → Members (EntersBelow part (ActsAt part a) (n + i)) s → Members (ActsTo part a) s
  acting_all h M = enters_all (omega (arith, h, after_long rows n, R.many)) M

-- THE MARKS of a part's actions, before transition i
abbrev pub ActsBelow : List ℕ → ℕ → ℕ → Type 0
ActsBelow part i a = (e : ActsIn part a) × (e.acts.at < i)

module _ {part : List ℕ} where
  pub marks_none : {m : List ℕ} → MarksMore (ActsBelow part 0) m m
  marks_none = record { long = refl; marked = λ a h (e, l). absurd (omega (arith, l)); others = λ a n. refl }

  pub marks_more : {i x : ℕ} {before after : List ℕ} → length before ≡ 256 → i < count_in part → x ≡ action_in part i → x < 256
      → MarksMore (ActsBelow part i) before after → MarksMore (ActsBelow part (i + 1)) before (set after x 1)
  marks_more {i} {x} {before} {after} long h k low M = record {
    long = length-set after x 1 ∙ M.long;
    marked = λ a l (f, g). by_cases (ℕ_discrete a x)
        (λ z. here a z)
        (λ z. there a z ∙ M.marked a l (f, below a f g z));
    others = λ a n. by_cases (ℕ_discrete a x)
        (λ z. absurd (n (
          record { to = _; acts = record { at = i; within = h; enters = refl; holds = record { is = sym k ∙ sym z } } },
          omega arith,
        )))
        (λ z. there a z ∙ M.others a (λ (f, g). n (f, omega (arith, g))));
  }
    where
      here : (a : ℕ) → a ≡ x → get_or (set after x 1) a 0 ≡ 1
      here a z = rw z (get_or-set_same after x 1 0 (omega (arith, M.long, long, low)))

      there : (a : ℕ) → a ≢ x → get_or (set after x 1) a 0 ≡ get_or after a 0
      there a n = get_or-set_other after x a 1 0 n

      below : (a : ℕ) (f : ActsIn part a) → f.acts.at < i + 1 → a ≢ x → f.acts.at < i
      below a f g n = by_cases (ℕ_discrete f.acts.at i)
          (λ z. absurd (n (sym f.acts.holds.is ∙ subst (λ (j : ℕ). action_in part j ≡ x) (sym z) (sym k))))
          (λ z. omega (arith, g, z))

  pub marks_all : {i : ℕ} {before after : List ℕ} → count_in part ≤ i → MarksMore (ActsBelow part i) before after
      → MarksMore (ActsIn part) before after
  marks_all l M = record {
    long = M.long;
    marked = λ a h e. M.marked a h (e, omega (arith, e.acts.within, l));
    others = λ a n. M.others a (λ e. n e.0);
  }

-- of the part that a lookup hands back
pub row_marks : {b part before after : List ℕ} {v : ℕ} → PartOf b v part → MarksMore (ActsIn part) before after
    → MarksMore (ActsFrom b v) before after
row_marks S M = record {
  long = M.long;
  marked = λ a h e. M.marked a h (record { to = _; acts = (acts_same S a _).1 e.acts });
  others = λ a n. M.others a (λ e. n (record { to = _; acts = (acts_same S a _).0 e.acts }));
}

-- has u a transition with the action a?
acts-from? : (b : List ℕ) (u a : ℕ) → Dec (ActsFrom b u a)
acts-from? b u a = decided (decides_same (
  (λ (i, h, (p, q)). record { to = _; acts = record { at = i; within = h; leaves = p; enters = refl; holds = record { is = q } } }),
  (λ e. (e.acts.at, e.acts.within, (e.acts.leaves, e.acts.holds.is))),
)
    (decides_below (λ i. decides_and (decides_eqb (from_of b i) u) (decides_eqb (action_of b i) a)) (count_of b)))

-- THE MARKS of a set's vertices that are left no longer
module _ {b : List ℕ} {s : Set} where
  pub offers_none : Marks (FromPast (ActsFrom b) s s) (replicate 256 0)
  offers_none =
      record {
        long = refl;
        low = λ a. omega (arith, blank 256 a);
        exactly = λ a h. ((λ e. absurd (omega (arith, e, blank 256 a))), (λ g. absurd (past_none g)));
      }

  pub offers_more : {left fewer : Set} {u : ℕ} {before after : List ℕ} → Visit s left u fewer
      → Marks (FromPast (ActsFrom b) s left) before → MarksMore (ActsFrom b u) before after
      → Marks (FromPast (ActsFrom b) s fewer) after
  offers_more {left} {fewer} {u} {before} {after} T M N = record {
    long = N.long ∙ M.long;
    low = low;
    exactly = λ a h. (to a h, from a h);
  }
    where
      low : (a : ℕ) → get_or after a 0 ≤ 1
      low a =
          by_cases (acts-from? b u a) (λ e. by_cases (dec_lt a 256) (λ h. omega (arith, N.marked a h e))
          (λ h. omega (arith, get_or-eq_default after 0 {n = a} (omega (arith, N.long, M.long, h)))))
          (λ e. omega (arith, N.others a e, M.low a))

      to : (a : ℕ) → a < 256 → get_or after a 0 ≡ 1 → FromPast (ActsFrom b) s fewer a
      to a h e = by_cases (acts-from? b u a)
          (λ k. past_new T k)
          (λ k. past_still T ((M.exactly a h).0 (sym (N.others a k) ∙ e)))

      from : (a : ℕ) → a < 256 → FromPast (ActsFrom b) s fewer a → get_or after a 0 ≡ 1
      from a h g = by_cases (acts-from? b u a)
          (λ k. N.marked a h k)
          (λ k. N.others a k ∙ (M.exactly a h).1 (⊎_elim (λ p. p) (λ p. absurd (k p)) (past_or T g)))

  pub offers_all : {left : Set} {marks : List ℕ} → Empty left → Marks (FromPast (ActsFrom b) s left) marks → Marks (Offers b s) marks
  offers_all E M =
      record {
        long = M.long;
        low = M.low;
        exactly = λ a h. (
          (λ e. let (u, m, k) = (past_all E).0 ((M.exactly a h).0 e) in record { from = u; member = m; acts = k }),
          (λ o. (M.exactly a h).1 ((past_all E).1 (o.from, o.member, o.acts))),
        );
      }

-- HOW MANY ARE MARKED: of those from i on
pub count_more : (p : ℕ → Bool) {n i : ℕ} {b : Bool} → i < n → b ≡ p i
    → length (list_from p i (n - i)) ≡ cond b 1 0 + length (list_from p (i + 1) (n - (i + 1)))
unfolding list_from
count_more p {n} {i} {b} h e =
    let r : n - i ≡ suc (n - (i + 1)) = omega arith in
    rw (r, add-one i, e) (go (p i))
  where
    go : (x : Bool) → length (cond x (i ∷ list_from p (suc i) (n - suc i)) (list_from p (suc i) (n - suc i))) ≡ cond x
        1 0 + length (list_from p (suc i) (n - suc i))
    go true = omega arith
    go false = omega arith

pub count_end : (p : ℕ → Bool) {n i : ℕ} → n ≤ i → length (list_from p i (n - i)) ≡ 0
unfolding list_from
count_end p {n} {i} h = let r : n - i ≡ 0 = omega arith in rw r refl

pub flag_low : (b : Bool) → cond b 1 0 ≤ 1
flag_low true = omega arith
flag_low false = omega arith

-- one answer
pub marks_one : {P : ℕ → Type 0} {a b : List ℕ} → Marks P a → Marks P b → a ≡ b
marks_one {P} {a} {b} M N = ext_get_or 0 a b (M.long ∙ sym N.long) (λ i h. same i (omega (arith, M.long, h)))
  where
    same : (i : ℕ) → i < 256 → get_or a i 0 ≡ get_or b i 0
    same i h =
        by_cases (ℕ_discrete (get_or a i 0) 1)
        (λ e. e ∙ sym ((N.exactly i h).1 ((M.exactly i h).0 e)))
        (λ n. by_cases (ℕ_discrete (get_or b i 0) 1)
        (λ e. absurd (n ((M.exactly i h).1 ((N.exactly i h).0 e))))
        (λ m. omega (arith, M.low i, N.low i, n, m)))
