-- The refusals 20 and 21: each test says what its record says, and `check_of` lets pass just the well_formed bodies.
use mathlib.Core.Path.{◌≡◌, refl, sym, ap, ◌∙◌, subst}
use mathlib.Core.Logic.{◌↔◌, ◌⊎◌, inl, inr, ⊎_elim}
use mathlib.Core.List.{List}
use mathlib.Core.Bool.{Bool, true, false, cond}
use Prim.Native.Nat.{ℕ, zero, suc, ◌+◌, ◌-◌, ◌*◌, ◌≤◌, ◌<◌}
use native.Mathlib.Nat.{eq-or-lt_of_le, le_refl}
use native.Mathlib.Numerals.{add-one}
use native.Mathlib.Omega.{arith}
use lib.Dec.{eqb-suc-zero}
use borrow.Author.Tests.{le-leb, lt-ltb, eq-eqb, leb-true, ltb-true, eqb-true}
use Rattle.theory.specs.Least.{Least}
use Rattle.std.specs.Prelude.{Result, Ok, Err}
use Rattle.report.specs.declared.Refusal.{Refusal}
use Rattle.report.specs.declared.Refusal.TheVariants.{ChartHeader, Transition}
use Rattle.chart.specs.Bodies.{count_of, key_of, key_at, HeaderFits, TransitionFits, WellFormed, Sound, Faulty}
use Rattle.chart.specs.Checks.{◌and◌, header_ok, fits_at, above_at, ok_at, first_bad, check_of}

-- booleans
pub left : (a b : Bool) → (a and b) ≡ true → a ≡ true
unfolding ◌and◌
left true b h = refl
left false b h = h

pub right : (a b : Bool) → (a and b) ≡ true → b ≡ true
unfolding ◌and◌
right true b h = h
right false true h = refl
right false false h = h

pub both : {a b : Bool} → a ≡ true → b ≡ true → (a and b) ≡ true
unfolding ◌and◌
both {a} {b} p q = rw (p, q)

-- a test is true or not
pub told : (x : Bool) {A : Type 0} → (x ≡ true → A) → (x ≡ false → A) → A
told true f g = f refl
told false f g = g refl

pub differ : {A : Type 0} (x : Bool) → x ≡ true → x ≡ false → A
differ x p q = let z : ◌≡◌ {A = ℕ} 0 1 = absurd_of (sym p ∙ q) in absurd (omega arith)
  where
    absurd_of : true ≡ false → ◌≡◌ {A = ℕ} 0 1
    absurd_of e = cc

-- the header
pub header_true : (b : List ℕ) → header_ok b ≡ true → HeaderFits b
unfolding header_ok
header_true b h =
    let rest = right _ _ h in
    let h4 = left _ _ rest in
    let h3 = left _ _ h4 in
    let h2 = left _ _ h3 in
    let h1 = left _ _ h2 in
    record {
      long = leb-true _ _ (left _ _ h);
      vertices_low = leb-true _ _ (left _ _ h1);
      vertices_high = leb-true _ _ (right _ _ h1);
      start_low = leb-true _ _ (right _ _ h2);
      start_high = ltb-true _ _ (right _ _ h3);
      count_high = leb-true _ _ (right _ _ h4);
      whole = eqb-true _ _ (right _ _ rest);
    }

pub header_fits : (b : List ℕ) → HeaderFits b → header_ok b ≡ true
unfolding header_ok
header_fits b h =
    both (le-leb _ _ h.long)
    (both (both (both (both (both (le-leb _ _ h.vertices_low) (le-leb _ _ h.vertices_high)) (le-leb _ _ h.start_low)) (lt-ltb _ _ h.start_high)) (le-leb _ _ h.count_high)) (eq-eqb _ _ h.whole))

-- one transition
fits_true : (b : List ℕ) (i : ℕ) → fits_at b i ≡ true → TransitionFits b i
unfolding fits_at
fits_true b i h =
    let h3 = left _ _ h in
    let h2 = left _ _ h3 in
    let h1 = left _ _ h2 in
    record {
      from_low = leb-true _ _ (left _ _ h1);
      from_high = ltb-true _ _ (right _ _ h1);
      action_low = leb-true _ _ (right _ _ h2);
      to_high = ltb-true _ _ (right _ _ h3);
      pad_zero = eqb-true _ _ (right _ _ h);
    }

fits_holds : (b : List ℕ) (i : ℕ) → TransitionFits b i → fits_at b i ≡ true
unfolding fits_at
fits_holds b i h =
    both (both (both (both (le-leb _ _ h.from_low) (lt-ltb _ _ h.from_high)) (le-leb _ _ h.action_low)) (lt-ltb _ _ h.to_high)) (eq-eqb _ _ h.pad_zero)

-- the key before that of transition suc j is transition j's
before : (b : List ℕ) (j : ℕ) → key_of b (4 * suc j) ≡ key_at b j
before b j = let e : 4 * suc j ≡ 4 * j + 4 = omega arith in ap (key_of b) e

above_true : (b : List ℕ) (i : ℕ) → above_at b i ≡ true → (j : ℕ) → suc j ≡ i → key_at b j < key_at b i
unfolding above_at
above_true b zero h j e = absurd (omega arith)
above_true b (suc i) h j e =
    let o : key_of b (4 * suc i) < key_at b (suc i) = ltb-true _ _ (rw eqb-suc-zero at h) in
    let s : j ≡ i = omega arith in
    rw s (omega (arith, before b i))

above_holds : (b : List ℕ) (i : ℕ) → ((j : ℕ) → suc j ≡ i → key_at b j < key_at b i) → above_at b i ≡ true
unfolding above_at
above_holds b zero h = refl
above_holds b (suc i) h =
    let o : key_of b (4 * suc i) < key_at b (suc i) = omega (arith, before b i, h i refl) in
    rw eqb-suc-zero (lt-ltb _ _ o)

pub ok_true : (b : List ℕ) (i : ℕ) → ok_at b i ≡ true → Sound b i
unfolding ok_at
ok_true b i h = record { fits = fits_true b i (left _ _ h); above = above_true b i (right _ _ h) }

pub ok_holds : (b : List ℕ) (i : ℕ) → Sound b i → ok_at b i ≡ true
unfolding ok_at
ok_holds b i h = both (fits_holds b i h.fits) (above_holds b i h.above)

pub check_header : (b : List ℕ) → header_ok b ≡ false → check_of b ≡ Err ChartHeader
unfolding check_of
check_header b h = rw h

pub check_rest : (b : List ℕ) → header_ok b ≡ true → check_of b ≡ first_bad b 0 (count_of b)
unfolding check_of
check_rest b h = rw h

-- what the search for the lowest bad transition says
all_sound : (b : List ℕ) (i n : ℕ) → ((k : ℕ) → i ≤ k → k < i + n → ok_at b k ≡ true) → first_bad b i n ≡ Ok tt
unfolding first_bad
all_sound b i zero h = refl
all_sound b i (suc n) h = rw (h i (le_refl i) (omega arith)) (all_sound b (suc i) n (λ k l m. h k (omega arith) (omega arith)))

first_at : (b : List ℕ) (i n k : ℕ) → i ≤ k → k < i + n → ok_at b k ≡ false → ((j : ℕ) → i ≤ j → j < k → ok_at b j ≡ true) → first_bad b i n ≡ Err (Transition k)
unfolding first_bad
first_at b i zero k l h e below = absurd (omega arith)
first_at b i (suc n) k l h e below =
    ⊎_elim
    (λ p. rw p (rw e))
    (λ p. rw (below i (le_refl i) p) (first_at b (suc i) n k p (omega arith) e (λ j m g. below j (omega arith) g)))
    (eq-or-lt_of_le l)

-- what first_bad says by its answer
abbrev Said : List ℕ → ℕ → ℕ → Result Unit Refusal → Type 0
Said b i n (Ok tt) = (k : ℕ) → i ≤ k → k < i + n → ok_at b k ≡ true
Said b i n (Err p) = (k : ℕ) × (p ≡ Transition k) × (i ≤ k) × (k < i + n) × (ok_at b k ≡ false) × ((j : ℕ) → i ≤ j → j < k → ok_at b j ≡ true)

said : (b : List ℕ) (i n : ℕ) → Said b i n (first_bad b i n)
unfolding first_bad
said b i zero = λ k l h. absurd (omega arith)
said b i (suc n) =
    told (ok_at b i)
    (λ t. subst (λ (x : Bool). Said b i (suc n) (cond x (first_bad b (suc i) n) (Err (Transition i)))) (sym t) (more t (first_bad b (suc i) n) (said b (suc i) n)))
    (λ f. subst (λ (x : Bool). Said b i (suc n) (cond x (first_bad b (suc i) n) (Err (Transition i)))) (sym f) (i, refl, le_refl i, omega arith, f, λ j l h. absurd (omega arith)))
  where
    here_or : ok_at b i ≡ true → (k : ℕ) → i ≤ k → (suc i ≤ k → ok_at b k ≡ true) → ok_at b k ≡ true
    here_or t k l f = ⊎_elim (λ p. subst (λ (j : ℕ). ok_at b j ≡ true) p t) f (eq-or-lt_of_le l)

    more : ok_at b i ≡ true → (s : Result Unit Refusal) → Said b (suc i) n s → Said b i (suc n) s
    more t (Ok tt) h = λ k l m. here_or t k l (λ p. h k p (omega arith))
    more t (Err p) (k, e, l, m, f, below) = (k, e, omega arith, omega arith, f, λ j q r. here_or t j q (λ s. below j s r))

-- each above the one before it, so each above all before it
climbs : (b : List ℕ) (i d : ℕ) → ((k : ℕ) → k < count_of b → Sound b k) → i + suc d < count_of b → key_at b i < key_at b (i + suc d)
climbs b i zero h l =
    let e : i + 1 ≡ suc i = add-one i in
    rw e ((h (suc i) (omega arith)).above i refl)
climbs b i (suc d) h l =
    let e : i + suc (suc d) ≡ suc (i + suc d) = omega arith in
    let k : key_at b (i + suc d) < key_at b (suc (i + suc d)) = (h (suc (i + suc d)) (omega arith)).above (i + suc d) refl in
    rw e (omega (arith, climbs b i d h (omega arith)))

pub well_of : (b : List ℕ) → HeaderFits b → ((k : ℕ) → k < count_of b → Sound b k) → WellFormed b
well_of b head h = record {
  header = head;
  each = λ i l. (h i l).fits;
  ascending = λ i j l m.
      let e : i + suc (j - suc i) ≡ j = omega arith in
      subst (λ (x : ℕ). key_at b i < key_at b x) e (climbs b i (j - suc i) h (omega arith));
}

well_sound : (b : List ℕ) → WellFormed b → (i : ℕ) → i < count_of b → Sound b i
well_sound b w i h = record { fits = w.each i h; above = λ j e. w.ascending j i (omega arith) h }

-- what check_of says by its answer
abbrev Means : List ℕ → Result Unit Refusal → Type 0
Means b (Ok tt) = WellFormed b
Means b (Err p) = ((p ≡ ChartHeader) × ¬ HeaderFits b) ⊎ ((i : ℕ) × (p ≡ Transition i) × HeaderFits b × Least (Faulty b) i)

means : (b : List ℕ) → Means b (check_of b)
means b =
    told (header_ok b)
    (λ t. subst (Means b) (sym (check_rest b t)) (go (header_true b t) (first_bad b 0 (count_of b)) (said b 0 (count_of b))))
    (λ f. subst (Means b) (sym (check_header b f)) (inl (refl, λ h. differ (header_ok b) (header_fits b h) f)))
  where
    go : HeaderFits b → (s : Result Unit Refusal) → Said b 0 (count_of b) s → Means b s
    go head (Ok tt) h = well_of b head (λ k l. ok_true b k (h k (omega arith) (omega arith)))
    go head (Err p) (k, e, l, m, f, below) = inr (
      k,
      e,
      head,
      record {
        holds = (omega arith, λ s. differ (ok_at b k) (ok_holds b k s) f);
        lowest = λ j g x. x.1 (ok_true b j (below j (omega arith) g));
      },
    )

-- a body passes just when it is well formed
pub well_formed : (b : List ℕ) → check_of b ≡ Ok tt → WellFormed b
well_formed b e = subst (Means b) e (means b)

pub passes : (b : List ℕ) → WellFormed b → check_of b ≡ Ok tt
passes b w =
    check_rest b (header_fits b w.header)
    ∙ all_sound b 0 (count_of b) (λ k l h. ok_holds b k (well_sound b w k (omega arith)))

pub check_passed : (b : List ℕ) → (check_of b ≡ Ok tt) ↔ WellFormed b
check_passed b = (well_formed b, passes b)

-- 20: the header does not fit
pub check_20 : (b : List ℕ) → (check_of b ≡ Err ChartHeader) ↔ (¬ HeaderFits b)
check_20 b = (λ e. from (subst (Means b) e (means b)), λ n. told (header_ok b) (λ t. absurd (n (header_true b t))) (check_header b))
  where
    from : Means b (Err ChartHeader) → ¬ HeaderFits b
    from (inl x) = x.1
    from (inr (i, e, head, l)) = let z : ◌≡◌ {A = ℕ} 0 1 = cc in absurd (omega arith)

-- 21: the place is the lowest transition that is malformed or not above the one before it
pub check_21 : (b : List ℕ) (i : ℕ) → (check_of b ≡ Err (Transition i)) ↔ (HeaderFits b × Least (Faulty b) i)
check_21 b i = (λ e. from (subst (Means b) e (means b)), to)
  where
    from : Means b (Err (Transition i)) → HeaderFits b × Least (Faulty b) i
    from (inl x) = let e = x.0 in let z : ◌≡◌ {A = ℕ} 0 1 = cc in absurd (omega arith)
    from (inr (k, e, head, l)) = let p : k ≡ i = cc in (head, subst (Least (Faulty b)) p l)

    to : HeaderFits b × Least (Faulty b) i → check_of b ≡ Err (Transition i)
    to (head, l) =
        check_rest b (header_fits b head)
        ∙ first_at b 0 (count_of b) i (omega arith) (omega (arith, l.holds.0)) (told (ok_at b i) (λ t. absurd (l.holds.1 (ok_true b i t))) (λ f. f))
        (λ j m h. told (ok_at b j) (λ t. t) (λ f. absurd (l.lowest j h (omega (arith, l.holds.0), λ s. differ (ok_at b j) (ok_holds b j s) f))))
