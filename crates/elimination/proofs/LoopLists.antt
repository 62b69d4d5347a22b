-- A list of bytes and its loops, two bytes each: their number and their places, what 56 asks of it, and the standing bytes
-- while its loops are taken out one after another.
use Prim.Native.Nat.{ℕ, zero, suc, ◌+◌, ◌*◌, ◌/◌, ◌%◌, ◌≤◌, ◌<◌}
use mathlib.Core.Path.{◌≡◌, refl, sym, ◌∙◌, ap, subst}
use mathlib.Core.Logic.{◌≢◌, ◌⊎◌, inl, inr, ⊎_elim, by_cases}
use mathlib.Core.Bool.{Bool, true, false, ◌&&◌, ◌||◌, not, false≢true}
use mathlib.Core.List.Memᴰ
use mathlib.Core.List.{List, [], ◌∷◌}
use native.Mathlib.Decide.{ℕ_discrete, dec_le, dec_lt}
use native.Mathlib.Omega.{arith}
use lib.Dec.{eqb, ltb}
use lib.ListN.{length, get_or}
use Rattle.theory.specs.Tests.{Decides, some_in}
use Rattle.theory.specs.Standing.{Loops, SameLoops}
use Rattle.theory.specs.Orders.{Pair, Listing, Distinct, none, one}
use Rattle.theory.specs.MultiSteps.{loop_at}
use Rattle.theory.proofs.Tests.{decided, not_so, decides_same, decides_and, decides_or, decides_not, decides_in}
use Rattle.theory.proofs.Tests.{decides_eqb, decides_ltb, decides_leb}
use Rattle.theory.proofs.Pairs.{distinct_cons}
use Rattle.theory.proofs.MultiSteps.{pair_same, at_member, member_at, distinct_at, at_distinct}
use Rattle.chart.specs.Standing.{TakenOutOf}
use Rattle.elimination.specs.RemovalAnswers.{Fits}
use Rattle.elimination.specs.Together.{loops_of, twice_test, loop_list_test}
use Rattle.elimination.specs.TogetherAnswers.{LoopListFits}
use Rattle.elimination.specs.LoopLists.{start_at, level_at, StandsBefore}

-- NUMBER AND PLACES
pub loops_long : (loops : List ℕ) → length (loops_of loops) ≡ length loops / 2
unfolding loops_of
loops_long [] = omega arith
loops_long (v ∷ []) = omega arith
loops_long (v ∷ l ∷ bytes) = omega (arith, loops_long bytes)

pub loops_at : (loops : List ℕ) (i : ℕ) → i < length (loops_of loops)
    → loop_at (loops_of loops) i ≡ (start_at loops i, level_at loops i)
unfolding loops_of
loops_at [] i h = absurd (omega (arith, h))
loops_at (v ∷ []) i h = absurd (omega (arith, h))
loops_at (v ∷ l ∷ bytes) zero h = refl
loops_at (v ∷ l ∷ bytes) (suc i) h =
    let e : suc (suc (2 * i)) ≡ 2 * suc i = omega arith in
    let f : suc (suc (2 * i + 1)) ≡ 2 * suc i + 1 = omega arith in
    let at : ℕ → ℕ = λ k. get_or (v ∷ l ∷ bytes) k 0 in
    loops_at bytes i (omega (arith, h)) ∙ pair_same (ap at e) (ap at f)

-- the loop at place i, with the bytes read
pub loop_here : (loops : List ℕ) (i : ℕ) {v l : ℕ} → i < length loops / 2 → v ≡ start_at loops i → l ≡ level_at loops i
    → (i < length (loops_of loops)) × (loop_at (loops_of loops) i ≡ (v, l))
loop_here loops i h f g =
    let k : i < length (loops_of loops) = omega (arith, h, loops_long loops) in
    (k, loops_at loops i k ∙ pair_same (sym f) (sym g))

-- 56: THE TEST DECIDES THE MEANING
not_or : (a b : Bool) → not a && not b ≡ not (a || b)
not_or true b = refl
not_or false b = refl

decides_same_loop : (c d : Pair) → Decides (eqb c.0 d.0 && eqb c.1 d.1) (c ≡ d)
decides_same_loop c d =
    decides_same ((λ (e, f). pair_same e f), (λ e. (ap (λ (x : Pair). x.0) e, ap (λ (x : Pair). x.1) e)))
    (decides_and (decides_eqb c.0 d.0) (decides_eqb c.1 d.1))

pub listed? : (cs : List Pair) (u m : ℕ) → Dec (Listing cs u m)
listed? cs u m = decided (decides_same ((λ (c, i, e). Memᴰ.cast e i), (λ i. ((u, m), i, refl))) (decides_in (decides_same_loop (u, m)) cs))

decides_once : (cs : List Pair) → Decides (not (twice_test cs)) (Distinct cs)
unfolding twice_test
decides_once [] = ((λ e. none), (λ d. refl))
decides_once (c ∷ cs) =
    subst (λ (t : Bool). Decides t (Distinct (c ∷ cs)))
    (not_or (some_in (λ d. eqb c.0 d.0 && eqb c.1 d.1) cs) (twice_test cs))
    (decides_same (
      (λ (n, d). one (λ m. n (c, m, refl)) d),
      (λ d. let (n, r) = distinct_cons d in ((λ (x, m, e). n (Memᴰ.cast e m)), r)),
    ) (decides_and (decides_not (decides_in (decides_same_loop c) cs)) (decides_once cs)))

pub tests_loop_list : (loops : List ℕ) → Decides (loop_list_test loops) (LoopListFits loops)
unfolding loop_list_test
tests_loop_list loops =
    decides_same
    ((λ (e, (s, d)). record { even = e; short = s; once = d }), (λ f. (f.even, (f.short, f.once))))
    (decides_and (decides_eqb _ 0) (decides_and (decides_leb _ 128) (decides_once (loops_of loops))))

-- WHETHER A LOOP STANDS EARLIER TOO, by the bytes
-- the loops at two places are one
abbrev pub SameAt : (loops : List ℕ) (j i : ℕ) → Type 0
SameAt loops j i = (start_at loops j ≡ start_at loops i) × (level_at loops j ≡ level_at loops i)

-- WHETHER 56 PASSES, by the bytes
module _ (n : ℕ) where
  decides_length : Decides (not (eqb (n % 2) 0) || ltb 128 n) ((n % 2 ≢ 0) ⊎ (128 < n))
  decides_length = decides_or (decides_not (decides_eqb (n % 2) 0)) (decides_ltb 128 n)

  pub length_fits : not (eqb (n % 2) 0) || ltb 128 n ≡ false → (n % 2 ≡ 0) × (n ≤ 128)
  length_fits e =
      let h = not_so decides_length e in (
        by_cases (ℕ_discrete (n % 2) 0) (λ z. z) (λ z. absurd (h (inl z))),
        by_cases (dec_le n 128) (λ z. z) (λ z. absurd (h (inr (omega (arith, z))))),
      )

module _ (loops : List ℕ) where
  pub twice_refused : (i : ℕ) → i < length loops / 2 → StandsBefore loops i → Decides false (LoopListFits loops)
  twice_refused i h s =
      let k : i < length (loops_of loops) = omega (arith, h, loops_long loops) in
      let g : s.at < length (loops_of loops) = omega (arith, k, s.earlier) in
      let same = loops_at loops s.at g ∙ pair_same s.start s.level ∙ sym (loops_at loops i k) in
      ((λ e. absurd (false≢true e)), (λ f. absurd (distinct_at f.once s.at i g k (omega (arith, s.earlier)) same)))

  before : (i j : ℕ) → i < length (loops_of loops) → j < i → loop_at (loops_of loops) j ≡ loop_at (loops_of loops) i
      → StandsBefore loops i
  before i j h l e =
      let z : ◌≡◌ {A = Pair} (start_at loops j, level_at loops j) (start_at loops i, level_at loops i) =
      sym (loops_at loops j (omega (arith, h, l))) ∙ e ∙ loops_at loops i h in
      record { at = j; earlier = l; start = ap (λ (x : Pair). x.0) z; level = ap (λ (x : Pair). x.1) z }

  pub list_passes : length loops % 2 ≡ 0 → length loops ≤ 128 → ((i : ℕ) → i < length loops / 2 → ¬ StandsBefore loops i)
      → Decides true (LoopListFits loops)
  list_passes e s n = ((λ t. record { even = e; short = s; once = at_distinct (loops_of loops) apart }), (λ f. refl))
    where
      apart : (i j : ℕ) → i < length (loops_of loops) → j < length (loops_of loops) → i ≢ j
          → loop_at (loops_of loops) i ≢ loop_at (loops_of loops) j
      apart i j h k d z =
          by_cases (dec_lt j i)
          (λ l. n i (omega (arith, h, loops_long loops)) (before i j h l (sym z)))
          (λ g. n j (omega (arith, k, loops_long loops)) (before j i k (omega (arith, g, d)) z))

-- TAKEN OUT ONE AFTER ANOTHER
-- one of the first n loops
pub record AmongFirst (loops : List ℕ) (n u m : ℕ) : Type 0 where
  pub at : ℕ
  pub within : at < n
  pub start : u ≡ start_at loops at
  pub level : m ≡ level_at loops at

module _ {b labels : List ℕ} where
  pub fits_taken : {X : Loops} → ((u m : ℕ) → Dec (X u m)) → {before after : List ℕ} → TakenOutOf b labels X before after
      → Fits b labels before → Fits b labels after
  fits_taken is? t f = record {
    formed = f.formed;
    each = f.each;
    marked = record {
      long = t.long ∙ f.marked.long;
      marks = λ i h. by_cases (is? _ _)
          (λ o. let z = t.gone i h o in omega arith) (λ o. let z = t.kept i h o in omega (arith, f.marked.marks i h));
    };
  }

  -- the entries of one set of loops gone, and then those of another
  pub taken_then : {X Y : Loops} → ((u m : ℕ) → Dec (Y u m)) → {before between after : List ℕ} → TakenOutOf b labels X before between
      → TakenOutOf b labels Y between after → TakenOutOf b labels (λ u m. X u m ⊎ Y u m) before after
  taken_then is? t s = record {
    long = s.long ∙ t.long;
    gone = λ i h c. by_cases (is? _ _) (s.gone i h) (λ n. s.kept i h n ∙ t.gone i h (⊎_elim (λ x. x) (λ y. absurd (n y)) c));
    kept = λ i h n. s.kept i h (λ y. n (inr y)) ∙ t.kept i h (λ x. n (inl x));
  }

  pub taken_same : {X Y : Loops} {before after : List ℕ} → SameLoops Y X → TakenOutOf b labels X before after
      → TakenOutOf b labels Y before after
  taken_same same t = record {
    long = t.long;
    gone = λ i h y. t.gone i h ((same _ _).0 y);
    kept = λ i h n. t.kept i h (λ x. n ((same _ _).1 x));
  }

  pub nothing_taken : {X : Loops} → ((u m : ℕ) → ¬ X u m) → (before : List ℕ) → TakenOutOf b labels X before before
  nothing_taken n before = record { long = refl; gone = λ i h x. absurd (n _ _ x); kept = λ i h y. refl }

  pub first_all : (loops : List ℕ) {before after : List ℕ} {n : ℕ} → n ≡ length loops / 2
      → TakenOutOf b labels (AmongFirst loops n) before after → TakenOutOf b labels (Listing (loops_of loops)) before after
  first_all loops {n = n} e t = taken_same (λ u m. (among, listed)) t
    where
      among : {u m : ℕ} → Listing (loops_of loops) u m → AmongFirst loops n u m
      among x =
          let (i, h, z) = member_at x in
          let y = sym z ∙ loops_at loops i h in
          record {
            at = i;
            within = omega (arith, h, e, loops_long loops);
            start = ap (λ (x : Pair). x.0) y;
            level = ap (λ (x : Pair). x.1) y;
          }

      listed : {u m : ℕ} → AmongFirst loops n u m → Listing (loops_of loops) u m
      listed a =
          let h : a.at < length (loops_of loops) = omega (arith, a.within, e, loops_long loops) in
          Memᴰ.cast (pair_same a.start a.level ∙ sym (loops_at loops a.at h)) (at_member (loops_of loops) a.at h)
