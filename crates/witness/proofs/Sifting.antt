-- Of the bits of a word those with a property, bit by bit; and of a set.
use mathlib.Core.Path.{◌≡◌, sym, subst}
use mathlib.Core.Logic.{inl, inr, ⊎_elim, by_cases, ◌↔◌}
use mathlib.Core.List.Memᴰ
use mathlib.Core.List.{List, [], ◌∷◌, ◌++◌, Memᴰ}
use Prim.Native.Nat.{ℕ, ◌+◌, ◌-◌, ◌^◌, ◌≤◌, ◌<◌}
use native.Mathlib.Decide.{dec_lt}
use native.Mathlib.Omega.{arith}
use Rattle.bits.specs.declared.sets.Set.{Set}
use Rattle.bits.specs.Words.{On, With}
use Rattle.bits.specs.Listed.{places_of}
use Rattle.bits.specs.Sets.{Has, Members}
use Rattle.bits.proofs.Words.{bit_below}
use Rattle.bits.proofs.Listed.{place_listed, listed_place}
use Rattle.bits.proofs.Given.{one_more, more_one}
use Rattle.bits.proofs.Members.{⊎_map, zero_off, low_has, high_has, has_low, has_high}

-- of the bits that have been given, found has those with P
pub record Sifting (P : ℕ → Type 0) (ks : List ℕ) (found : ℕ) : Type 0 where
  pub exactly : (k : ℕ) → On found k ↔ (Memᴰ k ks × P k)

pub sift_none : {P : ℕ → Type 0} → Sifting P [] 0
sift_none = record { exactly = λ k. (λ h. absurd (zero_off k h), λ (m, p). absurd (Memᴰ.not-nil m)) }

module _ {P : ℕ → Type 0} {ks : List ℕ} {k found : ℕ} (S : Sifting P ks found) where
  -- the next bit has P
  pub sift_with : {r : ℕ} → P k → With found k r → Sifting P (ks ++ k ∷ []) r
  sift_with p F = record {
    exactly = λ j. (
      λ h. ⊎_elim
          (λ g. let (m, q) = (S.exactly j).0 g in (more_one (inl m), q))
          (λ e. (more_one (inr e), subst P (sym e) p))
          ((F.exactly j).0 h),
      λ (m, q). (F.exactly j).1 (⊎_map (λ n. (S.exactly j).1 (n, q)) (λ e. e) (one_more m)),
    );
  }

  -- it has not
  pub sift_past : ¬ P k → Sifting P (ks ++ k ∷ []) found
  sift_past n = record {
    exactly = λ j. (
      λ h. let (m, q) = (S.exactly j).0 h in (more_one (inl m), q),
      λ (m, q). ⊎_elim (λ g. (S.exactly j).1 (g, q)) (λ e. absurd (n (subst P e q))) (one_more m),
    );
  }

pub sift_all : {P : ℕ → Type 0} {word found : ℕ} {ks : List ℕ} → word < 2 ^ 64 → places_of word ≡ ks → Sifting P ks found
    → (k : ℕ) → On found k ↔ (On word k × P k)
sift_all {word = word} f e S k = (
  λ h. let (m, p) = (S.exactly k).0 h in ((listed_place word k (subst (Memᴰ k) (sym e) m)).1, p),
  λ (on, p). (S.exactly k).1 (subst (Memᴰ k) e (place_listed word k (bit_below 64 word k f on) on), p),
)

-- OF A SET, by its two words
pub sifted : (P : ℕ → Type 0) (s r : Set) → ((k : ℕ) → On r.lo k ↔ (On s.lo k × P (0 + k)))
    → ((k : ℕ) → On r.hi k ↔ (On s.hi k × P (64 + k))) → Members (λ (w : ℕ). Has s w × P w) r
sifted P s r f g = record { exactly = λ w m. by_cases (dec_lt w 64) (low w) (λ h. high w m (omega (arith, h))) }
  where
    low : (w : ℕ) → w < 64 → Has r w ↔ (Has s w × P w)
    low w l = let e : 0 + w ≡ w = omega arith in (
      (λ h. let (on, p) = (f w).0 (has_low r w l h) in (low_has s w l on, rw e at p)),
      (λ (h, p). low_has r w l ((f w).1 (has_low s w l h, rw e p))),
    )

    high : (w : ℕ) → w < 128 → 64 ≤ w → Has r w ↔ (Has s w × P w)
    high w m h =
        let l : w - 64 < 64 = omega (arith, m, h) in
        let e : 64 + (w - 64) ≡ w = omega (arith, h) in
        subst (λ (x : ℕ). Has r x ↔ (Has s x × P x)) e (
          (λ k. let (on, p) = (g (w - 64)).0 (has_high r (w - 64) l k) in (high_has s (w - 64) l on, p)),
          (λ (k, p). high_has r (w - 64) l ((g (w - 64)).1 (has_high s (w - 64) l k, p))),
        )
