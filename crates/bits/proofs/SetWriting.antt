-- A set written as bytes, a member after the other: each bit by its value.
use Prim.Native.Nat.{ℕ, ◌/◌, ◌%◌, ◌<◌}
use mathlib.Core.Path.{◌≡◌, refl, sym, ◌∙◌, subst}
use mathlib.Core.Logic.Iff
use mathlib.Core.Logic.{◌≢◌, inl, ⊎_elim, ◌↔◌, by_cases}
use mathlib.Core.List.Memᴰ
use mathlib.Core.List.{List, [], ◌∷◌, ◌++◌, Memᴰ}
use native.Mathlib.Decide.{ℕ_discrete}
use native.Mathlib.Omega.{arith}
use lib.ListN.{length, get_or, set, length-set, replicate}
use lib.Seq.{get_or-set_same, get_or-set_other}
use Rattle.bits.specs.declared.sets.Set.{Set}
use Rattle.bits.specs.Words.{On, With}
use Rattle.bits.specs.Sets.{BytesOf}
use Rattle.bits.specs.Listed.{members_of}
use Rattle.bits.proofs.Gains.{blank}
use Rattle.bits.proofs.Listed.{member_listed, listed_member}
use Rattle.bits.proofs.Given.{one_more, more_one}
use Rattle.bits.proofs.Members.{⊎_map, zero_off}

-- THE BYTES have the bits of the numbers that have been given
pub record Writing (us bytes : List ℕ) : Type 0 where
  pub long : length bytes ≡ 16
  pub below : (k : ℕ) → get_or bytes k 0 < 256
  pub exactly : (w : ℕ) → w < 128 → On (get_or bytes (w / 8) 0) (w % 8) ↔ Memᴰ w us

pub writing_none : Writing [] (replicate 16 0)
writing_none = record {
  long = refl;
  below = λ k. omega (arith, blank 16 k);
  exactly = λ w h. ((λ on. absurd (zero_off (w % 8) (rw (blank 16 (w / 8)) at on))), (λ m. absurd (Memᴰ.not-nil m)));
}

pub writing_more : {us bytes : List ℕ} {r : ℕ} (v : ℕ) → v < 128 → With (get_or bytes (v / 8) 0) (v % 8) r → r < 256
    → Writing us bytes → Writing (us ++ v ∷ []) (set bytes (v / 8) r)
writing_more {us} {bytes} {r} v b W low I = record {
  long = length-set bytes (v / 8) r ∙ I.long;
  below = λ k. by_cases (ℕ_discrete k (v / 8)) (λ e. rw (here k e) low) (λ n. rw (there k n) (I.below k));
  exactly = λ w h. by_cases (ℕ_discrete (w / 8) (v / 8)) (same w h) (other w h);
}
  where
    here : (k : ℕ) → k ≡ v / 8 → get_or (set bytes (v / 8) r) k 0 ≡ r
    here k e = rw e (get_or-set_same bytes (v / 8) r 0 (omega (arith, I.long, b)))

    there : (k : ℕ) → k ≢ v / 8 → get_or (set bytes (v / 8) r) k 0 ≡ get_or bytes k 0
    there k n = get_or-set_other bytes (v / 8) k r 0 n

    same : (w : ℕ) → w < 128 → w / 8 ≡ v / 8 → On (get_or (set bytes (v / 8) r) (w / 8) 0) (w % 8) ↔ Memᴰ w (us ++ v ∷ [])
    same w h e = rw (here (w / 8) e) (
      (λ on. more_one (⊎_map (I.exactly w h).0 (λ p. omega (arith, e, p)) (rw (sym e) at ((W.exactly (w % 8)).0 on)))),
      (λ m. (W.exactly (w % 8)).1 (rw (sym e) (⊎_map (I.exactly w h).1 (λ z. omega (arith, z)) (one_more m)))),
    )

    other : (w : ℕ) → w < 128 → w / 8 ≢ v / 8 → On (get_or (set bytes (v / 8) r) (w / 8) 0) (w % 8) ↔ Memᴰ w (us ++ v ∷ [])
    other w h n =
        rw (there (w / 8) n) (
          (λ on. more_one (inl ((I.exactly w h).0 on))),
          (λ m. ⊎_elim (I.exactly w h).1 (λ z. absurd (n (omega (arith, z)))) (one_more m)),
        )

pub writing_all : {s : Set} {us bytes : List ℕ} → members_of s ≡ us → Writing us bytes → BytesOf s bytes
writing_all {s} e I = record {
  long = I.long;
  below = I.below;
  exactly = λ w h. Iff.trans (I.exactly w h) (
    (λ m. listed_member s w (subst (Memᴰ w) (sym e) m)),
    (λ m. subst (Memᴰ w) e (member_listed s w m)),
  );
}
