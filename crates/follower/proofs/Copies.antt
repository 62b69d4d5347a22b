-- The sixteen bytes of a set copied one by one, from a state's bytes and to them.
use Prim.Native.Nat.{ℕ, ◌+◌, ◌≤◌, ◌<◌}
use mathlib.Core.Path.{◌≡◌, refl, sym, ◌∙◌}
use mathlib.Core.Logic.{by_cases}
use mathlib.Core.List.{List, [], ◌∷◌, ◌++◌}
use native.Mathlib.Decide.{ℕ_discrete}
use native.Mathlib.Omega.{arith}
use lib.ListN.{length, get_or, take, set, length-set, length-append, get_or-append}
use lib.Seq.{get_or-set_same, get_or-set_other, get_or-take, get_or_at, length-take-le, ext_get_or}

-- the first i of the n bytes of t are those of s
pub record Copied (n : ℕ) (s : List ℕ) (i : ℕ) (t : List ℕ) : Type 0 where
  pub long : length t ≡ n
  pub same : (k : ℕ) → k < i → get_or t k 0 ≡ get_or s k 0

pub copied_none : {n : ℕ} {s t : List ℕ} → length t ≡ n → Copied n s 0 t
copied_none l = record { long = l; same = λ k h. absurd (omega (arith, h)) }

pub copied_more : {n : ℕ} {s t : List ℕ} {i : ℕ} → i < n → Copied n s i t → Copied n s (i + 1) (set t i (get_or s i 0))
copied_more {s = s} {t} {i} h C = record {
  long = length-set t i (get_or s i 0) ∙ C.long;
  same = λ k l. by_cases (ℕ_discrete k i)
      (λ e. rw e (get_or-set_same t i (get_or s i 0) 0 (omega (arith, C.long, h))))
      (λ n. get_or-set_other t i k (get_or s i 0) 0 n ∙ C.same k (omega (arith, l, n)));
}

-- the set's bytes, of a state's
pub copied_from : {s t : List ℕ} {i : ℕ} → length s ≡ 17 → 16 ≤ i → Copied 16 s i t → t ≡ take 16 s
copied_from {s} {t} l h C =
    ext_get_or 0 t (take 16 s) (C.long ∙ sym (length-take-le 16 s (omega (arith, l))))
    (λ k g. let u : k < 16 = omega (arith, C.long, g) in C.same k (omega (arith, h, u)) ∙ sym (get_or-take 16 s k 0 u))

-- a state's bytes, of the set's and the mark
pub copied_to : {s t : List ℕ} {i : ℕ} (m : ℕ) → length s ≡ 16 → 16 ≤ i → Copied 17 s i t → set t 16 m ≡ s ++ (m ∷ [])
copied_to {s} {t} m l h C =
    ext_get_or 0 (set t 16 m) (s ++ (m ∷ []))
    (length-set t 16 m ∙ C.long ∙ sym (length-append s (m ∷ []) ∙ rw l refl))
    (λ k g. by_cases (ℕ_discrete k 16)
    (λ e. rw e (get_or-set_same t 16 m 0 (omega (arith, C.long)) ∙ sym (get_or_at s m [] 0 16 l)))
    (λ n. let u : k < 16 = omega (arith, g, length-set t 16 m, C.long, n) in
    get_or-set_other t 16 k m 0 n ∙ C.same k (omega (arith, h, u)) ∙ sym (get_or-append s (m ∷ []) 0 k (omega (arith, l, u)))))
