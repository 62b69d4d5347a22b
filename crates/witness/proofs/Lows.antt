-- The lowest level of each vertex, by the vertices that have an entry of each level.
use mathlib.Core.Path.{◌≡◌, refl, sym, ◌∙◌, subst}
use mathlib.Core.Logic.{⊎_elim, by_cases, inl, inr}
use mathlib.Core.List.Memᴰ
use mathlib.Core.List.{List, [], ◌∷◌, ◌++◌, Memᴰ}
use Prim.Native.Nat.{ℕ, ◌+◌, ◌<◌}
use native.Mathlib.Decide.{ℕ_discrete, dec_lt}
use native.Mathlib.Omega.{arith}
use lib.ListN.{length, get_or, set, length-set}
use lib.Seq.{get_or-set_same, get_or-set_other}
use Rattle.bits.specs.First.{First}
use Rattle.bits.specs.declared.sets.Set.{Set}
use Rattle.bits.specs.Sets.{Has, empty_set, Union, Difference}
use Rattle.bits.specs.Tables.{row_of, HasRow, TableOf}
use Rattle.bits.proofs.Members.{none, has?}
use Rattle.bits.specs.Listed.{members_of}
use Rattle.bits.proofs.Listed.{member_listed, listed_member}
use Rattle.bits.proofs.Given.{one_more, more_one}
use Rattle.theory.specs.Charts.{Steps, Loop}
use Rattle.witness.specs.Given.{Enters, LowestLevels, NoneAbove, PutFor}
use Rattle.witness.proofs.Firsts.{first_as}

-- ONE LEVEL for the numbers of a set that have been given already
pub record Putting (us : List ℕ) (x : ℕ) (a r : List ℕ) : Type 0 where
  pub long : length r ≡ length a
  pub given : (v : ℕ) → v < length a → Memᴰ v us → get_or r v 0 ≡ x
  pub others : (v : ℕ) → ¬ Memᴰ v us → get_or r v 0 ≡ get_or a v 0

pub putting_none : {x : ℕ} {a : List ℕ} → Putting [] x a a
putting_none = record { long = refl; given = λ v h m. absurd (Memᴰ.not-nil m); others = λ v n. refl }

pub putting_more : {us : List ℕ} (u : ℕ) {x : ℕ} {a r : List ℕ} → Putting us x a r → Putting (us ++ u ∷ []) x a (set r u x)
putting_more {us} u {x} {a} {r} P = record {
  long = length-set r u x ∙ P.long;
  given = λ v h m. by_cases (ℕ_discrete v u)
      (λ e. rw e (get_or-set_same r u x 0 (omega (arith, P.long, h, e))))
      (λ e. get_or-set_other r u v x 0 e ∙ P.given v h (⊎_elim (λ g. g) (λ z. absurd (e z)) (one_more m)));
  others = λ v n. get_or-set_other r u v x 0 (λ e. n (more_one (inr e))) ∙ P.others v (λ m. n (more_one (inl m)));
}

pub putting_all : {s : Set} {us : List ℕ} {x : ℕ} {a r : List ℕ} → length a ≡ 128 → members_of s ≡ us → Putting us x a r → PutFor s x a r
putting_all {s} l e P = record {
  long = P.long;
  of_set = λ v h. P.given v (omega (arith, l, h.below)) (subst (Memᴰ v) e (member_listed s v h));
  others = λ v n. P.others v (λ m. n (listed_member s v (subst (Memᴰ v) (sym e) m)));
}

-- THE LEVELS below l, from 1 on. v has an entry of level m
abbrev HasLevel : List ℕ → ℕ → ℕ → Type 0
HasLevel entered v m = (0 < m) × HasRow entered m v

-- those seen have their lowest level, and the others none below l
pub record LowTo (entered : List ℕ) (l : ℕ) (seen : Set) (low : List ℕ) : Type 0 where
  pub long : length low ≡ 128
  pub found : (v : ℕ) → Has seen v → First (HasLevel entered v) 0 256 (get_or low v 0)
  pub none_yet : (v m : ℕ) → m < l → ¬ Has seen v → ¬ HasLevel entered v m

pub low_none : {entered low : List ℕ} {s : Set} → length low ≡ 128 → s ≡ empty_set → LowTo entered 1 s low
low_none long e = record {
  long = long;
  found = λ v h. absurd (none v (rw e at h));
  none_yet = λ v m h n (a, g). omega (arith, h, a);
}

-- level l
pub low_more : {entered : List ℕ} {l : ℕ} {seen new all : Set} {low r : List ℕ} → 0 < l → l < 256
    → LowTo entered l seen low → Difference (row_of entered l) seen new → PutFor new l low r → Union seen (row_of entered l) all
    → LowTo entered (l + 1) all r
low_more {entered} {l} {seen} {new} {all} {low} {r} a h L D P U = record {
  long = P.long ∙ L.long;
  found = λ v g. by_cases (has? seen v) (old v) (λ n. ⊎_elim (λ k. absurd (n k)) (first v n) ((U v).0 g));
  none_yet = λ v m g n (b, k). by_cases (dec_lt m l)
      (λ i. L.none_yet v m i (λ z. n ((U v).1 (inl z))) (b, k))
      (λ i. n ((U v).1 (inr (subst (λ (x : ℕ). HasRow entered x v) (omega arith) k))));
}
  where
    old : (v : ℕ) → Has seen v → First (HasLevel entered v) 0 256 (get_or r v 0)
    old v g = rw (P.others v (λ k. ((D v).0 k).1 g)) (L.found v g)

    first : (v : ℕ) → ¬ Has seen v → HasRow entered l v → First (HasLevel entered v) 0 256 (get_or r v 0)
    first v n g = rw (P.of_set v ((D v).1 (g, n))) (record {
      from = omega arith;
      within = omega arith;
      holds = λ i. (a, g);
      before = λ m i j. L.none_yet v m j n;
    })

-- all of them
pub low_all : {S : Steps} {entered : List ℕ} {l top : ℕ} {seen : Set} {low : List ℕ} → NoneAbove entered top → top < l
    → ((v m : ℕ) → Loop S v m → (v < 128) × (m < 256)) → LowTo entered l seen low → TableOf (Enters S) entered
    → LowestLevels S low
low_all {S} {entered} {l} {top} {seen} {low} N h few L T = record {
  long = L.long;
  each = λ v m o. let (g, i) = few v m o in first_as
      (λ k j. let E = T.exactly k v g in (λ (a, z). E.0 z, λ q. (q.0, E.1 q)))
      (L.found v (by_cases (has? seen v) (λ k. k) (λ n. absurd (missed v m (o.0, (T.exactly m v g).1 o) i n))));
}
  where
    missed : (v m : ℕ) → HasLevel entered v m → m < 256 → ¬ ¬ Has seen v
    missed v m (a, k) i n = by_cases (dec_lt m l) (λ z. L.none_yet v m z n (a, k)) (λ z. N m v (omega arith) i k)
