-- The tables by which the rows of the suspects are looked through: what their loops keep.
use mathlib.Core.Path.{◌≡◌, refl, sym, subst}
use mathlib.Core.Logic.{◌⊎◌, inl, inr, ◌↔◌, by_cases}
use mathlib.Core.List.{List}
use Prim.Native.Nat.{ℕ, ◌+◌, ◌-◌, ◌*◌, ◌≤◌, ◌<◌}
use native.Mathlib.Decide.{ℕ_discrete, dec_lt}
use native.Mathlib.Omega.{arith}
use lib.ListN.{length, get_or, replicate}
use Rattle.bits.specs.declared.sets.Set.{Set}
use Rattle.bits.specs.Words.{On}
use Rattle.bits.specs.Sets.{Has, Members, Intersection, SetFits}
use Rattle.bits.specs.Tables.{Table, Gains, Above}
use Rattle.bits.proofs.Words.{bit_below}
use Rattle.bits.proofs.Members.{low_has, high_has, has_low, has_high}
use Rattle.bits.proofs.Gains.{gains_none, gains_then, gained, table_as, table_gains}
use Rattle.bisimulation.specs.Answers.{Related}
use Rattle.bisimulation.specs.Suspects.{SameRow, Stretch, Column, SameWord, UsedBy, Used}
use Rattle.bisimulation.proofs.RowLaws.{related_row}

-- what holds from at up to k, and at k, holds up to k + 1
pub between_more : (P : ℕ → Type 0) {at : ℕ} (k : ℕ) → ((j : ℕ) → at ≤ j → j < k → P j) → P k → (j : ℕ) → at ≤ j → j < k + 1 → P j
between_more P k h p j l m = by_cases (ℕ_discrete j k) (λ e. subst P (sym e) p) (λ e. h j l (omega arith))

-- `spread_over`: a set's two words, one after the other
pub over_both : {a b c : List ℕ} (over s : Set) → SetFits over → Gains (λ (w z : ℕ). Above 0 over.lo w × Has s z) a b → Gains (λ (w z : ℕ). Above 64 over.hi w × Has s z) b c → Gains (λ (w z : ℕ). Has over w × Has s z) a c
over_both over s F P Q = gains_then P Q (λ w z l. (there w z, back w z))
  where
    there : (w z : ℕ) → (Above 0 over.lo w × Has s z) ⊎ (Above 64 over.hi w × Has s z) → Has over w × Has s z
    there w z (inl ((k, e, on), g)) = (subst (Has over) (omega arith) (low_has over k (bit_below 64 over.lo k F.0 on) on), g)
    there w z (inr ((k, e, on), g)) = (subst (Has over) (sym e) (high_has over k (bit_below 64 over.hi k F.1 on) on), g)

    back : (w z : ℕ) → Has over w × Has s z → (Above 0 over.lo w × Has s z) ⊎ (Above 64 over.hi w × Has s z)
    back w z (h, g) =
        by_cases (dec_lt w 64)
        (λ l. inl ((w, omega arith, has_low over w l h), g))
        (λ l. let q : w ≡ 64 + (w - 64) = omega arith in inr ((w - 64, q, has_high over (w - 64) (omega (arith, h.below)) (subst (Has over) q h)), g))

-- `columns`: the first n rows
pub columns_none : (relation : List ℕ) (among : Set)
    → Table 128 (λ (v u : ℕ). (u < 0) × Column relation among v u) (replicate {A = ℕ} 256 0)
columns_none relation among =
    gained {P = λ (v u : ℕ). (u < 0) × Column relation among v u} 128 256 refl (gains_none (λ v u h. omega (arith, h.0)))

pub columns_more : (relation : List ℕ) (among : Set) (n : ℕ) {rows b : ℕ} {t t' : List ℕ} {row over s : Set}
    → Table 128 (λ (v u : ℕ). (u < n) × Column relation among v u) t → Stretch (SameRow relation n) rows n b
    → Members (Related relation n) row
    → Intersection row among over → Members (λ (w : ℕ). (n ≤ w) × (w < b)) s → Gains (λ (w z : ℕ). Has over w × Has s z) t t'
    → Table 128 (λ (v u : ℕ). (u < b) × Column relation among v u) t'
columns_more relation among n {rows} {b} {t} {t'} {row} {over} {s} T R M I B G =
    table_as (λ v u l m. (there v u l m, back v u l m)) (table_gains T G)
  where
    there : (v u : ℕ) → v < 128 → u < 128 → ((u < n) × Column relation among v u) ⊎ (Has over v × Has s u)
        → (u < b) × Column relation among v u
    there v u l m (inl (p, q)) = (omega (arith, R.some), q)
    there v u l m (inr (h, g)) =
        let (x, y) = (I v).0 h in
        let (p, q) = (B.exactly u m).0 g in
        (q, (y, (R.each u p q v l).0 ((M.exactly v l).0 x)))

    back : (v u : ℕ) → v < 128 → u < 128 → (u < b) × Column relation among v u
        → ((u < n) × Column relation among v u) ⊎ (Has over v × Has s u)
    back v u l m (h, (y, r)) =
        by_cases (dec_lt u n)
        (λ p. inl (p, (y, r)))
        (λ p. inr ((I v).1 ((M.exactly v l).1 ((R.each u (omega arith) h v l).1 r), y), (B.exactly u m).1 (omega arith, h)))

pub columns_all : (relation : List ℕ) {among : Set} {t : List ℕ} (rows : ℕ) → length relation ≡ 16 * rows
    → Table 128 (λ (v u : ℕ). (u < rows) × Column relation among v u) t → Table 128 (Column relation among) t
columns_all relation rows e T = table_as (λ v u l m. ((λ h. h.1), (λ h. (related_row relation rows u v e h.1, h)))) T

-- `stretch`
pub same_itself : (relation : List ℕ) (i j : ℕ) → i ≤ j → j < i + 1 → SameRow relation i j
same_itself relation i j l m w h = let e : j ≡ i = omega arith in rw e ((λ r. r), (λ r. r))

-- `users`: the first n rows
pub users_none : (words : List ℕ) → Table 64 (UsedBy words 0) (replicate {A = ℕ} 128 0)
users_none words = gained {P = UsedBy words 0} 64 128 refl (gains_none (λ k u h. omega (arith, h.0)))

pub users_more : (words : List ℕ) (n : ℕ) {rows b : ℕ} {t t' : List ℕ} {s : Set} → Table 64 (UsedBy words n) t → Stretch (SameWord words n) rows n b → Members (λ (w : ℕ). (n ≤ w) × (w < b)) s → Gains (λ (k z : ℕ). Above 0 (get_or words n 0) k × Has s z) t t' → Table 64 (UsedBy words b) t'
users_more words n {rows} {b} {t} {t'} {s} T R B G = table_as (λ k u l m. (there k u m, back k u m)) (table_gains T G)
  where
    there : (k u : ℕ) → u < 128 → UsedBy words n k u ⊎ (Above 0 (get_or words n 0) k × Has s u) → UsedBy words b k u
    there k u m (inl (p, q)) = (omega (arith, R.some), q)
    there k u m (inr ((j, f, on), h)) = let (p, q) = (B.exactly u m).0 h in let g : j ≡ k = omega arith in (q, rw (R.each u p q) (rw g at on))

    back : (k u : ℕ) → u < 128 → UsedBy words b k u → UsedBy words n k u ⊎ (Above 0 (get_or words n 0) k × Has s u)
    back k u m (h, on) =
        by_cases (dec_lt u n)
        (λ p. inl (p, on))
        (λ p. inr ((k, omega arith, rw (R.each u (omega arith) h) at on), (B.exactly u m).1 (omega arith, h)))

-- `used`: the first n rows
pub used_more : (words : List ℕ) (n x r : ℕ) → Used words n x → ((j : ℕ) → On r j ↔ (On x j ⊎ On (get_or words n 0) j)) → Used words (n + 1) r
used_more words n x r U E u k h on =
    by_cases (ℕ_discrete u n) (λ e. (E k).1 (inr (subst (λ (y : ℕ). On (get_or words y 0) k) e on))) (λ e. (E k).1 (inl (U u k (omega arith) on)))
