-- The rows of a relation as parts of its bytes: a bit stands only in a row that is there, and in one of its 128 columns.
use mathlib.Core.Path.{◌≡◌, refl, sym, ap, ◌∙◌, subst}
use mathlib.Core.Logic.{◌↔◌, by_cases}
use mathlib.Core.Bool.{false≢true}
use mathlib.Core.List.{List, ◌++◌}
use Prim.Native.Nat.{ℕ, zero, suc, ◌+◌, ◌-◌, ◌*◌, ◌/◌, ◌%◌, ◌≤◌, ◌<◌}
use native.Mathlib.Decide.{dec_lt}
use native.Mathlib.Omega.{arith}
use lib.ListN.{length, get_or, take, drop, length-append, length-take, length-drop}
use lib.Seq.{get_or-take, get_or-drop, take-append_seam, drop-append-add}
use borrow.Author.Tests.{eq-eqb, eqb-true}
use Rattle.theory.specs.RelationTests.{RelationTest}
use Rattle.bits.specs.declared.sets.Set.{Set}
use Rattle.bits.specs.Bits.{has_bit, set_bytes}
use Rattle.bits.specs.Words.{On}
use Rattle.bits.specs.Sets.{Has, Members}
use Rattle.bits.proofs.Powers.{has_past}
use Rattle.bits.proofs.SetBytes.{set_length, set_bit}
use Rattle.bisimulation.specs.Relations.{row_bytes, rows_from, related_test}
use Rattle.bisimulation.specs.Answers.{Related}

-- a bit stands in a byte of its row
bit_in : (relation : List ℕ) (u v : ℕ) → Related relation u v → v / 8 < length (row_bytes relation u)
unfolding related_test
bit_in relation u v e = by_cases (dec_lt (v / 8) (length (row_bytes relation u))) (λ h. h) (λ h. absurd (false≢true (sym (has_past (row_bytes relation u) v (omega arith)) ∙ e)))

row_length : (relation : List ℕ) (u : ℕ) → (length (row_bytes relation u) ≤ 16) × (length (row_bytes relation u) ≤ length relation - 16 * u)
row_length relation u = simp (length-take, length-drop) (omega arith, omega arith)

pub related_column : (relation : List ℕ) (u v : ℕ) → Related relation u v → v < 128
related_column relation u v e = omega (arith, bit_in relation u v e, (row_length relation u).0)

pub related_row : (relation : List ℕ) (rows u v : ℕ) → length relation ≡ 16 * rows → Related relation u v → u < rows
related_row relation rows u v w e = omega (arith, bit_in relation u v e, (row_length relation u).1)

-- a pair is related where a bit of a byte of its row is set
pub related_on : (relation : List ℕ) (u v : ℕ) → v < 128 → Related relation u v ↔ On (get_or relation (16 * u + v / 8) 0) (v % 8)
unfolding related_test
related_on relation u v h =
    let e : get_or (row_bytes relation u) (v / 8) 0 ≡ get_or relation (16 * u + v / 8) 0 = get_or-take 16 (drop (16 * u) relation) (v / 8) 0 (omega arith) ∙ get_or-drop (16 * u) relation (v / 8) 0 in
    ((λ r. subst (λ (x : ℕ). On x (v % 8)) e (eqb-true _ _ r)), (λ on. eq-eqb _ _ (subst (λ (x : ℕ). On x (v % 8)) (sym e) on)))

-- the set that is read has the vertices that u is related to
pub row_members : (relation : List ℕ) (u : ℕ) {r : Set} → Members (λ (w : ℕ). On (get_or relation (16 * u + w / 8) 0) (w % 8)) r → Members (Related relation u) r
row_members relation u M = record { exactly = λ w l. let R = related_on relation u w l in ((λ h. R.1 ((M.exactly w l).0 h)), (λ r. (M.exactly w l).1 (R.0 r))) }

pub has_related : (relation : List ℕ) (u : ℕ) {r : Set} → Members (Related relation u) r → (w : ℕ) → Has r w ↔ Related relation u w
has_related relation u M w = ((λ h. (M.exactly w h.below).0 h), (λ r. (M.exactly w (related_column relation u w r)).1 r))

-- THE ROWS THAT A TEST GIVES: their number, and their bits, which are those of the test
pub rows_length : (t : RelationTest) (u n : ℕ) → length (rows_from t u n) ≡ 16 * n
unfolding rows_from
rows_length t u zero = refl
rows_length t u (suc n) =
    length-append (set_bytes (t u)) (rows_from t (suc u) n) ∙ omega (arith, set_length (t u), rows_length t (suc u) n)

-- the first sixteen bytes, and those past them
first_row_lem : (xs ys : List ℕ) → length xs ≡ 16 → take 16 (xs ++ ys) ≡ xs
first_row_lem xs ys l = ap (λ (m : ℕ). take m (xs ++ ys)) (sym l) ∙ take-append_seam xs ys

later_rows : (xs ys : List ℕ) (m k : ℕ) → length xs ≡ 16 → m ≡ 16 + k → drop m (xs ++ ys) ≡ drop k ys
later_rows xs ys m k l e = ap (λ (j : ℕ). drop j (xs ++ ys)) (e ∙ ap (λ (j : ℕ). j + k) (sym l)) ∙ drop-append-add xs ys k

row_at : (t : RelationTest) (u n k : ℕ) → k < n → row_bytes (rows_from t u n) k ≡ set_bytes (t (u + k))
unfolding rows_from
row_at t u zero k h = absurd (omega arith)
row_at t u (suc n) zero h =
    first_row_lem (set_bytes (t u)) (rows_from t (suc u) n) (set_length (t u)) ∙ ap (λ (m : ℕ). set_bytes (t m)) (omega arith)
row_at t u (suc n) (suc k) h =
    ap (take 16) (later_rows (set_bytes (t u)) (rows_from t (suc u) n) (16 * suc k) (16 * k) (set_length (t u)) (omega arith))
    ∙ row_at t (suc u) n k (omega arith)
    ∙ ap (λ (m : ℕ). set_bytes (t m)) (omega arith)

pub rows_test : (t : RelationTest) (n u v : ℕ) → u < n → v < 128 → related_test (rows_from t 0 n) u v ≡ t u v
unfolding related_test
rows_test t n u v h g =
    ap (λ (s : List ℕ). has_bit s v) (row_at t 0 n u h ∙ ap (λ (m : ℕ). set_bytes (t m)) (omega arith)) ∙ set_bit (t u) v g
