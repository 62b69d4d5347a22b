-- 43 to 45 of a pair, of a row and of all rows: what the loops keep, and what their answers say.
use mathlib.Core.Path.{◌≡◌, refl, sym, subst}
use mathlib.Core.Logic.{◌⊎◌, inl, inr, ⊎_elim, ◌↔◌, by_cases}
use mathlib.Core.Bool.{Bool, true, false, beq, false≢true}
use mathlib.Core.List.{List}
use Prim.Native.Nat.{ℕ, ◌+◌, ◌*◌, ◌≤◌, ◌<◌}
use native.Mathlib.Decide.{ℕ_discrete, dec_lt}
use native.Mathlib.Omega.{arith}
use lib.Dec.{eqb}
use lib.ListN.{length}
use Rattle.bits.specs.declared.sets.Set.{Set}
use Rattle.bits.specs.First.{First}
use Rattle.bits.specs.Sets.{Has, empty_set, Empty, Members, Union, Difference}
use Rattle.bits.proofs.Members.{none}
use Rattle.theory.specs.Least.{Earlier}
use Rattle.theory.specs.Tests.{Decides}
use Rattle.theory.proofs.Tests.{decides_eqb, not_so}
use Rattle.theory.specs.Relations.{EndsAgree, fails_pair}
use Rattle.chart.specs.Bodies.{vertices_of, start_of}
use Rattle.std.specs.Prelude.{Result, Ok, Err}
use Rattle.report.specs.declared.Refusal.{Refusal}
use Rattle.report.specs.declared.Refusal.TheVariants.{PairNoVertex}
use Rattle.bisimulation.specs.Answers.{Related, StrayBit, Passes, FailsWith, PairAnswer, RowAnswer, CheckedAnswer, StrayAnswer}
use Rattle.bisimulation.proofs.RowLaws.{related_row, has_related}

-- 43: the test of the ends
pub decides_ends : (u v : ℕ) → Decides (beq (eqb u 0) (eqb v 0)) (EndsAgree u v)
decides_ends u v = go (eqb u 0) (eqb v 0) (decides_eqb u 0) (decides_eqb v 0)
  where
    go : (a b : Bool) → Decides a (u ≡ 0) → Decides b (v ≡ 0) → Decides (beq a b) (EndsAgree u v)
    go true true d e = ((λ h. ((λ q. e.0 refl), (λ q. d.0 refl))), (λ h. refl))
    go true false d e = ((λ h. absurd (false≢true h)), (λ h. absurd (not_so e refl (h.0 (d.0 refl)))))
    go false true d e = ((λ h. absurd (false≢true h)), (λ h. absurd (not_so d refl (h.1 (e.0 refl)))))
    go false false d e = ((λ h. ((λ q. absurd (not_so d refl q)), (λ q. absurd (not_so e refl q)))), (λ h. refl))

pub passed_refused : {s : Result Unit Refusal} {p : Refusal} → s ≡ Ok tt → ¬ (s ≡ Err p)
passed_refused e f = let z : ◌≡◌ {A = ℕ} 0 1 = cc in omega arith

-- 41: d has the bits of row u outside the first V columns, and v is its lowest
module _ (body relation : List ℕ) (u : ℕ) {v : ℕ} {s inside d : Set} (M : Members (Related relation u) s)
    (I : Members (λ (w : ℕ). w < vertices_of body) inside) (D : Difference s inside d) (F : First (Has d) 0 128 v) where
  is_stray : (w : ℕ) → Has d w → StrayBit body relation u w
  is_stray w h =
      let (g, n) = (D w).0 h in (
        by_cases (dec_lt w (vertices_of body)) (λ l. absurd (n ((I.exactly w h.below).1 l))) (λ l. omega arith),
        (has_related relation u M w).0 g,
      )

  stray_is : (w : ℕ) → StrayBit body relation u w → Has d w
  stray_is w (l, r) = (D w).1 ((has_related relation u M w).1 r, λ h. omega (arith, (I.exactly w h.below).0 h))

  -- a row, and the rows before it
  pub stray_first : ((a : ℕ) → a < u → (w : ℕ) → ¬ StrayBit body relation a w) → v < 128 → StrayAnswer body relation (Err (PairNoVertex u v))
  stray_first h l = record {
    passed = λ q. absurd (passed_refused q refl);
    refused = λ p q. (u, v, record { holds = is_stray v (F.holds l); earlier = earlier }, refl);
  }
    where
      earlier : (a b : ℕ) → Earlier a b u v → ¬ StrayBit body relation a b
      earlier a b g s = ⊎_elim (λ k. h a k b s) (λ (k, m). F.before b (omega arith) m (stray_is b (subst (λ (x : ℕ). StrayBit body relation x b) k s))) g

  pub stray_none : 128 ≤ v → (w : ℕ) → ¬ StrayBit body relation u w
  stray_none l w s = let h = stray_is w s in F.before w (omega arith) (omega (arith, h.below)) h

pub stray_passed : {body relation : List ℕ} → ((u v : ℕ) → ¬ StrayBit body relation u v) → StrayAnswer body relation (Ok tt)
stray_passed h = record { passed = λ q. h; refused = λ p q. absurd (passed_refused refl q) }

-- `all_inside`: what the first n rows are related to
pub record RowsJoined (relation : List ℕ) (n : ℕ) (s : Set) : Type 0 where
  pub exactly : (w : ℕ) → Has s w ↔ ((u : ℕ) × (u < n) × Related relation u w)

pub rows_none : (relation : List ℕ) {s : Set} → s ≡ empty_set → RowsJoined relation 0 s
rows_none relation e = record { exactly = λ w. ((λ h. absurd (none w (rw e at h))), (λ (u, l, r). absurd (omega arith))) }

pub rows_more : {relation : List ℕ} {u : ℕ} {s row t : Set} → RowsJoined relation u s → Members (Related relation u) row
    → Union s row t → RowsJoined relation (u + 1) t
rows_more {relation} {u} {s} {row} {t} J M U = record { exactly = λ w. ((λ h. there w ((U w).0 h)), back w) }
  where
    there : (w : ℕ) → Has s w ⊎ Has row w → (a : ℕ) × (a < u + 1) × Related relation a w
    there w (inl h) = let (a, l, r) = (J.exactly w).0 h in (a, omega arith, r)
    there w (inr h) = (u, omega arith, (has_related relation u M w).0 h)

    back : (w : ℕ) → (a : ℕ) × (a < u + 1) × Related relation a w → Has t w
    back w (a, l, r) =
        by_cases (ℕ_discrete a u)
        (λ e. (U w).1 (inr ((has_related relation u M w).1 (subst (λ (x : ℕ). Related relation x w) e r))))
        (λ e. (U w).1 (inl ((J.exactly w).1 (a, omega arith, r))))

-- d has the bits of all rows outside the first V columns
pub joined_inside : (body relation : List ℕ) {rows n : ℕ} {s inside d : Set} → length relation ≡ 16 * rows → rows ≤ n
    → RowsJoined relation n s → Members (λ (w : ℕ). w < vertices_of body) inside → Difference s inside d
    → Empty d ↔ ((u v : ℕ) → ¬ StrayBit body relation u v)
joined_inside body relation {rows} W l J I D = (
  (λ f u v (h, r).
      let b = related_row relation rows u v W r in
      f v ((D v).1 ((J.exactly v).1 (u, omega arith, r), λ g. omega (arith, (I.exactly v g.below).0 g)))),
  (λ f v h.
      let (g, n) = (D v).0 h in
      let (u, b, r) = (J.exactly v).0 g in
      f u v (by_cases (dec_lt v (vertices_of body)) (λ c. absurd (n ((I.exactly v h.below).1 c))) (λ c. omega arith), r)),
)

module _ {expression body relation : List ℕ} {u : ℕ} where
  -- a pair
  pub pair_passed : {v : ℕ} → (Related relation u v → Passes expression body relation u v) → PairAnswer expression body relation u v (Ok tt)
  pair_passed h = record { passed = λ q. h; refused = λ p q. absurd (passed_refused refl q) }

  pub pair_refused : {v : ℕ} {p : Refusal} → Related relation u v → FailsWith expression body relation u v (Err p) → PairAnswer expression body relation u v (Err p)
  pair_refused r f = record { passed = λ q. absurd (passed_refused q refl); refused = λ p q. (r, f) }

  -- a row stops at a pair that is refused
  pub row_stop : {v : ℕ} {s : Result Unit Refusal} {p : Refusal} → s ≡ Err p → PairAnswer expression body relation u v s → ((w : ℕ) → w < v → Related relation u w → Passes expression body relation u w) → RowAnswer expression body relation u s
  row_stop {v} {s} {p} e a h = let (r, f) = a.refused p e in record { passed = λ q. absurd (passed_refused q e); refused = λ z q. (v, record { related = r; before = h; fails = f }) }

  pub row_passed : ((v : ℕ) → Related relation u v → Passes expression body relation u v) → RowAnswer expression body relation u (Ok tt)
  row_passed h = record { passed = λ q. h; refused = λ p q. absurd (passed_refused refl q) }

  -- the search through the rows stops at a row that is refused
  pub rows_stop : {s : Result Unit Refusal} {p : Refusal} → s ≡ Err p → RowAnswer expression body relation u s → Related relation (start_of expression) (start_of body) → ((a : ℕ) → a < u → (w : ℕ) → Related relation a w → Passes expression body relation a w) → CheckedAnswer expression body relation s
  rows_stop {s} {p} e a z h = let (v, g) = a.refused p e in let (o, f, q) = g.fails in (o, fails_pair z g.related (earlier v g.before) f, q)
    where
      earlier : (v : ℕ) → ((w : ℕ) → w < v → Related relation u w → Passes expression body relation u w) → (x y : ℕ) → Earlier x y u v → Related relation x y → Passes expression body relation x y
      earlier v g x y (inl m) t = h x m y t
      earlier v g x y (inr (m, n)) t = subst (λ (i : ℕ). Passes expression body relation i y) (sym m) (g y n (subst (λ (i : ℕ). Related relation i y) m t))
