-- The answer of 40 to 45: there is only one, the tests give it, it passes exactly for a bisimulation, and each place is the first.
use mathlib.Core.Path.{◌≡◌, refl, ap, subst}
use mathlib.Core.Logic.{◌≢◌, ◌⊎◌, inl, inr, ◌↔◌}
use mathlib.Core.Bool.{Bool, true, false, cond}
use mathlib.Core.List.{List}
use Prim.Native.Nat.{ℕ, ◌*◌, ◌≤◌, ◌<◌}
use native.Mathlib.Omega.{arith}
use lib.Dec.{eqb, ltb}
use lib.ListN.{length}
use borrow.Author.Tests.{ltb-true, ltb-false}
use Rattle.theory.specs.Least.{Earlier, FirstPair}
use Rattle.theory.specs.Tests.{Decides, first_row, lowest}
use Rattle.theory.specs.Systems.{System, Bisimulation}
use Rattle.theory.specs.Relations.{indexed, RelationOutcome, PairFails, fails_43, fails_44, fails_45, RelationChecked, all_pass, fails_42, fails_pair}
use Rattle.theory.proofs.Search.{same_or_earlier}
use Rattle.theory.proofs.Tests.{not_so, decides_and, decides_eqb, decides_leb, first_pair}
use Rattle.theory.proofs.Relations.{one_relation_outcome, related_iff_bisimulation, relation_checked}
use Rattle.std.specs.Prelude.{Result, Ok, Err}
use Rattle.report.specs.declared.Refusal.{Refusal}
use Rattle.report.specs.declared.Refusal.TheVariants.{RelationLength, PairNoVertex}
use Rattle.chart.specs.Bodies.{vertices_of, start_of}
use Rattle.chart.specs.Systems.{system_of, indexed_of}
use Rattle.chart.proofs.Relations.{indexed_member}
use Rattle.bisimulation.specs.Relations.{related_test, stray_bit_test, relation_stage, relation_outcome_of, relation_of}
use Rattle.bisimulation.specs.Answers.{Related, StrayBit, RelationFits}
use Rattle.bisimulation.specs.RelationAnswers.{Comes, RelationAnswer, passed, other_length, no_vertex, starts_unrelated, other_end, expression_alone, chart_alone}
use Rattle.bisimulation.proofs.RowLaws.{related_column, related_row}

-- the answer of 40 to 45, with its place
pub data Answers (e b relation : List ℕ) : Result Unit Refusal → Type 0 where
  fails_40 : length relation ≢ 16 * vertices_of e → Answers e b relation (Err (RelationLength (length relation)))
  fails_41 : {u v : ℕ} → length relation ≡ 16 * vertices_of e → FirstPair (StrayBit b relation) u v → Answers e b relation (Err (PairNoVertex u v))
  fitting : {o : RelationOutcome} → RelationFits e b relation → RelationChecked (indexed_of e) (indexed_of b) (Related relation) o → Answers e b relation (relation_stage e b o)

-- THERE IS ONLY ONE ANSWER
pub one_first : {P : ℕ → ℕ → Type 0} {u v a c : ℕ} → FirstPair P u v → FirstPair P a c → (u ≡ a) × (v ≡ c)
one_first {P} {u} {v} {a} {c} f g = go (same_or_earlier u v a c)
  where
    go : ((u ≡ a) × (v ≡ c)) ⊎ (Earlier u v a c ⊎ Earlier a c u v) → (u ≡ a) × (v ≡ c)
    go (inl h) = h
    go (inr (inl h)) = absurd (g.earlier u v h f.holds)
    go (inr (inr h)) = absurd (f.earlier a c h g.holds)

module _ {e b relation : List ℕ} where
  stray_fits : {u v : ℕ} → FirstPair (StrayBit b relation) u v → ¬ RelationFits e b relation
  stray_fits {u} {v} f F = let (l, r) = f.holds in omega (arith, (F.inside u v r).1)

  pub one_answer : {s t : Result Unit Refusal} → Answers e b relation s → Answers e b relation t → s ≡ t
  one_answer (fails_40 h) (fails_40 g) = refl
  one_answer (fails_40 h) (fails_41 w f) = absurd (h w)
  one_answer (fails_40 h) (fitting F c) = absurd (h F.whole)
  one_answer (fails_41 w f) (fails_40 g) = absurd (g w)
  one_answer (fails_41 w f) (fails_41 z g) = let (p, q) = one_first f g in rw (p, q)
  one_answer (fails_41 w f) (fitting F c) = absurd (stray_fits f F)
  one_answer (fitting F c) (fails_40 g) = absurd (g F.whole)
  one_answer (fitting F c) (fails_41 z g) = absurd (stray_fits g F)
  one_answer (fitting F c) (fitting G d) = ap (relation_stage e b) (one_relation_outcome c d)

-- where no bit is stray, each stands for a pair of vertices
pub fits_of_lem : {e b relation : List ℕ} → length relation ≡ 16 * vertices_of e → ((u v : ℕ) → ¬ StrayBit b relation u v) → RelationFits e b relation
fits_of_lem {e} {b} {relation} w h = record { whole = w; inside = λ u v r. (related_row relation (vertices_of e) u v w r, low u v r) }
  where
    low : (u v : ℕ) → Related relation u v → v < vertices_of b
    low u v r = go (ltb v (vertices_of b)) refl
      where
        go : (x : Bool) → ltb v (vertices_of b) ≡ x → v < vertices_of b
        go true e = ltb-true v (vertices_of b) e
        go false e = absurd (h u v (ltb-false v (vertices_of b) e, r))

-- THE TESTS GIVE IT
decides_stray : (b relation : List ℕ) (u v : ℕ) → Decides (stray_bit_test b relation u v) (StrayBit b relation u v)
unfolding stray_bit_test
decides_stray b relation u v = decides_and (decides_leb (vertices_of b) v) ((λ r. r), (λ r. r))

-- 41 of so many rows
pub strays_found : (b relation : List ℕ) (rows : ℕ) → length relation ≡ 16 * rows
    → (first_row (stray_bit_test b relation) rows 128 < rows
    → FirstPair (StrayBit b relation) (first_row (stray_bit_test b relation) rows 128) (lowest (stray_bit_test b relation (first_row (stray_bit_test b relation) rows 128)) 0 128))
    × (rows ≤ first_row (stray_bit_test b relation) rows 128 → (a c : ℕ) → ¬ StrayBit b relation a c)
strays_found b relation rows w = first_pair (decides_stray b relation) rows 128 (λ a c s. (related_row relation rows a c w s.1, related_column relation a c s.1))

module _ (e b relation : List ℕ) where
  outcome_checked : RelationFits e b relation → RelationChecked (indexed_of e) (indexed_of b) (Related relation) (relation_outcome_of e b relation)
  unfolding relation_outcome_of
  outcome_checked F = relation_checked (indexed_of e) (indexed_of b) {t = related_test relation} {R = Related relation} (λ u v. ((λ r. r), (λ r. r))) (vertices_of e) (vertices_of b) F.inside

  pub relation_answers : Answers e b relation (relation_of e b relation)
  unfolding relation_of
  relation_answers = go (eqb (length relation) (16 * vertices_of e)) (ltb u (vertices_of e)) (decides_eqb (length relation) (16 * vertices_of e)) refl
    where
      u : ℕ
      u = first_row (stray_bit_test b relation) (vertices_of e) 128

      v : ℕ
      v = lowest (stray_bit_test b relation u) 0 128

      go : (x y : Bool) → Decides x (length relation ≡ 16 * vertices_of e) → ltb u (vertices_of e) ≡ y → Answers e b relation (cond x (cond y (Err (PairNoVertex u v)) (relation_stage e b (relation_outcome_of e b relation))) (Err (RelationLength (length relation))))
      go false y d h = fails_40 (not_so d refl)
      go true true d h = fails_41 (d.0 refl) ((strays_found b relation (vertices_of e) (d.0 refl)).0 (ltb-true u (vertices_of e) h))
      go true false d h =
          let F = fits_of_lem (d.0 refl) ((strays_found b relation (vertices_of e) (d.0 refl)).1 (ltb-false u (vertices_of e) h)) in
          fitting F (outcome_checked F)

pub relation_of_lem : {e b relation : List ℕ} {s : Result Unit Refusal} → Answers e b relation s → s ≡ relation_of e b relation
relation_of_lem {e} {b} {relation} a = one_answer a (relation_answers e b relation)

-- WHAT IT SAYS
-- a system over vertices, whose steps may be given in two ways
abbrev pub vertex_system : ℕ → (ℕ → ℕ → ℕ → Type 0) → System
vertex_system start S = record { State = ℕ; start = start; End = λ v. v ≡ 0; Step = S }

module _ {S S' T T' : ℕ → ℕ → ℕ → Type 0} (s : (u a w : ℕ) → S u a w ↔ S' u a w) (t : (u a w : ℕ) → T u a w ↔ T' u a w) where
  pub same_steps : (x y : ℕ) (R : ℕ → ℕ → Type 0) → Bisimulation (vertex_system x S) (vertex_system y T) R
      → Bisimulation (vertex_system x S') (vertex_system y T') R
  same_steps x y R B = record {
    starts = B.starts;
    ends = B.ends;
    forth = λ u v r a u' z. let (v', k, q) = B.forth u v r a u' ((s u a u').1 z) in (v', (t v a v').0 k, q);
    back = λ u v r a v' z. let (u', k, q) = B.back u v r a v' ((t v a v').1 z) in (u', (s u a u').0 k, q);
  }

back_again : {A B : Type 0} → A ↔ B → B ↔ A
back_again (f, g) = (g, f)

pub indexed_chart_lem : (e b : List ℕ) (R : ℕ → ℕ → Type 0)
    → Bisimulation (indexed (indexed_of e)) (indexed (indexed_of b)) R ↔ Bisimulation (system_of e) (system_of b) R
indexed_chart_lem e b R = (
  same_steps (indexed_member e) (indexed_member b) (start_of e) (start_of b) R,
  same_steps (λ u a w. back_again (indexed_member e u a w)) (λ u a w. back_again (indexed_member b u a w)) (start_of e) (start_of b) R,
)

module _ (e b relation : List ℕ) where
  pair_answer : {u v : ℕ} {o : RelationOutcome} → Comes e b relation u v → PairFails (indexed_of e) (indexed_of b) (Related relation) u v o
      → RelationAnswer e b relation (relation_stage e b o)
  pair_answer c (fails_43 h) = other_end c h
  pair_answer c (fails_44 h l) = expression_alone c h l
  pair_answer c (fails_45 h a l) = chart_alone c h a l

  outcome_answer : {o : RelationOutcome} → RelationFits e b relation → RelationChecked (indexed_of e) (indexed_of b) (Related relation) o
      → RelationAnswer e b relation (relation_stage e b o)
  outcome_answer F (all_pass s p) = passed F ((indexed_chart_lem e b (Related relation)).0 (related_iff_bisimulation.0 (all_pass s p)))
  outcome_answer F (fails_42 h) = starts_unrelated F h
  outcome_answer F (fails_pair s r g f) = pair_answer (record { fits = F; starts = s; related = r; earlier = g }) f

  relation_answer : {s : Result Unit Refusal} → Answers e b relation s → RelationAnswer e b relation s
  relation_answer (fails_40 h) = other_length h
  relation_answer (fails_41 w f) = no_vertex w f
  relation_answer (fitting F c) = outcome_answer F c

  pair_fails : {u v : ℕ} {o : RelationOutcome} → Comes e b relation u v → PairFails (indexed_of e) (indexed_of b) (Related relation) u v o
      → Answers e b relation (relation_stage e b o)
  pair_fails c f = fitting c.fits (fails_pair c.starts c.related c.earlier f)

  answer_relation : {s : Result Unit Refusal} → RelationAnswer e b relation s → Answers e b relation s
  answer_relation (passed F B) = fitting F (related_iff_bisimulation.1 ((indexed_chart_lem e b (Related relation)).1 B))
  answer_relation (other_length h) = fails_40 h
  answer_relation (no_vertex w f) = fails_41 w f
  answer_relation (starts_unrelated F h) = fitting F (fails_42 h)
  answer_relation (other_end c h) = pair_fails c (fails_43 h)
  answer_relation (expression_alone c h l) = pair_fails c (fails_44 h l)
  answer_relation (chart_alone c h a l) = pair_fails c (fails_45 h a l)

  -- EACH ANSWER, with its place, stands exactly where what it says holds
  pub relation_says : (s : Result Unit Refusal) → (relation_of e b relation ≡ s) ↔ RelationAnswer e b relation s
  relation_says s = (
    (λ q. subst (RelationAnswer e b relation) q (relation_answer (relation_answers e b relation))),
    (λ h. one_answer (relation_answers e b relation) (answer_relation h)),
  )

  -- NOTHING FAILS EXACTLY FOR A BISIMULATION OF THE TWO CHARTS
  pub relation_iff_bisimulation : (relation_of e b relation ≡ Ok tt)
      ↔ ((length relation ≡ 16 * vertices_of e) × ((u v : ℕ) → Related relation u v → (u < vertices_of e) × (v < vertices_of b))
      × Bisimulation (system_of e) (system_of b) (Related relation))
  relation_iff_bisimulation = (
    (λ q. parts ((relation_says (Ok tt)).0 q)),
    (λ (w, i, B). (relation_says (Ok tt)).1 (passed (record { whole = w; inside = i }) B)),
  )
    where
      parts : RelationAnswer e b relation (Ok tt)
          → (length relation ≡ 16 * vertices_of e) × ((u v : ℕ) → Related relation u v → (u < vertices_of e) × (v < vertices_of b))
          × Bisimulation (system_of e) (system_of b) (Related relation)
      parts (passed F B) = (F.whole, F.inside, B)
