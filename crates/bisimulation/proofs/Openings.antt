-- 40 to 42: the code's answer is that of the test, and 43 to 45 come after it; what is known where a chart has the steps.
use mathlib.Core.Path.{◌≡◌, refl, sym, ◌∙◌, ap}
use mathlib.Core.Bool.{Bool, true, false, cond}
use mathlib.Core.List.{List}
use Prim.Native.Nat.{ℕ, ◌*◌, ◌≤◌}
use native.Mathlib.Omega.{arith}
use lib.Dec.{eqb, ltb}
use lib.ListN.{length}
use borrow.Author.Tests.{ltb-true, ltb-false, eqb-true, eq-eqb, ne_eqb}
use Rattle.theory.specs.Least.{FirstPair}
use Rattle.theory.specs.Tests.{first_row, lowest}
use Rattle.theory.specs.Relations.{all_pass}
use Rattle.theory.specs.RelationTests.{relation_outcome}
use Rattle.std.specs.Prelude.{Result, Ok, Err}
use Rattle.report.specs.declared.Refusal.{Refusal}
use Rattle.report.specs.declared.Refusal.TheVariants.{RelationLength, PairNoVertex, PairStarts}
use Rattle.bits.specs.declared.sets.Set.{Set}
use Rattle.bits.specs.Sets.{Empty}
use Rattle.chart.proofs.Checks.{well_formed}
use Rattle.chart.specs.Bodies.{vertices_of, start_of, WellFormed}
use Rattle.chart.specs.Leaving.{when_passed}
use Rattle.bisimulation.specs.Relations.{related_test, stray_bit_test, relation_stage, relation_outcome_of, relation_of, opening_of}
use Rattle.bisimulation.specs.Answers.{Related, StrayBit, StrayAnswer, RelationFits, PassOutside, ListedChart}
use Rattle.bisimulation.specs.Answers.{SomeListed, SomeNumbered, PairsAnswer}
use Rattle.bisimulation.specs.Classes.{Stepped}
use Rattle.bisimulation.proofs.PairChecks.{passed_refused}
use Rattle.bisimulation.proofs.Relations.{one_first, fits_of_lem, strays_found, fitting, relation_of_lem}
use Rattle.bisimulation.proofs.StepLaws.{numbered_listed, at_step}

-- 40 to 42 pass
abbrev opened_all : Result Unit Refusal
opened_all = Ok tt

-- THE CODE
module _ (vertices start : ℕ) (b relation : List ℕ) where
  pub opening_40 : ¬ (length relation ≡ 16 * vertices) → Err (RelationLength (length relation)) ≡ opening_of vertices start b relation
  unfolding opening_of
  opening_40 n = rw (ne_eqb (length relation) (16 * vertices) n) refl

  module _ (w : length relation ≡ 16 * vertices) where
    abbrev row : ℕ
    row = first_row (stray_bit_test b relation) vertices 128

    abbrev column : ℕ
    column = lowest (stray_bit_test b relation row) 0 128

    refused_41 : {s : Result Unit Refusal} {p : Refusal} → StrayAnswer b relation s → s ≡ Err p → s ≡ opening_of vertices start b relation
    unfolding opening_of
    refused_41 {p = p} A r =
        let (u, v, F, k) = A.refused p r in
        k ∙ rw (eq-eqb (length relation) (16 * vertices) w) (go u v F (ltb row vertices) refl)
      where
        go : (u v : ℕ) → FirstPair (StrayBit b relation) u v → (x : Bool) → ltb row vertices ≡ x → Err (PairNoVertex u v) ≡ cond x (Err (PairNoVertex row column)) (cond (related_test relation start (start_of b)) opened_all (Err (PairStarts start (start_of b))))
        go u v F true e = let (f, g) = one_first F ((strays_found b relation vertices w).0 (ltb-true row vertices e)) in rw (f, g) refl
        go u v F false e = absurd ((strays_found b relation vertices w).1 (ltb-false row vertices e) u v F.holds)

    -- where a bit is stray
    pub opening_41 : {s : Result Unit Refusal} → StrayAnswer b relation s → ¬ ((u v : ℕ) → ¬ StrayBit b relation u v)
        → s ≡ opening_of vertices start b relation
    opening_41 {s} A n = go s refl
      where
        go : (t : Result Unit Refusal) → s ≡ t → s ≡ opening_of vertices start b relation
        go (Ok tt) e = absurd (n (A.passed e))
        go (Err p) e = refused_41 A e

    -- where none is; q is the start that the code reads
    module _ (n : (u v : ℕ) → ¬ StrayBit b relation u v) {q : ℕ} (f : q ≡ start_of b) where
      rest : cond (related_test relation start q) opened_all (Err (PairStarts start q)) ≡ opening_of vertices start b relation
      unfolding opening_of
      rest = rw (eq-eqb (length relation) (16 * vertices) w, f) (go (ltb row vertices) refl)
        where
          go : (x : Bool) → ltb row vertices ≡ x → cond (related_test relation start (start_of b)) opened_all (Err (PairStarts start (start_of b))) ≡ cond x (Err (PairNoVertex row column)) (cond (related_test relation start (start_of b)) opened_all (Err (PairStarts start (start_of b))))
          go true e = absurd (n row column ((strays_found b relation vertices w).0 (ltb-true row vertices e)).holds)
          go false e = refl

      pub opening_42 : ¬ Related relation start q → Err (PairStarts start q) ≡ opening_of vertices start b relation
      opening_42 d = go (related_test relation start q) refl
        where
          go : (x : Bool) → related_test relation start q ≡ x → Err (PairStarts start q) ≡ opening_of vertices start b relation
          go true e = absurd (d e)
          go false e = rw e at rest

      pub opening_passed : Related relation start q → (Ok tt) ≡ opening_of vertices start b relation
      opening_passed e = rw e at rest

-- 40 TO 45 ARE 40 TO 42, AND THEN 43 TO 45
module _ (e b relation : List ℕ) where
  pub relation_opening : relation_of e b relation ≡ when_passed (opening_of (vertices_of e) (start_of e) b relation) (relation_stage e b (relation_outcome_of e b relation)) (opening_of (vertices_of e) (start_of e) b relation)
  unfolding relation_of opening_of relation_outcome_of relation_outcome
  relation_opening = go (eqb (length relation) (16 * vertices_of e)) (ltb row (vertices_of e)) (related_test relation (start_of e) (start_of b)) refl
    where
      row : ℕ
      row = first_row (stray_bit_test b relation) (vertices_of e) 128

      place : Result Unit Refusal
      place = Err (PairNoVertex row (lowest (stray_bit_test b relation row) 0 128))

      apart : related_test relation (start_of e) (start_of b) ≡ false → relation_stage e b (relation_outcome_of e b relation) ≡ Err (PairStarts (start_of e) (start_of b))
      apart h = rw h refl

      opened : (x y z : Bool) → Result Unit Refusal
      opened x y z = cond x (cond y place (cond z opened_all (Err (PairStarts (start_of e) (start_of b))))) (Err (RelationLength (length relation)))

      go : (x y z : Bool) → related_test relation (start_of e) (start_of b) ≡ z → cond x (cond y place (relation_stage e b (relation_outcome_of e b relation))) (Err (RelationLength (length relation))) ≡ when_passed (opened x y z) (relation_stage e b (relation_outcome_of e b relation)) (opened x y z)
      go false y z h = refl
      go true true z h = refl
      go true false true h = refl
      go true false false h = apart h

  -- where they pass, every bit is one of a vertex, and the starts are related
  opening_fits : opening_of (vertices_of e) (start_of e) b relation ≡ Ok tt → RelationFits e b relation × Related relation (start_of e) (start_of b)
  unfolding opening_of
  opening_fits = go (eqb (length relation) (16 * vertices_of e)) (ltb row (vertices_of e)) (related_test relation (start_of e) (start_of b)) refl refl refl
    where
      row : ℕ
      row = first_row (stray_bit_test b relation) (vertices_of e) 128

      go : (x y z : Bool) → eqb (length relation) (16 * vertices_of e) ≡ x → ltb row (vertices_of e) ≡ y → related_test relation (start_of e) (start_of b) ≡ z → cond x (cond y (Err (PairNoVertex row (lowest (stray_bit_test b relation row) 0 128))) (cond z opened_all (Err (PairStarts (start_of e) (start_of b))))) (Err (RelationLength (length relation))) ≡ opened_all → RelationFits e b relation × Related relation (start_of e) (start_of b)
      go false y z h i j q = absurd (passed_refused q refl)
      go true true z h i j q = absurd (passed_refused q refl)
      go true false true h i j q = let w = eqb-true (length relation) (16 * vertices_of e) h in (fits_of_lem w ((strays_found b relation (vertices_of e) w).1 (ltb-false row (vertices_of e) i)), j)
      go true false false h i j q = absurd (passed_refused q refl)

  -- s is what `opening` answers
  module _ (vertices start : ℕ) {s : Result Unit Refusal} (v : vertices_of e ≡ vertices) (f : start_of e ≡ start) (o : s ≡ opening_of vertices start b relation) where
    is_opening : opening_of (vertices_of e) (start_of e) b relation ≡ s
    is_opening = rw (v, f) (sym o)

    -- a refusal of 40 to 42 is that of 40 to 45
    pub opening_refused : {p : Refusal} → s ≡ Err p → s ≡ relation_of e b relation
    opening_refused q = q ∙ sym (relation_opening ∙ ap (λ (t : Result Unit Refusal). when_passed t (relation_stage e b (relation_outcome_of e b relation)) t) (is_opening ∙ q))

    -- where they pass, 43 to 45 are left
    pub opening_passes : s ≡ Ok tt → RelationFits e b relation × Related relation (start_of e) (start_of b)
    opening_passes q = opening_fits (is_opening ∙ q)

-- WHERE A CHART HAS THE STEPS
-- by their numbers, 43 to 45 have one answer
pub pairs_one : {keys words : List ℕ} {m vertices : ℕ} {body relation : List ℕ} {suspects : Set} {s t : Result Unit Refusal}
    → SomeNumbered keys words m vertices body relation suspects → PairsAnswer keys words m vertices body relation suspects s
    → PairsAnswer keys words m vertices body relation suspects t → s ≡ t
pairs_one (e, N, P) S T = S e N P ∙ sym (T e N P)

-- they pass where nothing is doubtful
pub none_doubtful : {keys words : List ℕ} {m vertices : ℕ} {body relation e : List ℕ} {r : Set}
    → ListedChart keys words m vertices body relation e → PassOutside e body relation r → Empty r
    → (Ok tt) ≡ relation_of e body relation
none_doubtful N P f = relation_of_lem (fitting N.fits (all_pass N.starts (λ u v h. P u v h (f v))))

-- what has their numbers has the steps
pub some_listed : {keys words : List ℕ} {m vertices : ℕ} {body relation : List ℕ} {suspects : Set}
    → SomeNumbered keys words m vertices body relation suspects → SomeListed keys words m vertices body relation
some_listed (e, N, P) = (e, numbered_listed N)

-- the relation has a row for each vertex
pub rows_fit : {keys words : List ℕ} {m vertices : ℕ} {body relation : List ℕ} → SomeListed keys words m vertices body relation
    → (length relation ≡ 16 * vertices) × (vertices ≤ 128)
rows_fit (e, N) = let h = (well_formed e N.passes).header.vertices_high in (omega (arith, N.fits.whole, N.size), omega (arith, h, N.size))

-- the steps lead to rows, and row 0 has none
pub stepped : {keys words : List ℕ} {m vertices : ℕ} {body relation : List ℕ} → SomeListed keys words m vertices body relation
    → Stepped keys words m vertices relation
stepped {keys} {words} {m} {vertices} (e, N) = record {
  steps_few = N.lists.listed.few;
  keys_long = N.lists.listed.keys_long;
  words_long = N.lists.listed.words_long;
  fit = N.lists.listed.fit;
  known = N.lists.listed.known;
  targets = λ k l.
      let (u, on) = N.lists.listed.used k l in
      let (i, h, f, a, t) = at_step N.lists u k on in
      omega (arith, (W.each i h).to_high, N.size);
  end = λ k on.
      let (i, h, f, a, t) = at_step N.lists 0 k on in
      omega (arith, (W.each i h).from_low);
  whole = (rows_fit (e, N)).0;
  few = (rows_fit (e, N)).1;
  some = omega (arith, W.header.vertices_low, N.size);
}
  where
    W : WellFormed e
    W = well_formed e N.passes
