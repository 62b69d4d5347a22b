-- Standing bytes as the theory has what stands: at first, after a removal, and that there is only one way to write
-- them.
use Prim.Native.Nat.{ℕ, ◌<◌}
use mathlib.Core.Path.{◌≡◌, refl, sym, ◌∙◌}
use mathlib.Core.Logic.{inl, inr, ⊎_elim, ◌↔◌, by_cases}
use mathlib.Core.List.{List}
use native.Mathlib.Decide.{ℕ_discrete}
use native.Mathlib.Omega.{arith}
use lib.ListN.{length, get_or}
use lib.Seq.{ext_get_or}
use Rattle.theory.specs.Charts.{SameSteps, Loop}
use Rattle.theory.specs.Standing.{Loops, SameLoops, Agree}
use Rattle.theory.specs.Removals.{Only}
use Rattle.chart.specs.Bodies.{count_of, from_of}
use Rattle.chart.specs.Steps.{StepsOf, StandingOf}
use Rattle.chart.specs.Standing.{StandsAt, StandsFor, TakenOutOf}
use Rattle.chart.proofs.Relations.{standing_step}

-- is this pair (v, l)?
pub only? : (v l u m : ℕ) → Dec (Only v l u m)
only? v l u m =
    by_cases (ℕ_discrete u v)
    (λ p. by_cases (ℕ_discrete m l) (λ q. yes (p, q)) (λ q. no (λ e. q e.1)))
    (λ p. no (λ e. p e.0))

module _ {body labels : List ℕ} where
  -- WHAT STANDS by these bytes is what stands while these loops remain
  pub stands_agree : {standing : List ℕ} {X : Loops} → StandsFor body labels standing X
      → Agree (StepsOf body labels) X (StandingOf body labels standing)
  stands_agree {standing} {X} h u l w = (
    (λ s. (standing_step s, rw (s.leaves, s.holds.label) at ((h.stands s.at s.within).0 s.holds.stands))),
    (λ (s, c). record {
      at = s.at;
      within = s.within;
      leaves = s.leaves;
      enters = s.enters;
      holds = record { label = s.holds.is; stands = (h.stands s.at s.within).1 (rw (s.leaves, s.holds.is) c) };
    }),
  )

  -- AT FIRST every byte is 1, for all loops
  pub all_stand : {standing : List ℕ} → length standing ≡ count_of body → ((i : ℕ) → i < count_of body → get_or standing i 0 ≡ 1)
      → StandsFor body labels standing (Loop (StepsOf body labels))
  all_stand {standing} long h = record {
    long = long;
    marks = λ i g. omega (arith, h i g);
    stands = λ i g. ((λ e. there i g), (λ e. h i g));
  }
    where
      there : (i : ℕ) → i < count_of body → StandsAt body labels (Loop (StepsOf body labels)) i
      there i g =
          by_cases (ℕ_discrete (get_or labels i 0) 0) inl
          (λ z. inr (omega arith, _, record { at = i; within = g; leaves = refl; enters = refl; holds = record { is = refl } }))

  -- for a set and for every other with the same members
  pub stands_same : {standing : List ℕ} {X Y : Loops} → SameLoops Y X → StandsFor body labels standing X
      → StandsFor body labels standing Y
  stands_same same h = record {
    long = h.long;
    marks = h.marks;
    stands = λ i g. (
      (λ e. ⊎_elim inl (λ x. inr ((same _ _).1 x)) ((h.stands i g).0 e)),
      (λ c. (h.stands i g).1 (⊎_elim inl (λ y. inr ((same _ _).0 y)) c)),
    );
  }

  -- A REMOVAL of the loops of Y, of which it is decided which are in it
  module _ {Y : Loops} (is? : (u m : ℕ) → Dec (Y u m)) {before after : List ℕ} (t : TakenOutOf body labels Y before after) where
    -- leaves the relation that the theory's does
    pub taken_leaves : SameSteps (StandingOf body labels after) (λ u m w. StandingOf body labels before u m w × ¬ Y u m)
    taken_leaves u m w = (
      (λ s. by_cases (is? (from_of body s.at) (get_or labels s.at 0))
          (λ y. let z = t.gone s.at s.within y in absurd (omega (arith, s.holds.stands)))
          (λ d. (
            record {
              at = s.at;
              within = s.within;
              leaves = s.leaves;
              enters = s.enters;
              holds = record { label = s.holds.label; stands = sym (t.kept s.at s.within d) ∙ s.holds.stands };
            },
            rw (s.leaves, s.holds.label) at d,
          ))),
      (λ (s, d). record {
        at = s.at;
        within = s.within;
        leaves = s.leaves;
        enters = s.enters;
        holds = record {
          label = s.holds.label;
          stands = t.kept s.at s.within (rw (s.leaves, s.holds.label) d) ∙ s.holds.stands;
        };
      }),
    )

    -- and stands for the loops that are left, no level of Y being that of branches
    pub taken_stands : {X : Loops} → ((u m : ℕ) → Y u m → 0 < m) → StandsFor body labels before X
        → StandsFor body labels after (λ u m. X u m × ¬ Y u m)
    taken_stands {X} level h = record {
      long = t.long ∙ h.long;
      marks = λ i g. by_cases (is? (from_of body i) (get_or labels i 0))
          (λ y. omega (arith, t.gone i g y))
          (λ d. omega (arith, t.kept i g d, h.marks i g));
      stands = λ i g. by_cases (is? _ _) (out i g) (stay i g);
    }
      where
        out : (i : ℕ) → i < count_of body → Y (from_of body i) (get_or labels i 0)
            → (get_or after i 0 ≡ 1) ↔ StandsAt body labels (λ u m. X u m × ¬ Y u m) i
        out i g y = (
          (λ s. absurd (omega (arith, t.gone i g y))),
          (λ c. absurd (⊎_elim (λ z. omega (arith, level _ _ y)) (λ x. x.1 y) c)),
        )

        stay : (i : ℕ) → i < count_of body → ¬ Y (from_of body i) (get_or labels i 0)
            → (get_or after i 0 ≡ 1) ↔ StandsAt body labels (λ u m. X u m × ¬ Y u m) i
        stay i g d = (
          (λ s. ⊎_elim inl (λ x. inr (x, d)) ((h.stands i g).0 (sym (t.kept i g d) ∙ s))),
          (λ c. t.kept i g d ∙ (h.stands i g).1 (⊎_elim inl (λ x. inr x.0) c)),
        )

  -- THERE IS ONE WAY: the bytes are determined by the set, and those after a removal by those before it
  pub one_standing : {a b : List ℕ} {X : Loops} → StandsFor body labels a X → StandsFor body labels b X → a ≡ b
  one_standing {a} {b} g h = ext_get_or 0 a b (g.long ∙ sym h.long) (λ i k. same i (omega (arith, g.long)))
    where
      same : (i : ℕ) → i < count_of body → get_or a i 0 ≡ get_or b i 0
      same i w =
          by_cases (ℕ_discrete (get_or a i 0) 1)
          (λ e. e ∙ sym ((h.stands i w).1 ((g.stands i w).0 e)))
          (λ n. by_cases (ℕ_discrete (get_or b i 0) 1)
          (λ e. absurd (n ((g.stands i w).1 ((h.stands i w).0 e))))
          (λ m. omega (arith, g.marks i w, h.marks i w)))

  pub one_taken : {Y : Loops} {before a b : List ℕ} → ((u m : ℕ) → Dec (Y u m)) → length before ≡ count_of body
      → TakenOutOf body labels Y before a → TakenOutOf body labels Y before b → a ≡ b
  one_taken {Y} {before} {a} {b} is? long g h = ext_get_or 0 a b (g.long ∙ sym h.long) (λ i k.
      let w : i < count_of body = omega (arith, g.long) in
      by_cases (is? _ _)
      (λ y. g.gone i w y ∙ sym (h.gone i w y))
      (λ d. g.kept i w d ∙ sym (h.kept i w d)))
