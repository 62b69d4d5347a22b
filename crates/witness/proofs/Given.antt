-- What the passes work out is what the checks go by.
use mathlib.Core.Path.{◌≡◌, subst}
use mathlib.Core.Logic.{◌⊎◌, inl, inr, by_cases, ◌↔◌}
use mathlib.Core.List.{List}
use Prim.Native.Nat.{ℕ, ◌+◌, ◌*◌, ◌/◌, ◌%◌, ◌<◌}
use native.Mathlib.Nat.{le_refl}
use native.Mathlib.Decide.{ℕ_discrete}
use native.Mathlib.Omega.{arith}
use Rattle.bits.specs.Bits.{Bytes, HighestByte}
use Rattle.bits.specs.First.{First}
use Rattle.bits.specs.declared.sets.Set.{Set}
use Rattle.bits.specs.Sets.{Members}
use Rattle.theory.specs.Charts.{Loop}
use Rattle.chart.specs.Bodies.{WellFormed}
use Rattle.chart.specs.Steps.{StepsOf}
use Rattle.bits.specs.Tables.{row_of, Table, TableOf, Gains}
use Rattle.witness.specs.Given.{Enters, EntersHigh, NoneAbove, InLater, IsLevel, EntryLevels, EntryTargets}
use Rattle.witness.proofs.Labellings.{loop_below}
use Rattle.witness.proofs.Firsts.{first_as}
use Rattle.bits.proofs.Gains.{row_beyond, table_of_as, table_of_gains}
use Rattle.bits.proofs.Members.{none}

-- with what the later levels have, a level has the vertices with an entry of it or of a higher one
pub levels_of : {b labels entered high : List ℕ} → WellFormed b → Bytes labels → TableOf (Enters (StepsOf b labels)) entered
    → Gains (InLater entered) entered high → TableOf (EntersHigh (StepsOf b labels)) high
levels_of {b} {labels} {entered = entered} W B E I =
    table_of_as (λ l u g. (to l u g, from l u g))
    (table_of_gains E I (λ x y l (m, h, i, k). none y (rw (row_beyond entered m (omega arith)) at k)))
  where
    to : (l u : ℕ) → u < 128 → Enters (StepsOf b labels) l u ⊎ InLater entered l u → EntersHigh (StepsOf b labels) l u
    to l u g (inl o) = (l, o, le_refl l)
    to l u g (inr (m, h, i, k)) = (m, (E.exactly m u g).0 k, omega arith)

    from : (l u : ℕ) → u < 128 → EntersHigh (StepsOf b labels) l u → Enters (StepsOf b labels) l u ⊎ InLater entered l u
    from l u g (m, o, h) =
        let i = (loop_below b labels W B o).1 in
        by_cases (ℕ_discrete m l) (λ e. inl (subst (Loop (StepsOf b labels) u) e o)) (λ e. inr (m, omega arith, i, (E.exactly m u g).1 o))

-- of the tables of a vertex: the next level is that of a loop, and its set is what the entries lead to
module _ {b labels : List ℕ} {v : ℕ} where
  pub loop_next : {levels : List ℕ} {from r : ℕ} → Table 2 (EntryLevels (StepsOf b labels) v) levels → First (IsLevel levels) from 256 r
      → First (Loop (StepsOf b labels) v) from 256 r
  loop_next {levels} T = first_as (λ l h.
      let e : 128 * (l / 128) + l % 128 ≡ l = omega arith in
      subst (λ (k : ℕ). IsLevel levels l ↔ Loop (StepsOf b labels) v k) e (T.exactly (l / 128) (l % 128) (omega arith) (omega arith)))

  pub loop_targets : {targets : List ℕ} {level : ℕ} {set : Set} → Table 256 (EntryTargets (StepsOf b labels) v) targets → 0 < level
      → level < 256 → set ≡ row_of targets level → Members (StepsOf b labels v level) set
  loop_targets T a h e = rw e (record { exactly = λ w l. (λ g. ((T.exactly _ w h l).0 g).1, λ s. (T.exactly _ w h l).1 (a, s)) })

-- no vertex has an entry of a level above the highest label
pub none_higher : {b labels entered : List ℕ} {top : ℕ} → TableOf (Enters (StepsOf b labels)) entered
    → HighestByte labels top → NoneAbove entered top
none_higher T h x y a l g = let (p, w, s) = (T.exactly x y g.below).0 g in omega (arith, a, h.above s.at, s.holds.is)
