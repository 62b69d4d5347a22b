-- From bytes to the theory's relations.
use mathlib.Core.Path.{◌≡◌, refl, sym, ap, ◌∙◌}
use mathlib.Core.Logic.{◌↔◌, inl, inr, ⊎_elim, by_cases}
use mathlib.Core.Bool.{true}
use mathlib.Core.List.Memᴰ
use mathlib.Core.List.{List, Memᴰ}
use Prim.Native.Nat.{ℕ, zero, suc, ◌+◌, ◌*◌, ◌≤◌, ◌<◌}
use native.Mathlib.Nat.{eq-or-lt_of_le, le_refl}
use native.Mathlib.Decide.{ℕ_discrete, dec_lt}
use native.Mathlib.Omega.{arith}
use lib.ListN.{length, get_or}
use borrow.Author.Tests.{eq-eqb, lt-ltb, le-ltb}
use Rattle.theory.specs.Ascending.{Ascending}
use Rattle.theory.specs.Charts.{SameSteps, Formed, Listed, Any}
use Rattle.theory.specs.LabelledCharts.{labelled_steps}
use Rattle.theory.specs.Relations.{indexed}
use Rattle.theory.specs.Transitions.{Transition, precedes}
use Rattle.theory.proofs.Search.{look_below}
use Rattle.bits.specs.Bits.{Bytes}
use Rattle.chart.specs.Bodies.{vertices_of, count_of, from_of, action_of, to_of, key_at, WellFormed}
use Rattle.chart.specs.Steps.{transition_at, transitions_from, transitions_of, ActsOf, StepsOf, StandingOf, Kept}
use Rattle.chart.specs.Systems.{indexed_of, drawn_of}

-- the list of transitions
from_length : (b : List ℕ) (i n : ℕ) → length (transitions_from b i n) ≡ n
unfolding transitions_from
from_length b i zero = refl
from_length b i (suc n) = ap suc (from_length b (suc i) n)

pub transitions_length : (b : List ℕ) → length (transitions_of b) ≡ count_of b
unfolding transitions_of
transitions_length b = from_length b 0 (count_of b)

from_at : (b : List ℕ) (i n k : ℕ) (z : Transition) → k < n → get_or (transitions_from b i n) k z ≡ transition_at b (i + k)
unfolding transitions_from
from_at b i zero k z h = absurd (omega arith)
from_at b i (suc n) zero z h = ap (transition_at b) (omega arith)
from_at b i (suc n) (suc k) z h = from_at b (suc i) n k z (omega arith) ∙ ap (transition_at b) (omega arith)

pub transitions_at : (b : List ℕ) (i : ℕ) (z : Transition) → i < count_of b → get_or (transitions_of b) i z ≡ transition_at b i
unfolding transitions_of
transitions_at b i z h = from_at b 0 (count_of b) i z h ∙ ap (transition_at b) (omega arith)

-- an index among the n from i on at which t stands
abbrev Stands : List ℕ → ℕ → ℕ → Transition → Type 0
Stands b i n t = (k : ℕ) × (i ≤ k) × (k < i + n) × (t ≡ transition_at b k)

member_from : (b : List ℕ) (i n : ℕ) (t : Transition) → Memᴰ t (transitions_from b i n) → Stands b i n t
unfolding transitions_from
member_from b i zero t h = absurd (Memᴰ.not-nil h)
member_from b i (suc n) t h =
    ⊎_elim
    (λ e. (i, le_refl i, omega arith, e))
    (λ m. let (k, l, g, e) = member_from b (suc i) n t m in (k, omega arith, omega arith, e))
    (Memᴰ.cases_cons h)

from_member : (b : List ℕ) (i n k : ℕ) → i ≤ k → k < i + n → Memᴰ (transition_at b k) (transitions_from b i n)
unfolding transitions_from
from_member b i zero k l h = absurd (omega arith)
from_member b i (suc n) k l h =
    ⊎_elim
    (λ e. Memᴰ.head (ap (transition_at b) (sym e)))
    (λ m. Memᴰ.tail (from_member b (suc i) n k m (omega arith)))
    (eq-or-lt_of_le l)

pub member_index : (b : List ℕ) (t : Transition) → Memᴰ t (transitions_of b) → (i : ℕ) × (i < count_of b) × (t ≡ transition_at b i)
unfolding transitions_of
member_index b t h = let (k, l, g, e) = member_from b 0 (count_of b) t h in (k, omega arith, e)

pub index_member : (b : List ℕ) (i : ℕ) → i < count_of b → Memᴰ (transition_at b i) (transitions_of b)
unfolding transitions_of
index_member b i h = from_member b 0 (count_of b) i (omega arith) (omega arith)

-- the steps of the body's chart are its transitions
pub acts_member : (b : List ℕ) (u a w : ℕ) → ActsOf b u a w ↔ Memᴰ (u, a, w) (transitions_of b)
acts_member b u a w = (
  λ s. Memᴰ.cast (sym (triple s.leaves s.holds.is s.enters)) (index_member b s.at s.within),
  λ m. let (i, h, e) = member_index b (u, a, w) m in record { at = i; within = h; leaves = sym (ap (λ (t : Transition). t.0) e); holds = record { is = sym (ap (λ (t : Transition). t.1) e) }; enters = sym (ap (λ (t : Transition). t.2) e) },
)
  where
    triple : {x y z : ℕ} → x ≡ u → y ≡ a → z ≡ w → ◌≡◌ {A = Transition} (x, y, z) (u, a, w)
    triple p q r = cc

-- and by their index
pub indexed_member : (b : List ℕ) (u a w : ℕ) → (indexed (indexed_of b)).Step u a w ↔ Memᴰ (u, a, w) (transitions_of b)
indexed_member b u a w = (
  (λ (i, h, f, g, k). (acts_member b u a w).0 (record { at = i; within = h; leaves = f; enters = k; holds = record { is = g } })),
  (λ m. let z = (acts_member b u a w).1 m in (z.at, z.within, z.leaves, z.holds.is, z.enters)),
)

-- of bytes, a lower key comes first by from, then action, then to
key_precedes : (b : List ℕ) → Bytes b → (i j : ℕ) → key_at b i < key_at b j → precedes (transition_at b i) (transition_at b j) ≡ true
unfolding precedes
key_precedes b B i j h =
    by_cases (dec_lt (from_of b i) (from_of b j))
    (λ l. rw (lt-ltb _ _ l))
    (λ l.
    let f : from_of b i ≡ from_of b j = omega (arith, B (4 * j + 4 + 1), B (4 * j + 4 + 2)) in
    rw (le-ltb (from_of b i) (from_of b j) (omega arith), eq-eqb (from_of b i) (from_of b j) f)
    (by_cases (dec_lt (action_of b i) (action_of b j))
    (λ m. rw (lt-ltb _ _ m))
    (λ m.
    let a : action_of b i ≡ action_of b j = omega (arith, B (4 * j + 4 + 2)) in
    rw (le-ltb (action_of b i) (action_of b j) (omega arith), eq-eqb (action_of b i) (action_of b j) a)
    (lt-ltb (to_of b i) (to_of b j) (omega arith)))))

ascend_from : (b : List ℕ) (i n : ℕ) → ((j : ℕ) → i ≤ j → suc j < i + n → precedes (transition_at b j) (transition_at b (suc j)) ≡ true) → Ascending precedes (transitions_from b i n)
unfolding transitions_from
ascend_from b i zero h = tt
ascend_from b i (suc zero) h = (tt, tt)
ascend_from b i (suc (suc n)) h = (h i (le_refl i) (omega arith), ascend_from b (suc i) (suc n) (λ j l m. h j (omega arith) (omega arith)))

pub transitions_ascend : (b : List ℕ) → Bytes b → WellFormed b → Ascending precedes (transitions_of b)
unfolding transitions_of
transitions_ascend b B W = ascend_from b 0 (count_of b) (λ j l h. key_precedes b B j (suc j) (W.ascending j (suc j) (omega arith) (omega arith)))

-- a well_formed body's steps are a chart's
pub steps_formed : (b labels : List ℕ) → WellFormed b → Formed (vertices_of b) (StepsOf b labels)
steps_formed b labels W = record {
  from_vertex = λ u l w s. let F = W.each s.at s.within in (omega (arith, s.leaves, F.from_low), omega (arith, s.leaves, F.from_high));
  to_vertex = λ u l w s. omega (arith, s.enters, (W.each s.at s.within).to_high);
}

-- so are those of a drawn chart, which are the same
pub drawn_steps : (b labels : List ℕ) → SameSteps (StepsOf b labels) (labelled_steps (drawn_of b labels))
drawn_steps b labels u l w = (
  (λ s. (s.at, s.within, s.leaves, s.holds.is, s.enters)),
  (λ (i, h, f, g, k). record { at = i; within = h; leaves = f; enters = k; holds = record { is = g } }),
)

pub drawn_formed : (b labels : List ℕ) → WellFormed b → Formed (vertices_of b) (labelled_steps (drawn_of b labels))
drawn_formed b labels W =
    let F = steps_formed b labels W in
    record {
      from_vertex = λ u l w s. F.from_vertex u l w ((drawn_steps b labels u l w).1 s);
      to_vertex = λ u l w s. F.to_vertex u l w ((drawn_steps b labels u l w).1 s);
    }

-- is there an index with these three bytes?
steps? : (b labels : List ℕ) (u l w : ℕ) → Dec (StepsOf b labels u l w)
steps? b labels u l w =
    elim (look_below bytes? (count_of b)) [
      | inl (k, h, (p, q, r)) ↦ yes (record { at = k; within = h; leaves = p; holds = record { is = q }; enters = r })
      | inr n ↦ no (λ s. n s.at s.within (s.leaves, s.holds.is, s.enters))
    ]
  where
    bytes? : (k : ℕ) → Dec ((from_of b k ≡ u) × (get_or labels k 0 ≡ l) × (to_of b k ≡ w))
    bytes? k =
        by_cases (ℕ_discrete (from_of b k) u)
        (λ p. by_cases (ℕ_discrete (get_or labels k 0) l)
        (λ q. by_cases (ℕ_discrete (to_of b k) w) (λ r. yes (p, q, r)) (λ r. no (λ x. r x.2)))
        (λ q. no (λ x. q x.1)))
        (λ p. no (λ x. p x.0))

pub steps_listed : (b labels : List ℕ) → Bytes labels → Listed 256 (StepsOf b labels)
steps_listed b labels B = record {
  label_below = λ u l w s. omega (arith, B s.at, s.holds.is);
  decide = steps? b labels;
}

-- what stands is among the steps
pub standing_step : {b labels standing : List ℕ} {u l w : ℕ} → StandingOf b labels standing u l w → StepsOf b labels u l w
standing_step s = record { at = s.at; within = s.within; leaves = s.leaves; enters = s.enters; holds = record { is = s.holds.label } }

-- the kept transitions are those that stand
pub kept_standing : (b labels standing : List ℕ) (u w : ℕ) → Kept b standing u w ↔ Any (StandingOf b labels standing) u w
kept_standing b labels standing u w = (
  λ e. (get_or labels e.at 0, record { at = e.at; within = e.within; leaves = e.leaves; enters = e.enters; holds = record { label = refl; stands = e.holds.is } }),
  λ (l, s). record { at = s.at; within = s.within; leaves = s.leaves; enters = s.enters; holds = record { is = s.holds.stands } },
)
