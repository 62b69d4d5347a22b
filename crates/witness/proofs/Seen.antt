-- The transitions that a pass has seen, and what more of them add to the tables.
use mathlib.Core.Path.{◌≡◌, sym, ◌∙◌, subst}
use mathlib.Core.Logic.{◌⊎◌, inl, inr, ⊎_elim, by_cases, ◌↔◌}
use mathlib.Core.List.{List}
use Prim.Native.Nat.{ℕ, ◌+◌, ◌≤◌, ◌<◌}
use native.Mathlib.Decide.{dec_lt}
use native.Mathlib.Omega.{arith}
use lib.ListN.{get_or}
use Rattle.bits.specs.Tables.{Gains}
use Rattle.bits.proofs.Members.{⊎_map}
use Rattle.bits.proofs.Gains.{gains_as, gains_then}
use Rattle.chart.specs.Bodies.{count_of, from_of, to_of}
use Rattle.chart.specs.Leaving.{Begins}
use Rattle.chart.specs.Steps.{Via, StepsOf}
use Rattle.chart.proofs.Order.{at_mid, between, begin_high}
use Rattle.witness.specs.Given.{Enters, EntersFrom, EntryLevels, EntryTargets, RunSteps, RunLevels, RunTargets}

-- the index i is from lo up to hi, and its label is l
pub record Within (labels : List ℕ) (lo hi l i : ℕ) : Type 0 where
  pub from : lo ≤ i
  pub below : i < hi
  pub is : get_or labels i 0 ≡ l

-- some transition from lo up to hi with the label l leads from u to w
abbrev pub Seen : List ℕ → List ℕ → ℕ → ℕ → ℕ → ℕ → ℕ → Type 0
Seen b labels lo hi u l w = Via b (Within labels lo hi l) u w

pub seen_none : {b labels : List ℕ} {lo u l w : ℕ} → ¬ Seen b labels lo lo u l w
seen_none s = omega (arith, s.holds.from, s.holds.below)

-- the same transition, within other bounds
again : {b labels : List ℕ} {lo hi from to u l w : ℕ} (s : Seen b labels lo hi u l w) → from ≤ s.at → s.at < to
    → Seen b labels from to u l w
again s p q = record {
  at = s.at;
  within = s.within;
  leaves = s.leaves;
  enters = s.enters;
  holds = record { from = p; below = q; is = s.holds.is };
}

-- those up to i, and then those up to k
module _ {b labels : List ℕ} {lo i k : ℕ} (low : lo ≤ i) (high : i ≤ k) {u l w : ℕ} where
  pub seen_first : Seen b labels lo i u l w → Seen b labels lo k u l w
  seen_first s = again s s.holds.from (omega (arith, s.holds.below))

  pub seen_either : Seen b labels lo k u l w → Seen b labels lo i u l w ⊎ Seen b labels i k u l w
  seen_either s = by_cases (dec_lt s.at i)
      (λ h. inl (again s s.holds.from h))
      (λ h. inr (again s (omega arith) s.holds.below))

-- one transition more, from f to t with the label l
module _ {b labels : List ℕ} {lo : ℕ} (i : ℕ) (low : lo ≤ i) (high : i < count_of b) {f l t : ℕ}
    (ef : f ≡ from_of b i) (el : l ≡ get_or labels i 0) (et : t ≡ to_of b i) where
  pub before : {u k w : ℕ} → Seen b labels lo i u k w → Seen b labels lo (i + 1) u k w
  before = seen_first low (omega arith)

  pub new : {u k w : ℕ} → u ≡ f → k ≡ l → w ≡ t → Seen b labels lo (i + 1) u k w
  new p q r = record {
    at = i;
    within = high;
    leaves = sym ef ∙ sym p;
    enters = sym et ∙ sym r;
    holds = record { from = low; below = omega arith; is = sym el ∙ sym q };
  }

  pub cases : {u k w : ℕ} → Seen b labels lo (i + 1) u k w → Seen b labels lo i u k w ⊎ ((u ≡ f) × (k ≡ l) × (w ≡ t))
  cases {u} {k} {w} s = ⊎_map (λ o. o) here (seen_either low (omega arith) s)
    where
      here : Seen b labels i (i + 1) u k w → (u ≡ f) × (k ≡ l) × (w ≡ t)
      here o =
          let z : o.at ≡ i = omega (arith, o.holds.from, o.holds.below) in (
            sym (subst (λ (j : ℕ). from_of b j ≡ u) z o.leaves) ∙ sym ef,
            sym (subst (λ (j : ℕ). get_or labels j 0 ≡ k) z o.holds.is) ∙ sym el,
            sym (subst (λ (j : ℕ). to_of b j ≡ w) z o.enters) ∙ sym et,
          )

-- THE TRANSITIONS OF ONE VERTEX
module _ {b begins : List ℕ} (R : Begins b begins) (v : ℕ) (low : v < 128) where
  pub leaves_v : (i : ℕ) → get_or begins v 0 ≤ i → i < get_or begins (v + 1) 0 → v ≡ from_of b i
  leaves_v i l h = sym (at_mid (R.split v (omega arith)) (R.split (v + 1) (omega arith)) i l h)

  -- a run of them more, from i up to k
  module _ {labels : List ℕ} {i k : ℕ} (from : get_or begins v 0 ≤ i) (high : i ≤ k) (to : k ≤ get_or begins (v + 1) 0) where
    seen_run : {l w : ℕ} → (Seen b labels (get_or begins v 0) i v l w ⊎ RunSteps b labels i k l w)
        ↔ Seen b labels (get_or begins v 0) k v l w
    seen_run {l} {w} = (
      ⊎_elim (seen_first from high) of_run,
      λ s. ⊎_map (λ o. o) (λ o. (o.at, o.holds.from, o.holds.below, o.holds.is, o.enters)) (seen_either from high s),
    )
      where
        of_run : RunSteps b labels i k l w → Seen b labels (get_or begins v 0) k v l w
        of_run (j, p, h, el, et) = record {
          at = j;
          within = omega (arith, begin_high R v low, h, to);
          leaves = sym (leaves_v j (omega (arith, from, p)) (omega (arith, h, to)));
          enters = et;
          holds = record { from = omega (arith, from, p); below = h; is = el };
        }

    pub levels_more : {a r s : List ℕ} → Gains (EntryLevels (Seen b labels (get_or begins v 0) i) v) a r
        → Gains (RunLevels b labels i k) r s → Gains (EntryLevels (Seen b labels (get_or begins v 0) k) v) a s
    levels_more G H = gains_then G H (λ x y g. (
      ⊎_elim (λ (h, w, s). (h, w, seen_run.0 (inl s))) (λ (h, w, s). (h, w, seen_run.0 (inr s))),
      λ (h, w, s). ⊎_map (λ o. (h, w, o)) (λ o. (h, w, o)) (seen_run.1 s),
    ))

    pub targets_more : {a r s : List ℕ} → Gains (EntryTargets (Seen b labels (get_or begins v 0) i) v) a r
        → Gains (RunTargets b labels i k) r s → Gains (EntryTargets (Seen b labels (get_or begins v 0) k) v) a s
    targets_more G H = gains_then G H (λ x y g. (
      ⊎_elim (λ (h, s). (h, seen_run.0 (inl s))) (λ (h, s). (h, seen_run.0 (inr s))),
      λ (h, s). ⊎_map (λ o. (h, o)) (λ o. (h, o)) (seen_run.1 s),
    ))

  -- all are seen
  module _ {labels : List ℕ} {n : ℕ} (e : n ≡ get_or begins (v + 1) 0) where
    pub seen_step : {x l w : ℕ} → Seen b labels (get_or begins v 0) n x l w → StepsOf b labels x l w
    seen_step s = record { at = s.at; within = s.within; leaves = s.leaves; enters = s.enters; holds = record { is = s.holds.is } }

    pub step_seen : {l w : ℕ} → StepsOf b labels v l w → Seen b labels (get_or begins v 0) n v l w
    step_seen s =
        let p = between (R.split v (omega arith)) (R.split (v + 1) (omega arith)) s.at s.within s.leaves in
        record {
          at = s.at;
          within = s.within;
          leaves = s.leaves;
          enters = s.enters;
          holds = record { from = p.0; below = omega arith; is = s.holds.is };
        }

    pub levels_all : {a r : List ℕ} → Gains (EntryLevels (Seen b labels (get_or begins v 0) n) v) a r
        → Gains (EntryLevels (StepsOf b labels) v) a r
    levels_all = gains_as (λ x y g. (λ (h, w, s). (h, w, seen_step s), λ (h, w, s). (h, w, step_seen s)))

    pub targets_all : {a r : List ℕ} → Gains (EntryTargets (Seen b labels (get_or begins v 0) n) v) a r
        → Gains (EntryTargets (StepsOf b labels) v) a r
    targets_all = gains_as (λ x y g. (λ (h, s). (h, seen_step s), λ (h, s). (h, step_seen s)))

    pub enters_all : {a r : List ℕ} → Gains (Enters (Seen b labels (get_or begins v 0) n)) a r
        → Gains (EntersFrom v (StepsOf b labels)) a r
    enters_all = gains_as (λ l x g. (
      λ (h, w, s). (sym s.leaves ∙ sym (leaves_v s.at s.holds.from (omega (arith, s.holds.below))), (h, w, seen_step s)),
      λ (z, (h, w, s)). let o = step_seen (subst (λ (y : ℕ). StepsOf b labels y l w) z s) in
          (h, w, subst (λ (y : ℕ). Seen b labels (get_or begins v 0) n y l w) (sym z) o),
    ))
