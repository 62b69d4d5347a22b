-- Steps and transitions: by the tables, a step matches a transition of the chart exactly where a transition of the expression does.
use mathlib.Core.Path.{◌≡◌, refl, sym, ◌∙◌, subst}
use mathlib.Core.List.{List}
use Prim.Native.Nat.{ℕ, ◌+◌, ◌*◌, ◌/◌, ◌%◌, ◌<◌}
use native.Mathlib.Omega.{arith}
use lib.ListN.{get_or}
use Rattle.theory.specs.Systems.{converse}
use Rattle.theory.specs.Relations.{EndsAgree, AllMatched}
use Rattle.bits.specs.Bits.{Bytes}
use Rattle.bits.specs.Words.{On}
use Rattle.chart.specs.Bodies.{count_of, from_of, action_of, to_of, WellFormed}
use Rattle.chart.specs.Numbered.{Lists, Numbered}
use Rattle.chart.specs.Systems.{indexed_of}
use Rattle.bisimulation.specs.Answers.{Related, Passes, ListedChart, NumberedChart}
use Rattle.bisimulation.specs.Suspects.{Into, Acting, Match}
use Rattle.bisimulation.specs.Small.{StepFits}

-- steps in order, each once, are steps in any order
pub numbered_lists : {e keys words : List ℕ} {m : ℕ} → Numbered e keys words m → Lists e keys words m
numbered_lists N = record { listed = N.coded.listed; exactly = N.exactly }

pub numbered_listed : {keys words body relation e : List ℕ} {m vertices : ℕ} → NumberedChart keys words m vertices body relation e
    → ListedChart keys words m vertices body relation e
numbered_listed N =
    record { passes = N.passes; size = N.size; lists = numbered_lists N.numbered; fits = N.fits; starts = N.starts }

module _ {e keys words : List ℕ} {m : ℕ} (L : Lists e keys words m) where
  -- the step of a vertex for a transition that leaves it
  pub step_of : (u i : ℕ) → i < count_of e → from_of e i ≡ u
      → (k : ℕ) × (k < m) × (get_or keys k 0 / 256 ≡ action_of e i) × (get_or keys k 0 % 256 ≡ to_of e i) × On (get_or words u 0) k
  step_of u i h f =
      (L.exactly u (action_of e i) (to_of e i)).0
      (record { at = i; within = h; leaves = f; enters = refl; holds = record { is = refl } })

  -- the transition of a vertex for a step that it has
  pub at_step : (u k : ℕ) → On (get_or words u 0) k
      → (i : ℕ) × (i < count_of e) × (from_of e i ≡ u) × (get_or keys k 0 / 256 ≡ action_of e i) × (get_or keys k 0 % 256 ≡ to_of e i)
  at_step u k on =
      let a = (L.exactly u (get_or keys k 0 / 256) (get_or keys k 0 % 256)).1 (k, L.listed.known u k on, refl, refl, on) in
      (a.at, a.within, a.leaves, sym a.holds.is, sym a.enters)

  -- a pair whose steps and transitions fit each other passes
  pub pair_passes_lem : {relation body : List ℕ} {u v : ℕ} → EndsAgree u v
      → ((k : ℕ) → On (get_or words u 0) k
      → (j : ℕ) × (j < count_of body) × (from_of body j ≡ v) × StepFits keys relation body j k)
      → ((j : ℕ) → j < count_of body → from_of body j ≡ v → (k : ℕ) × On (get_or words u 0) k × StepFits keys relation body j k)
      → Passes e body relation u v
  pair_passes_lem {relation} {body} {u} {v} E to from = record { c43 = E; c44 = forth; c45 = back }
    where
      forth : AllMatched (indexed_of e) (indexed_of body) (Related relation) u v
      forth i h f =
          let (k, l, a, t, on) = step_of u i h f in
          let (j, g, p, F) = to k on in
          (j, g, p, sym F.action ∙ a, subst (λ (x : ℕ). Related relation x (to_of body j)) t F.target)

      back : AllMatched (indexed_of body) (indexed_of e) (converse (Related relation)) v u
      back j h f =
          let (k, on, F) = from j h f in
          let (i, g, p, a, t) = at_step u k on in
          (i, g, p, sym a ∙ F.action, subst (λ (x : ℕ). Related relation x (to_of body j)) t F.target)

module _ {into acting keys relation body : List ℕ} {m : ℕ} (B : Bytes body) (W : WellFormed body) (I : Into relation keys m into)
    (A : Acting keys m acting) where
  -- a step that matches a transition of the body has its action and a related target
  matched_step : (j k : ℕ) → j < count_of body → Match into acting body j k
      → (k < m) × (get_or keys k 0 / 256 ≡ action_of body j) × Related relation (get_or keys k 0 % 256) (to_of body j)
  matched_step j k h (p, q) =
      let (l, e) = (A.exactly (action_of body j) k (B (4 * j + 4 + 1))).0 q in
      let t = (W.each j h).to_high in
      let s = W.header.vertices_high in
      (l, e, ((I.exactly (to_of body j) k (omega arith)).0 p).1)

  pub step_fits : (j k : ℕ) → j < count_of body → Match into acting body j k → StepFits keys relation body j k
  step_fits j k h M = let (l, e, r) = matched_step j k h M in record { action = e; target = r }

  pub match_low : (j k : ℕ) → j < count_of body → Match into acting body j k → k < m
  match_low j k h M = (matched_step j k h M).0

  module _ (e : List ℕ) (i k j : ℕ) (a : get_or keys k 0 / 256 ≡ action_of e i) (t : get_or keys k 0 % 256 ≡ to_of e i)
      (h : j < count_of body) where
    pub is_matched : Match into acting body j k → (action_of body j ≡ action_of e i) × Related relation (to_of e i) (to_of body j)
    is_matched M = let (l, q, r) = matched_step j k h M in (sym q ∙ a, subst (λ (x : ℕ). Related relation x (to_of body j)) t r)

    pub is_match : k < m → action_of body j ≡ action_of e i → Related relation (to_of e i) (to_of body j) → Match into acting body j k
    is_match l q r =
        let w = (W.each j h).to_high in
        let s = W.header.vertices_high in (
          (I.exactly (to_of body j) k (omega arith)).1 (l, subst (λ (x : ℕ). Related relation x (to_of body j)) (sym t) r),
          (A.exactly (action_of body j) k (B (4 * j + 4 + 1))).1 (l, a ∙ sym q),
        )
