-- 43 to 45 of a related pair by words of steps, and the places of what is not matched.
use mathlib.Core.Path.{◌≡◌, sym, subst}
use mathlib.Core.Logic.{◌⊎◌, inl, inr, ⊎_elim, ◌↔◌, by_cases}
use mathlib.Core.List.{List}
use Prim.Native.Nat.{ℕ, ◌+◌, ◌/◌, ◌%◌, ◌^◌, ◌≤◌, ◌<◌}
use native.Mathlib.Decide.{ℕ_discrete}
use native.Mathlib.Omega.{arith}
use lib.ListN.{get_or}
use Rattle.theory.specs.Least.{Least}
use Rattle.theory.proofs.Search.{look_below}
use Rattle.theory.specs.Systems.{converse}
use Rattle.theory.specs.Relations.{Matched, Unmatched, AllMatched}
use Rattle.bits.specs.Bits.{Bytes}
use Rattle.bits.specs.declared.sets.Set.{Set}
use Rattle.bits.specs.First.{First}
use Rattle.bits.specs.Words.{On, LowestOn}
use Rattle.bits.specs.Sets.{Has, Members}
use Rattle.bits.specs.Tables.{InFirst}
use Rattle.bits.proofs.Members.{zero_off}
use Rattle.chart.specs.Bodies.{count_of, from_of, action_of, to_of, WellFormed}
use Rattle.chart.specs.Leaving.{Begins}
use Rattle.chart.specs.Numbered.{Lists}
use Rattle.chart.proofs.Order.{at_mid, between}
use Rattle.chart.specs.Systems.{indexed_of}
use Rattle.bisimulation.specs.Answers.{Related, Passes}
use Rattle.bisimulation.specs.Suspects.{Match, MatchedIn}
use Rattle.bisimulation.specs.Places.{StepPlace}
use Rattle.bisimulation.specs.Pairs.{Alone, StepTables, Sought}
use Rattle.bisimulation.proofs.RowLaws.{related_column}
use Rattle.bisimulation.proofs.PlaceLaws.{one_place, key_order}
use Rattle.bisimulation.proofs.StepLaws.{numbered_lists, step_of, at_step, is_matched, is_match}

-- `matched`: one transition more
pub matched_more : (into acting body : List ℕ) (a i s x r : ℕ) → a ≤ i → ((k : ℕ) → On s k ↔ MatchedIn into acting body a i k) → ((k : ℕ) → On x k ↔ Match into acting body i k) → ((k : ℕ) → On r k ↔ (On s k ⊎ On x k)) → (k : ℕ) → On r k ↔ MatchedIn into acting body a (i + 1) k
matched_more into acting body a i s x r l S X R k = ((λ on. there ((R k).0 on)), back)
  where
    there : On s k ⊎ On x k → MatchedIn into acting body a (i + 1) k
    there (inl on) = let (j, p, q, M) = (S k).0 on in (j, p, omega arith, M)
    there (inr on) = (i, l, omega arith, (X k).0 on)

    back : MatchedIn into acting body a (i + 1) k → On r k
    back (j, p, q, M) =
        by_cases (ℕ_discrete j i)
        (λ e. (R k).1 (inr ((X k).1 (subst (λ (y : ℕ). Match into acting body y k) e M))))
        (λ e. (R k).1 (inl ((S k).1 (j, p, omega arith, M))))

pub matched_none : (into acting body : List ℕ) (a k : ℕ) → On 0 k ↔ MatchedIn into acting body a a k
matched_none into acting body a k = ((λ on. absurd (zero_off k on)), (λ (j, p, q, M). absurd (omega arith)))

-- each pair of a row that is in no set passes
pub suspects_clear : {into acting words table body e relation : List ℕ} {set : Set}
    → Sought into acting words table body e relation → Members (InFirst table 128) set → (u : ℕ) → ¬ Has set u
    → (v : ℕ) → Related relation u v → Passes e body relation u v
suspects_clear {relation = relation} S M u n v r = S.others u v r (λ h. n ((M.exactly u h.below).1 (v, related_column relation u v r, h)))

-- a transition that is not alone has a step that matches it
met_by : (into acting body : List ℕ) (steps i : ℕ) → ((k : ℕ) → On steps k → k < 64) → ¬ Alone into acting body steps i
    → (k : ℕ) × On steps k × Match into acting body i k
met_by into acting body steps i low f =
    ⊎_elim (λ (k, l, h). (k, h.0, h.1)) (λ n. absurd (f (λ k on M. n k (low k on) (on, M))))
    (look_below {P = λ (k : ℕ). On steps k × Match into acting body i k} meets? 64)
  where
    meets? : (k : ℕ) → Dec (On steps k × Match into acting body i k)
    meets? k = elim (ℕ_discrete (steps / 2 ^ k % 2) 1) [ yes on ↦ second on | no off ↦ no (λ h. off h.0) ]
      where
        third : On steps k → On (get_or into (to_of body i) 0) k → Dec (On steps k × Match into acting body i k)
        third on h = elim (ℕ_discrete (get_or acting (action_of body i) 0 / 2 ^ k % 2) 1) [ yes a ↦ yes (on, (h, a)) | no a ↦ no (λ g. a g.1.1) ]

        second : On steps k → Dec (On steps k × Match into acting body i k)
        second on = elim (ℕ_discrete (get_or into (to_of body i) 0 / 2 ^ k % 2) 1) [ yes h ↦ third on h | no h ↦ no (λ g. h g.1.0) ]

module _ {into acting words e relation body begins : List ℕ} (B : Bytes body) (W : WellFormed body) (R : Begins body begins) (T : StepTables into acting words e relation) (u : ℕ) {v : ℕ} (low : v < 128) where
  lists : Lists e T.keys words T.m
  lists = numbered_lists T.numbered

  -- the transitions of v stand from its entry up to the next
  here : (j : ℕ) → j < count_of body → from_of body j ≡ v → (get_or begins v 0 ≤ j) × (j < get_or begins (v + 1) 0)
  here = between (R.split v (omega arith)) (R.split (v + 1) (omega arith))

  leaves : (j : ℕ) → get_or begins v 0 ≤ j → j < get_or begins (v + 1) 0 → (j < count_of body) × (from_of body j ≡ v)
  leaves j p q = (omega (arith, (R.split (v + 1) (omega arith)).within), at_mid (R.split v (omega arith)) (R.split (v + 1) (omega arith)) j p q)

  -- 44: s has the steps that match a transition of v, and left those of u that match none
  module _ (s left : ℕ) (S : (k : ℕ) → On s k ↔ MatchedIn into acting body (get_or begins v 0) (get_or begins (v + 1) 0) k) (D : (k : ℕ) → On left k ↔ (On (get_or words u 0) k × (¬ On s k))) where
    unless_left : (i k : ℕ) → get_or T.keys k 0 / 256 ≡ action_of e i → get_or T.keys k 0 % 256 ≡ to_of e i → On (get_or words u 0) k → ¬ On left k → Matched (indexed_of e) (indexed_of body) (Related relation) v i
    unless_left i k a t on n =
        by_cases (ℕ_discrete (s / 2 ^ k % 2) 1)
        (λ m.
        let (j, p, q, M) = (S k).0 m in
        let (h, f) = leaves j p q in
        let (x, y) = is_matched B W T.spread T.acts e i k j a t h M in
        (j, h, f, x, y))
        (λ m. absurd (n ((D k).1 (on, m))))

    pub none_left : left ≡ 0 → AllMatched (indexed_of e) (indexed_of body) (Related relation) u v
    none_left z i h f =
        let (k, l, a, t, on) = step_of lists u i h f in
        unless_left i k a t on (λ m. zero_off k (rw z at m))

    pub least_left : (k r : ℕ) → LowestOn left k → StepPlace words u k r → Least (Unmatched (indexed_of e) (indexed_of body) (Related relation) u v) r
    least_left k r L P =
        let (on, off) = (D k).0 L.on in
        let l = T.numbered.coded.listed.known u k on in
        let (t, h, f, x, y) = at_step lists u k on in
        let z = one_place T.formed (P e T.keys T.m T.formed T.numbered l) t h (omega arith) in
        subst (Least (Unmatched (indexed_of e) (indexed_of body) (Related relation) u v)) z (record {
          holds = (
            h,
            f,
            λ (j, g, p, q, c).
                off ((S k).1 (j, (here j g p).0, (here j g p).1, is_match B W T.spread T.acts e t k j x y g l q c)),
          );
          lowest = λ i b (g, p, n).
              let (k₁, l₁, x₁, y₁, on₁) = step_of lists u i g p in
              let c = T.formed.ascending i t b h in
              n (unless_left i k₁ x₁ y₁ on₁ (L.below k₁ (key_order T.formed T.numbered k₁ k l₁ (omega arith))));
        })

  -- 45
  module _ {r : ℕ} (A : First (Alone into acting body (get_or words u 0)) (get_or begins v 0) (get_or begins (v + 1) 0) r) where
    met : (j : ℕ) → j < count_of body → (k : ℕ) → On (get_or words u 0) k → Match into acting body j k → Matched (indexed_of body) (indexed_of e) (converse (Related relation)) u j
    met j h k on M =
        let (i, g, p, a, t) = at_step lists u k on in
        let (q, c) = is_matched B W T.spread T.acts e i k j a t h M in
        (i, g, p, sym q, c)

    low_step : (k : ℕ) → On (get_or words u 0) k → k < 64
    low_step k on = omega (arith, T.numbered.coded.listed.known u k on, T.numbered.coded.listed.few)

    pub none_alone : get_or begins (v + 1) 0 ≤ r → AllMatched (indexed_of body) (indexed_of e) (converse (Related relation)) v u
    none_alone l j h f =
        let (p, q) = here j h f in
        let (k, on, M) = met_by into acting body (get_or words u 0) j low_step (A.before j p (omega arith)) in
        met j h k on M

    pub least_alone : r < get_or begins (v + 1) 0 → Least (Unmatched (indexed_of body) (indexed_of e) (converse (Related relation)) v u) r
    least_alone l =
        let (h, f) = leaves r A.from l in
        record {
          holds = (
            h,
            f,
            λ (i, g, p, q, c).
                let (k, b, a, t, on) = step_of lists u i g p in
                A.holds l k on (is_match B W T.spread T.acts e i k r a t h b (sym q) c),
          );
          lowest =
              λ j b (g, p, n). let (k, on, M) = met_by into acting body (get_or words u 0) j low_step (A.before j (here j g p).0 b) in
              n (met j g k on M);
        }
