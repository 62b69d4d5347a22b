-- The checks 33 to 35: of one loop, of the loops of a vertex, of all loops.
use mathlib.Core.Path.{◌≡◌, refl, sym, subst}
use mathlib.Core.Logic.{◌≢◌, inl, inr, ⊎_elim, by_cases, ◌↔◌}
use mathlib.Core.Bool.{Bool, true, false, false≢true}
use mathlib.Core.List.{List, [], ◌∷◌, ◌++◌, Memᴰ}
use Prim.Native.Nat.{ℕ, ◌+◌, ◌≤◌, ◌<◌}
use native.Mathlib.Decide.{ℕ_discrete, dec_lt}
use native.Mathlib.Omega.{arith}
use lib.ListN.{get_or}
use Rattle.theory.specs.Paths.{Edges, Star, here, step, Avoid}
use Rattle.theory.specs.Charts.{Steps, Branch, Loop}
use Rattle.theory.specs.LoopCharts.{other, InBody}
use Rattle.theory.specs.Checks.{LoopPasses, no_return, end_inside, not_lower, NotLower, fails_33, fails_34, fails_35}
use Rattle.theory.proofs.Paths.{star_apart, star_cases, star_map, plus_map, plus_star, plus_snoc, plus_below}
use Rattle.theory.proofs.Checks.{loop_to}
use Rattle.theory.proofs.Rounds.{body_iff}
use Rattle.std.specs.Prelude.{Result, Ok, Err}
use Rattle.report.specs.declared.Refusal.{Refusal}
use Rattle.report.specs.declared.Refusal.TheVariants.{LoopNoReturn, LoopEndInside, LoopNotLower}
use Rattle.bits.specs.Bits.{Bytes}
use Rattle.bits.specs.First.{First}
use Rattle.bits.specs.declared.sets.Set.{Set}
use Rattle.bits.specs.Sets.{Has, empty_set, Empty, Members, Intersection, Difference}
use Rattle.bits.specs.Tables.{row_of, HasRow, TableOf}
use Rattle.bits.proofs.Members.{none, has?}
use Rattle.bits.specs.Listed.{members_of}
use Rattle.bits.proofs.Listed.{member_listed}
use Rattle.bits.proofs.Given.{one_more}
use Rattle.chart.specs.Bodies.{vertices_of, WellFormed}
use Rattle.reach.specs.Searches.{Leads, Closed, InOrFrom}
use Rattle.chart.specs.Steps.{StepsOf}
use Rattle.reach.proofs.Searches.{some_member, all_in}
use Rattle.chart.proofs.Relations.{steps_formed}
use Rattle.witness.specs.Given.{Entry, Tables}
use Rattle.witness.specs.Loops.{LoopSaid, Back, Returning, InBoth, Barred, InLower, Tells, LoopGiven}
use Rattle.witness.specs.Loops.{BelowLevel, ReachesBelow, InOrAfter, Below, EntriesPass, DeadEnd, LeadsOn}
use Rattle.witness.specs.Answers.{FailsAt, VertexSaid, LoopsSaid}
use Rattle.witness.proofs.Labellings.{loop_below}
use Rattle.witness.proofs.Firsts.{first_as}
use Rattle.witness.proofs.Reaching.{step_low, leads_branch, branch_leads}
use Rattle.witness.proofs.Onward.{comes_to}

-- the way to v, up to the first time that it is there
to_first : {E : Edges} {u v : ℕ} → Star E u v → Star (Avoid v E) u v
to_first here = here
to_first {E} {v = v} (step {u = u} e p) =
    elim (ℕ_discrete u v) [ yes z ↦ subst (λ (x : ℕ). Star (Avoid v E) x v) (sym z) here | no z ↦ step (z, e) (to_first p) ]

-- 34 AND 35 together: a loop that returns passes where its body has nothing that has no place there
passes_free : {S : Steps} {v l : ℕ} → InBody S v l v → ((w : ℕ) → InBody S v l w → ¬ Barred S v l w) → LoopPasses S v l
passes_free {l = l} back free = record {
  c33 = back;
  c34 = λ p. free 0 p (inl refl);
  c35 = λ w a p x o. by_cases (dec_lt x l) (λ q. q) (λ q. absurd (free w (star_apart p a) (inr (a, (x, o, omega arith)))));
}

module _ {b labels branches after entries low high : List ℕ} (W : WellFormed b)
    (T : Tables b labels branches after entries low high) {v : ℕ} (at : v < 128) where
  -- 33: BY THE TARGETS OF A LOOP'S ENTRIES
  -- w leads to v, or is it
  back_iff : (w : ℕ) → w < vertices_of b → Back after v w ↔ Star (Branch (StepsOf b labels)) w v
  back_iff w h = let k = T.of_after.exactly w v (omega arith) h (omega (arith, W.header.vertices_high)) in (
    ⊎_elim
        (λ e. subst (λ (x : ℕ). Star (Branch (StepsOf b labels)) x v) (sym e) here)
        (λ g. plus_star (plus_map (leads_branch W T.of_branches) (k.0 g))),
    λ p. ⊎_elim inl (λ q. inr (k.1 (plus_map (branch_leads W T.of_branches) q))) (star_cases p),
  )

  target_low : {l w : ℕ} → StepsOf b labels v l w → w < vertices_of b
  target_low s = (steps_formed b labels W).to_vertex _ _ _ s

  comes : {l w : ℕ} → StepsOf b labels v l w → Back after v w → InBody (StepsOf b labels) v l v
  comes {l} {w} s k = (body_iff v).1 (w, s, to_first ((back_iff w (target_low s)).0 k))

  comes_by : {l : ℕ} → InBody (StepsOf b labels) v l v → (w : ℕ) × StepsOf b labels v l w × Back after v w
  comes_by p = let (w, s, q) = (body_iff v).0 p in (w, s, (back_iff w (target_low s)).1 (star_map (λ x y e. e.1) q))

  entry_target : {l w : ℕ} → 0 < l → StepsOf b labels v l w → HasRow entries v w
  entry_target {l} {w} some s = (T.of_entries.exactly v w (step_low W s).1).1 (l, some, s)

  -- 34 AND 35: BY WHAT AN ENTRY'S TARGET REACHES
  body_low : {l w : ℕ} → InBody (StepsOf b labels) v l w → w < 128
  body_low {l} p = omega (arith, plus_below (loop_to (steps_formed b labels W) v l) p, W.header.vertices_high)

  -- w is reached from the target x, which is in a set all that is reached from which is below a lower level
  free_inside : {l m w x : ℕ} {set : Set} → m ≤ l → m < 256 → ReachesBelow branches high v m set → Has set x
      → Star (Avoid v (Branch (StepsOf b labels))) x w → w < 128 → ¬ Barred (StepsOf b labels) v l w
  free_inside {l} {m} {w} {x} k i (inside, A, B) h p j c = no c
    where
      here_too : Has inside w
      here_too = A w j (x, h, star_map (λ u y (n, e). (n, branch_leads W T.of_branches u y e)) p)

      no : ¬ Barred (StepsOf b labels) v l w
      no (inl z) = B.endless (subst (Has inside) z here_too)
      no (inr (a, (y, o, g))) = B.lower w ((here_too, (T.of_levels.exactly m w j).1 (y, o, omega (arith, g, k))), a)

  -- x with all that it reaches is below the level
  free_below : {l w x : ℕ} → l < 256 → Below after high l x → StepsOf b labels v l x → Star (Branch (StepsOf b labels)) x w → w < 128
      → ¬ Barred (StepsOf b labels) v l w
  free_below {l} {w} {x} i B s p j c = no c
    where
      there : InOrAfter after x w
      there = ⊎_elim
          (λ e. inr (sym e))
          (λ q.
          let k = T.of_after.exactly x w (omega arith) (target_low s) (step_low W s).1 in
          inl (k.1 (plus_map (branch_leads W T.of_branches) q)))
          (star_cases p)

      no : ¬ Barred (StepsOf b labels) v l w
      no (inl z) = B.endless (subst (InOrAfter after x) z there)
      no (inr (a, e)) = B.lower w there ((T.of_levels.exactly l w j).1 e)

  module _ {back : Set} (R : Members (Returning after v (row_of entries v)) back) where
    returns_in : {l w : ℕ} → 0 < l → StepsOf b labels v l w → Back after v w → Has back w
    returns_in {l} {w} some s k = (R.exactly w (step_low W s).1).1 (entry_target some s, k)

    pub loop_returns : {l : ℕ} {targets r : Set} → 0 < l → Members (StepsOf b labels v l) targets → Intersection targets back r
        → (¬ Empty r) ↔ InBody (StepsOf b labels) v l v
    loop_returns {r = r} some M I = (
      (λ n.
          let (w, h) = some_member r n in
          let (g, k) = (I w).0 h in
          comes ((M.exactly w h.below).0 g) ((R.exactly w h.below).0 k).1),
      (λ p e. let (w, s, k) = comes_by p in e w ((I w).1 ((M.exactly w (step_low W s).1).1 s, returns_in some s k))),
    )

    module _ {others : Set} (D : Difference (row_of entries v) back others) where
      -- where all targets return, each entry does
      pub entries_return : Empty others → EntriesPass false (StepsOf b labels) after high v
      entries_return N = record { each = λ l w some s. inl (comes_back some s); returns = λ l w some s. (w, s, comes_back some s) }
        where
          comes_back : {l w : ℕ} → 0 < l → StepsOf b labels v l w → Back after v w
          comes_back {l} {w} some s = let g = entry_target some s in ((R.exactly w g.below).0 (all_in D N w g)).1

      -- what returns reaches only what is below the lowest level of v, and so do the others where nothing is asked of them
      pub vertex_passes_lem : {m : ℕ} {all : Bool} → m ≡ get_or low v 0 → m < 256 → Bytes labels → ReachesBelow branches high v m back
          → (all ≡ true → ReachesBelow branches high v m others) → EntriesPass all (StepsOf b labels) after high v
          → VertexSaid (StepsOf b labels) v (Ok tt)
      vertex_passes_lem {m} e i bytes B O E l (some, w, s) =
          let (x, t, k) = E.returns l w some s in
          passes_free (comes t k) (λ u p. let (y, q, r) = (body_iff u).0 p in free u y q r (body_low p) (has? back y))
        where
          lowest : m ≤ l
          lowest = by_cases (dec_lt l m)
              (λ h. absurd ((T.of_low.each v l (some, w, s)).before l (omega arith) (omega arith) (some, w, s)))
              (λ h. omega arith)

          free : (u y : ℕ) → StepsOf b labels v l y → Star (Avoid v (Branch (StepsOf b labels))) y u → u < 128 → Dec (Has back y)
              → ¬ Barred (StepsOf b labels) v l u
          free u y q r j (yes h) = free_inside lowest i B h r j
          free u y q r j (no n) = ⊎_elim
              (λ k. absurd (n (returns_in some q k)))
              (⊎_elim
              (λ z. free_inside lowest i (O z) ((D y).1 (entry_target some q, n)) r j)
              (λ g. free_below (loop_below b labels W bytes (some, y, q)).1 g q (star_map (λ a c d. d.1) r) j))
              (E.each l y some q)

  -- ALL ENTRIES RETURN where their targets lead on
  module _ {ends : Set} (N : Members (DeadEnd branches (vertices_of b)) ends) {m : ℕ}
      (L : LeadsOn branches high ends v m (row_of entries v)) where
    goes_on : (x : ℕ) → Has L.all x × (x < vertices_of b) → x ≢ v
        → (y : ℕ) × Branch (StepsOf b labels) x y × (Has L.all y × (y < vertices_of b))
    goes_on x (h, i) n =
        let (y, g) = some_member (row_of branches x) (λ e. n (L.onward x h ((N.exactly x h.below).1 (i, e)))) in
        let s : Leads branches x y = record { from = h.below; has = g } in
        let t = leads_branch W T.of_branches x y s in
        (y, t, (L.closed x y h (n, s), (steps_formed b labels W).to_vertex _ _ _ t))

    all_return_lem : Members (Returning after v (row_of entries v)) (row_of entries v)
    all_return_lem = record { exactly = λ w h. (λ g. (g, comes_back w g), λ (g, k). g) }
      where
        comes_back : (w : ℕ) → HasRow entries v w → Back after v w
        comes_back w g =
            let (l, some, s) = (T.of_entries.exactly v w g.below).0 g in
            let low = target_low s in
            (back_iff w low).1 (comes_to (vertices_of b) (λ u x. (steps_formed b labels W).to_vertex u 0 x) T.acyclic v goes_on w
            (L.reached w g.below (w, g, here), low))

    on_below : {l x : ℕ} → StepsOf b labels v l x → BelowLevel L.all high v m
    on_below s = record {
      endless = λ h.
          let z = L.onward 0 h ((N.exactly 0 h.below).1 (omega (arith, W.header.vertices_low), nothing_leaves)) in
          omega (arith, z, ((steps_formed b labels W).from_vertex _ _ _ s).0);
      lower = λ w ((h, g), n). n (L.lower w h g);
    }
      where
        nothing_leaves : Empty (row_of branches 0)
        nothing_leaves y g =
            let t = leads_branch W T.of_branches 0 y (record { from = omega arith; has = g }) in
            omega (arith, ((steps_formed b labels W).from_vertex _ _ _ t).0)

    pub lead_on_pass : m ≡ get_or low v 0 → m < 256 → Bytes labels → VertexSaid (StepsOf b labels) v (Ok tt)
    lead_on_pass e i bytes l o =
        let D : Difference (row_of entries v) (row_of entries v) empty_set = λ w. (λ g. absurd (none w g), λ (g, n). absurd (n g)) in
        let below : ReachesBelow branches high v m (row_of entries v) = (L.all, L.reached, on_below o.2) in
        vertex_passes_lem all_return_lem D e i bytes below (λ z. absurd (false≢true z)) (entries_return all_return_lem D none) l o

-- ONE LOOP
module _ {b labels high : List ℕ} {v l : ℕ} {back seen : Set} (i : l < 256) (G : LoopGiven b labels high v l back seen) where
  pub loop_33 : Empty back → FailsAt (StepsOf b labels) v l (LoopNoReturn v l)
  loop_33 e = (no_return v l, fails_33 (λ p. G.returns.1 p e), λ n. refl)

  module _ (returns : ¬ Empty back) where
    pub loop_34 : Has seen 0 → FailsAt (StepsOf b labels) v l (LoopEndInside v l)
    loop_34 g = (end_inside v l, fails_34 (G.returns.0 returns) ((G.tells 0 (omega arith) (inl refl)).0 g), λ n. refl)

    module _ (no_end : ¬ Has seen 0) {r : ℕ} (F : First (InBoth seen high v l) 0 128 r) where
      found : First (NotLower (StepsOf b labels) v l) 0 128 r
      found = first_as (λ w h. (
        λ ((c, d), a). let e = (G.of_levels.exactly l w h).0 d in (a, (G.tells w h (inr (a, e))).0 c, e),
        λ (a, c, e). (((G.tells w h (inr (a, e))).1 c, (G.of_levels.exactly l w h).1 e), a),
      )) F

      endless : ¬ InBody (StepsOf b labels) v l 0
      endless p = no_end ((G.tells 0 (omega arith) (inl refl)).1 p)

      pub loop_35 : r < 128 → FailsAt (StepsOf b labels) v l (LoopNotLower v l r)
      loop_35 k = (
        not_lower v l r,
        fails_35 (G.returns.0 returns) endless (record { holds = found.holds k; lowest = λ w. found.before w (omega arith) }),
        λ n. refl,
      )

      pub loop_passes : 128 ≤ r → LoopPasses (StepsOf b labels) v l
      loop_passes k = passes_free (G.returns.0 returns) free
        where
          free : (w : ℕ) → InBody (StepsOf b labels) v l w → ¬ Barred (StepsOf b labels) v l w
          free w p (inl z) = endless (subst (InBody (StepsOf b labels) v l) z p)
          free w p (inr (a, e)) =
              let j = plus_below (loop_to (steps_formed b labels G.formed) v l) p in
              found.before w (omega arith) (omega (arith, j, k, G.formed.header.vertices_high)) (a, p, e)

-- THE LOOPS OF A VERTEX, BY LEVEL
-- the loops of v below `level` pass, and the set has their bodies; level is the next, or 256
pub record VertexTo (S : Steps) (v level : ℕ) (seen : Set) : Type 0 where
  pub low : 0 < level
  pub high : level ≤ 256
  pub is_loop : level < 256 → Loop S v level
  pub passed : (m : ℕ) → m < level → Loop S v m → LoopPasses S v m
  pub bodies : Members (InLower S v level) seen

module _ {S : Steps} {v : ℕ} where
  pub vertex_begin : {r : ℕ} {seen : Set} → seen ≡ empty_set → First (Loop S v) 1 256 r → VertexTo S v r seen
  vertex_begin e N = record {
    low = N.from;
    high = N.within;
    is_loop = N.holds;
    passed = λ m h o. absurd (N.before m o.0 h o);
    bodies = record { exactly = λ w l. (λ h. absurd (none w (rw e at h)), λ (m, o, h, p). absurd (N.before m o.0 h o)) };
  }

  module _ {level : ℕ} {seen : Set} (T : VertexTo S v level seen) where
    -- what has no place in the loop of this level is in none of a lower one
    not_lower_down : {m w : ℕ} → Loop S v m → m < level → InBody S v m w → ¬ Barred S v level w
    not_lower_down {m} o h p (inl z) = (T.passed m h o).c34 (subst (InBody S v m) z p)
    not_lower_down {m} {w} o h p (inr (a, (x, q, k))) = let g = (T.passed m h o).c35 w a (plus_star p) x q in omega arith

    module _ {more : Set} (M : Members (InLower S v (level + 1)) more) where
      pub loop_tells : level < 256 → Tells S v level more
      loop_tells i w h c = (
        (λ g.
            let (m, o, k, p) = (M.exactly w h).0 g in
            by_cases (ℕ_discrete m level)
            (λ e. subst (λ (x : ℕ). InBody S v x w) e p)
            (λ e. absurd (not_lower_down o (omega arith) p c))),
        (λ p. (M.exactly w h).1 (level, T.is_loop i, omega arith, p)),
      )

      pub vertex_more : {r : ℕ} → LoopPasses S v level → First (Loop S v) (level + 1) 256 r → VertexTo S v r more
      vertex_more p N = record {
        low = omega (arith, N.from);
        high = N.within;
        is_loop = N.holds;
        passed = λ m g o. by_cases (dec_lt m level) (λ q. T.passed m q o) (λ q. by_cases (ℕ_discrete m level)
            (λ e. subst (LoopPasses S v) (sym e) p)
            (λ e. absurd (N.before m (omega arith) g o)));
        bodies = record {
          exactly = λ w l. (
            λ h. let (m, o, k, q) = (M.exactly w l).0 h in (m, o, omega (arith, N.from), q),
            λ (m, o, k, q). by_cases (dec_lt level m)
                (λ h. absurd (N.before m (omega arith) k o))
                (λ h. (M.exactly w l).1 (m, o, omega arith, q)),
          );
        };
      }

    pub vertex_stop : {s : Result Unit Refusal} {p : Refusal} → s ≡ Err p → level < 256 → LoopSaid S v level s → VertexSaid S v s
    vertex_stop e h f = rw e (level, T.is_loop h, T.passed, rw e at f)

-- the search goes on: what it has seen is closed, and then it has the body of this level too
module _ {b labels branches : List ℕ} (W : WellFormed b) (B : TableOf (Branch (StepsOf b labels)) branches) {v level : ℕ} {seen : Set}
    (T : VertexTo (StepsOf b labels) v level seen) where
  pub bodies_closed : Closed (Avoid v (Leads branches)) seen
  bodies_closed x y h (n, e) =
      let (m, o, k, p) = (T.bodies.exactly x h.below).0 h in
      (T.bodies.exactly y e.has.below).1 (m, o, k, plus_snoc p (other n (leads_branch W B x y e)))

  pub bodies_more : {targets more : Set} → level < 256 → Members (StepsOf b labels v level) targets
      → Members (InOrFrom (Avoid v (Leads branches)) seen targets) more → Members (InLower (StepsOf b labels) v (level + 1)) more
  bodies_more {targets} i M R = record { exactly = λ w h. (λ g. to w h ((R.exactly w h).0 g), λ g. (R.exactly w h).1 (from w h g)) }
    where
      to : (w : ℕ) → w < 128 → InOrFrom (Avoid v (Leads branches)) seen targets w → InLower (StepsOf b labels) v (level + 1) w
      to w h (inl g) = let (m, o, k, p) = (T.bodies.exactly w h).0 g in (m, o, omega arith, p)
      to w h (inr (u, g, p)) =
          let s = (M.exactly u g.below).0 g in
          (level, T.is_loop i, omega arith, (body_iff w).1 (u, s, star_map (λ x y (n, e). (n, leads_branch W B x y e)) p))

      from : (w : ℕ) → w < 128 → InLower (StepsOf b labels) v (level + 1) w → InOrFrom (Avoid v (Leads branches)) seen targets w
      from w h (m, o, k, p) = by_cases (dec_lt m level) (λ q. inl ((T.bodies.exactly w h).1 (m, o, q, p))) (λ q.
          let e : m ≡ level = omega arith in
          let (u, s, r) = (body_iff w).0 (subst (λ (x : ℕ). InBody (StepsOf b labels) v x w) e p) in
          inr (u, (M.exactly u (step_low W s).1).1 s, star_map (λ x y (n, t). (n, branch_leads W B x y t)) r))

module _ {b labels branches after entries low high : List ℕ} (W : WellFormed b) (T : Tables b labels branches after entries low high)
    {v : ℕ} (at : v < 128) {back : Set} (R : Members (Returning after v (row_of entries v)) back) {level : ℕ} {seen : Set}
    (U : VertexTo (StepsOf b labels) v level seen) where
  pub loop_given : {targets r more : Set} → level < 256 → Members (StepsOf b labels v level) targets → Intersection targets back r
      → Members (InOrFrom (Avoid v (Leads branches)) seen targets) more → LoopGiven b labels high v level r more
  loop_given i M I F = record {
    formed = W;
    of_levels = T.of_levels;
    returns = loop_returns W T at R U.low M I;
    tells = loop_tells U (bodies_more W T.of_branches U i M F) i;
  }

pub vertex_end : {b labels : List ℕ} {v level : ℕ} {seen : Set} → WellFormed b → Bytes labels
    → VertexTo (StepsOf b labels) v level seen → 256 ≤ level → VertexSaid (StepsOf b labels) v (Ok tt)
vertex_end {b} {labels} W B T h m o = T.passed m (omega (arith, (loop_below b labels W B o).1)) o

-- ALL LOOPS, by vertex: those of the lower vertices pass
abbrev LoopsTo : Steps → ℕ → Type 0
LoopsTo S v = (w m : ℕ) → w < v → Loop S w m → LoopPasses S w m

-- those of the vertices that have been given
abbrev pub GivenPass : Steps → List ℕ → Type 0
GivenPass S us = (w m : ℕ) → Memᴰ w us → Loop S w m → LoopPasses S w m

-- entries lead to vertices
pub entries_low : {b labels entries : List ℕ} (v : ℕ) {w : ℕ} → WellFormed b → TableOf
    (Entry (StepsOf b labels)) entries → HasRow entries v w
    → w < vertices_of b
entries_low {b} {labels} v W T h = let (l, a, s) = (T.exactly _ _ h.below).0 h in (steps_formed b labels W).to_vertex _ _ _ s

-- at first all that have a loop are left
module _ {b labels branches after entries low high : List ℕ} (W : WellFormed b) (B : Bytes labels)
    (T : Tables b labels branches after entries low high) where
  pub has_loop : {s : Set} {w m : ℕ} → s ≡ row_of high 1 → Loop (StepsOf b labels) w m → Has s w
  has_loop {w = w} {m} e o =
      rw e ((T.of_levels.exactly 1 w (omega (arith, (loop_below b labels W B o).0, W.header.vertices_high))).1 (m, o, omega (arith, o.0)))

  -- and each has a lowest level
  pub level_low : {s : Set} {v : ℕ} → s ≡ row_of high 1 → Has s v → get_or low v 0 < 256
  level_low {s} {v} e h =
      let (m, o, g) = (T.of_levels.exactly 1 v h.below).0 (rw e at h) in
      by_cases (dec_lt (get_or low v 0) 256) (λ k. k)
      (λ k. absurd ((T.of_low.each v m o).before m (omega arith) (omega (arith, (loop_below b labels W B o).1)) o))

module _ {S : Steps} {us : List ℕ} (v : ℕ) (P : GivenPass S us) where
  pub past_more : {s : Result Unit Refusal} → s ≡ Ok tt → VertexSaid S v s → GivenPass S (us ++ v ∷ [])
  past_more e f w m n o =
      let p : VertexSaid S v (Ok tt) = rw e at f in
      ⊎_elim (λ g. P w m g o) (λ q. subst (λ (x : ℕ). LoopPasses S x m) (sym q) (p m (subst (λ (x : ℕ). Loop S x m) q o))) (one_more n)

  -- those that have a loop are the members of a set, and the ones below v have been given
  pub past_stop : {set : Set} {s : Result Unit Refusal} {p : Refusal} → ((w m : ℕ) → Loop S w m → Has set w)
      → ((k : ℕ) → Memᴰ k us ↔ (Has set k × (k < v))) → s ≡ Err p → VertexSaid S v s → LoopsSaid S s
  past_stop all below e f = rw e (stop (rw e at f))
    where
      lower : LoopsTo S v
      lower w m h o = P w m ((below w).1 (all w m o, h)) o

      stop : {p : Refusal} → VertexSaid S v (Err p) → LoopsSaid S (Err p)
      stop (l, o, low, f) = (
        v,
        l,
        o,
        λ w m e q. ⊎_elim (λ h. lower w m h q)
            (λ (z, h). subst (λ (x : ℕ). LoopPasses S x m) (sym z) (low m h (subst (λ (x : ℕ). Loop S x m) z q))) e,
        f,
      )

pub past_end : {S : Steps} {set : Set} {us : List ℕ} → ((w m : ℕ) → Loop S w m → Has set w) → members_of set ≡ us → GivenPass S us
    → LoopsSaid S (Ok tt)
past_end {set = set} all e P w m o = P w m (subst (Memᴰ w) e (member_listed set w (all w m o))) o
