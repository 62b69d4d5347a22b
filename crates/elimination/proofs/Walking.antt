-- The walk through the chart of a loop: what holds of it at each step, and what it has found at its end.
use Prim.Native.Nat.{ℕ, zero, suc, ◌+◌, ◌*◌, ◌-◌, ◌≤◌, ◌<◌}
use mathlib.Core.Path.{◌≡◌, refl, sym, ◌∙◌, subst}
use mathlib.Core.Logic.Iff
use mathlib.Core.HLevel.{⊥_prop}
use mathlib.Core.Logic.{◌≢◌, ◌⊎◌, inl, inr, ⊎_elim, ◌↔◌, by_cases, ∥∥₁_elim, ∥∥₁_map}
use mathlib.Core.Bool.{Bool, true}
use mathlib.Core.List.{List}
use native.Mathlib.Decide.{ℕ_discrete}
use native.Mathlib.Omega.{arith}
use lib.ListN.{length, get_or, set, length-set}
use lib.Seq.{get_or-set_same, get_or-set_other}
use Rattle.theory.specs.Paths.{Edges, Star, here, step, Plus, Endless, Avoid}
use Rattle.theory.specs.LoopCharts.{Reached, Stray}
use Rattle.theory.proofs.Paths.{star_then, star_snoc, endless_from, cycle_endless, stretch}
use Rattle.theory.specs.Tests.{Decides}
use Rattle.theory.proofs.Search.{pigeonhole}
use Rattle.bits.specs.declared.sets.Set.{Set}
use Rattle.bits.specs.First.{First}
use Rattle.bits.specs.Sets.{Has, Empty, Members, Union, Intersection, size_of}
use Rattle.bits.specs.Tables.{row_of, HasRow, put_row}
use Rattle.bits.proofs.Members.{has?, size_lt}
use Rattle.bits.proofs.Gains.{put_long, put_here, put_other}
use Rattle.reach.proofs.Searches.{some_member}
use Rattle.elimination.specs.declared.walk.Stops.{Stops}
use Rattle.elimination.specs.declared.walk.Found.{Found}
use Rattle.chart.specs.Bodies.{count_of, from_of, to_of}
use Rattle.chart.specs.Steps.{Kept}
use Rattle.theory.proofs.Tests.{decided, decides_same, decides_and, decides_eqb, decides_below}
use Rattle.std.specs.Prelude.{Option, Some, None}
use Rattle.elimination.specs.Walks.{Meets, RowsOf, Onward, Settled, Alone, StopsAt, same, apart, fresh, Walked, FoundIn, aside, whole}

-- where one more is past and the path is one shorter, less is left to do
pub shorter_less : {s t d : ℕ} → s < t → t ≤ 128 → 0 < d → d ≤ 129 → 130 * (128 - t) + (129 - (d - 1)) < 130 * (128 - s) + (129 - d)
shorter_less a b c e = omega (arith, a, b, c, e)

-- sets that meet
pub meet_none : {s t both : Set} → Intersection s t both → Empty both → ¬ Meets s t
meet_none N e (x, g, h) = e x ((N x).1 (g, h))

pub meet_some : {s t both : Set} → Intersection s t both → ¬ Empty both → Meets s t
meet_some N n = let (x, b) = some_member _ n in let (g, h) = (N x).0 b in (x, g, h)

-- ANOTHER SET COMES INTO THE TABLE, and those that were there stay
pub rows_more : {E : Edges} {read read' r : Set} {a : List ℕ} {w : ℕ} → RowsOf E read a → w < 128 → Members (E w) r
    → ((y : ℕ) → Has read' y ↔ (Has read y ⊎ (y ≡ w))) → RowsOf E read' (put_row a w r)
rows_more {E} {r = r} {a} {w} R l M W = record {
  long = put_long a w r ∙ R.long;
  exactly = λ x y g k. by_cases (ℕ_discrete x w)
      (λ z. subst (λ (u : ℕ). HasRow (put_row a w r) u y ↔ E u y) (sym z) (here_row y k))
      (λ n. rw (put_other a w r x n) (R.exactly x y (⊎_elim (λ p. p) (λ p. absurd (n p)) ((W x).0 g)) k));
}
  where
    here_row : (y : ℕ) → y < 128 → HasRow (put_row a w r) w y ↔ E w y
    here_row y k = let e = put_here a w r (omega (arith, R.long, l)) in
        ((λ g. (M.exactly y k).0 (rw e at g)), (λ g. rw e ((M.exactly y k).1 g)))

-- what a struct of the code keeps says only that it holds; since what stands is decided, it is had again
shown : {P : Type 0} → Dec P → ∥ P ∥₁ → P
shown (yes p) t = p
shown (no n) t = absurd (∥∥₁_elim t ⊥_prop n)

kept? : (b keep : List ℕ) (u w : ℕ) → Dec (Kept b keep u w)
kept? b keep u w = decided (decides_same (
  (λ (i, h, (p, (q, r))). record { at = i; within = h; leaves = p; enters = q; holds = record { is = r } }),
  (λ k. (k.at, k.within, (k.leaves, (k.enters, k.holds.is)))),
) (decides_below (λ i. decides_and (decides_eqb (from_of b i) u) (decides_and (decides_eqb (to_of b i) w) (decides_eqb (get_or keep i 0) 1))) (count_of b)))

pub row_members : {b keep a : List ℕ} {read : Set} {w : ℕ} → ∥ RowsOf (Kept b keep) read a ∥₁ → Has read w
    → Members (Kept b keep w) (row_of a w)
row_members {b} {keep} {a} {w = w} t g = record {
  exactly = λ y l. (
    (λ h. shown (kept? b keep w y) (∥∥₁_map t (λ R. (R.exactly w y g l).0 h))),
    (λ k. shown (has? (row_of a w) y) (∥∥₁_map t (λ R. (R.exactly w y g l).1 k))),
  );
}

module _ {E : Edges} {before : Stops} (S : Settled E before) where
  -- the vertex where walks stop leads to itself
  pub own_back : {x : ℕ} → Has before.past x → x ≡ before.at → Has before.back x
  own_back p e = (S.leads_back _ p).1 (rw e here)

  -- what does not lead to it leads to nothing that does
  rest_closed : (x y : ℕ) → Has before.past x → ¬ Has before.back x → E x y → Has before.past y × (¬ Has before.back y)
  rest_closed x y p n e =
      let off : x ≢ before.at = λ z. n (own_back p z) in
      let q : Has before.past y = S.closed x y p off e in
      (q, λ k. n ((S.leads_back x p).1 (step (off, e) ((S.leads_back y q).0 k))))

-- WHAT IS SETTLED where walks stop: at first nothing but that vertex, and what stays when walks stop elsewhere
module _ {E : Edges} where
  -- what lies past is the vertex itself, or was past and leads to none that leads back
  pub settled_fresh : {v : ℕ} {s : Stops} → Alone v s → Settled E s
  settled_fresh {v} {s} A = record {
    stop = (A.past s.at).1 A.at;
    gone = λ x h n. absurd (n ((A.past x).0 h ∙ sym A.at));
    closed = λ x y h n. absurd (n ((A.past x).0 h ∙ sym A.at));
    back_past = λ x h. (A.past x).1 ((A.back x).0 h);
    leads_back = λ x h. let e = (A.past x).0 h in ((λ k. rw (e ∙ sym A.at) here), (λ p. (A.back x).1 e));
  }

  module _ {before : Stops} (S : Settled E before) where
    pub settled_at : {v : ℕ} {s : Stops} → StopsAt v before s → Settled E s
    settled_at (same e p) = rw p S
    settled_at (fresh A) = settled_fresh A
    settled_at {v} {s} (apart e out P K) = record {
      stop = (P s.at).1 (inr e);
      gone = λ x h n p. S.gone x (rest x h n).0 (off x h n) (keeps x h n p);
      closed = λ x y h n g. (P y).1 (inl (rest_closed S x y (rest x h n).0 (rest x h n).1 g));
      back_past = λ x h. (P x).1 (inr ((K x).0 h));
      leads_back = λ x h. (
        (λ k. rw ((K x).0 k ∙ sym e) here),
        (λ p. by_cases (ℕ_discrete x s.at) (λ z. (K x).1 (z ∙ e)) (λ n. absurd (never x p (rest x h n)))),
      );
    }
      where
        rest : (x : ℕ) → Has s.past x → x ≢ s.at → Has before.past x × (¬ Has before.back x)
        rest x h n = ⊎_elim (λ p. p) (λ z. absurd (n (z ∙ sym e))) ((P x).0 h)

        off : (x : ℕ) → Has s.past x → x ≢ s.at → x ≢ before.at
        off x h n z = (rest x h n).1 (own_back S (rest x h n).0 z)

        -- no path from the rest comes to v
        never : (x : ℕ) → Star (Avoid s.at E) x s.at → ¬ (Has before.past x × (¬ Has before.back x))
        never x here q = out (rw e at q)
        never x (step (n, g) p) q = never _ p (rest_closed S x _ q.0 q.1 g)

        stays : (x : ℕ) (p : Endless (Avoid s.at E) x) → Has before.past x × (¬ Has before.back x) → (k : ℕ)
            → Has before.past (p.at k) × (¬ Has before.back (p.at k))
        stays x p q zero = rw p.first q
        stays x p q (suc k) = let (a, b) = stays x p q k in rest_closed S _ _ a b (p.next k).1

        keeps : (x : ℕ) → Has s.past x → x ≢ s.at → Endless (Avoid s.at E) x → Endless (Avoid before.at E) x
        keeps x h n p = record {
          at = p.at;
          first = p.first;
          next = λ k. let (a, b) = stays x p (rest x h n) k in ((λ z. b (own_back S a z)), (p.next k).1);
        }

-- a walk has found nothing, or something
pub none_found : {Entry : ℕ → Type 0} {Other : Edges} {before : Stops} {o : Option Found} → FoundIn Entry Other before o
    → ((found : Found) → o ≢ Some found) → Stray before.at Entry Other
none_found (aside s) n = s
none_found (whole W) n = absurd (n _ refl)

pub walked_of : {Entry : ℕ → Type 0} {Other : Edges} {before : Stops} {found : Found} → FoundIn Entry Other before (Some found)
    → Walked Entry Other before found
walked_of (whole W) = W

-- where walks stop, with what is past now
abbrev pub stops_now : Stops → Set → Set → Stops
stops_now s past back = record { at = s.at; past = past; back = back }

-- WHAT HOLDS AT EACH STEP of the walk, on a path of `depth` vertices none of which is past: it goes along E; from no
-- vertex that is past a path goes on for ever that does not leave v, and what it leads to is past too; the path is in the
-- body, and so is what its vertices and those that came to be past lead to
pub record Walking (E : Edges) (first : Stops) (targets read past back body : Set) (path : List ℕ) (depth : ℕ) : Type 0 where
  pub long : length path ≡ 130
  pub deep : depth ≤ 129
  pub settled : Settled E (stops_now first past back)
  pub on : (i : ℕ) → 0 < i → i ≤ depth → Has read (get_or path i 0)
  pub not_past : (i : ℕ) → 0 < i → i ≤ depth → ¬ Has past (get_or path i 0)
  pub leads : (i : ℕ) → 0 < i → i < depth → E (get_or path i 0) (get_or path (suc i) 0)
  pub begun : (x : ℕ) → Has targets x → Has body x
  pub on_body : (i : ℕ) → 0 < i → i ≤ depth → Has body (get_or path i 0)
  pub on_seen : (i y : ℕ) → 0 < i → i ≤ depth → E (get_or path i 0) y → Has body y
  pub past_seen : (x y : ℕ) → Has past x → ¬ Has first.past x → E x y → Has body y
  pub grown : (x : ℕ) → Has past x → Has first.past x ⊎ Has body x
  pub sound : (x : ℕ) → Has body x → Reached first.at (Has targets) E x

-- no infinite path begins where walks stop
not_stop : {E : Edges} {v w : ℕ} → w ≡ v → ¬ Endless (Avoid v E) w
not_stop e p = (p.next 0).0 (subst (λ (x : ℕ). p.at 0 ≡ x) e p.first)

module _ {E : Edges} (low : (x y : ℕ) → E x y → y < 128) {first : Stops} {targets : Set} where
  pub walking_none : {path : List ℕ} {read : Set} → length path ≡ 130 → Settled E first
      → Walking E first targets read first.past first.back targets path 0
  walking_none m S = record {
    long = m;
    deep = omega arith;
    settled = S;
    on = λ i p q. absurd (omega (arith, p, q));
    not_past = λ i p q. absurd (omega (arith, p, q));
    leads = λ i p q. absurd (omega (arith, q));
    begun = λ x h. h;
    on_body = λ i p q. absurd (omega (arith, p, q));
    on_seen = λ i y p q. absurd (omega (arith, p, q));
    past_seen = λ x y h n. absurd (n h);
    grown = λ x h. inl h;
    sound = λ x h. (x, h, here);
  }

  module _ {path : List ℕ} {read past back body : Set} {depth : ℕ} (I : Walking E first targets read past back body path depth)
      {r : Set} (M : Members (Onward E path depth targets past) r) {w : ℕ} (F : First (Has r) 0 128 w) where
    -- FORWARD to w, which is read
    module _ (h : depth < 129) (l : w < 128) {read' q body' : Set} (W : (y : ℕ) → Has read' y ↔ (Has read y ⊎ (y ≡ w)))
        (Q : Members (E w) q) (U : Union body q body') where
      o : Onward E path depth targets past w
      o = (M.exactly w l).0 (F.holds l)

      more : (y : ℕ) → Has body y → Has body' y
      more y g = (U y).1 (inl g)

      -- what w leads to
      row_of_lem : (y : ℕ) → Has q y ↔ E w y
      row_of_lem y = ((λ g. (Q.exactly y g.below).0 g), (λ g. (Q.exactly y (low w y g)).1 g))

      follows : 0 < depth → E (get_or path depth 0) w
      follows d = o.follows d

      in_body : Has body w
      in_body =
          by_cases (ℕ_discrete depth 0) (λ z. I.begun w (o.first z))
          (λ n. let d : 0 < depth = omega (arith, n) in I.on_seen depth w d (omega arith) (follows d))

      top : (i : ℕ) → i ≡ depth + 1 → get_or (set path (depth + 1) w) i 0 ≡ w
      top i z = rw z (get_or-set_same path (depth + 1) w 0 (omega (arith, I.long, h)))

      under : (i : ℕ) → i ≢ depth + 1 → get_or (set path (depth + 1) w) i 0 ≡ get_or path i 0
      under i n = get_or-set_other path (depth + 1) i w 0 n

      pub walking_on : Walking E first targets read' past back body' (set path (depth + 1) w) (depth + 1)
      walking_on = record {
        long = length-set path (depth + 1) w ∙ I.long;
        deep = omega (arith, h);
        settled = I.settled;
        on =
            λ i p k. (W _).1 (by_cases (ℕ_discrete i (depth + 1)) (λ z. inr (top i z))
            (λ n. inl (rw (under i n) (I.on i p (omega (arith, k, n))))));
        not_past =
            λ i p k. by_cases (ℕ_discrete i (depth + 1)) (λ z. rw (top i z) o.left)
            (λ n. rw (under i n) (I.not_past i p (omega (arith, k, n))));
        leads = λ i p k. by_cases (ℕ_discrete i depth)
            (λ z. rw (under i (omega (arith, k)), top (suc i) (omega (arith, z)), z) (follows (omega (arith, p, z))))
            (λ n. rw (under i (λ z. omega (arith, k, z)), under (suc i) (λ z. n (omega (arith, z)))) (I.leads i p (omega (arith, k, n))));
        begun = λ x g. more x (I.begun x g);
        on_body =
            λ i p k. more _ (by_cases (ℕ_discrete i (depth + 1)) (λ z. rw (top i z) in_body)
            (λ n. rw (under i n) (I.on_body i p (omega (arith, k, n)))));
        on_seen = λ i y p k g. by_cases (ℕ_discrete i (depth + 1))
            (λ z. (U y).1 (inr ((row_of_lem y).1 (rw (top i z) at g))))
            (λ n. more y (I.on_seen i y p (omega (arith, k, n)) (rw (under i n) at g)));
        past_seen = λ x y g n k. more y (I.past_seen x y g n k);
        grown = λ x g. ⊎_elim inl (λ k. inr (more x k)) (I.grown x g);
        sound =
            λ x g. ⊎_elim (I.sound x) (λ k. let (u, t, p) = I.sound w in_body in
            (u, t, star_snoc p ((λ z. o.left (subst (Has past) (sym z) I.settled.stop)), (row_of_lem x).0 k))) ((U x).0 g);
      }

    -- nothing goes on
    module _ (over : 128 ≤ w) where
      ended : (y : ℕ) → y < 128 → ¬ Onward E path depth targets past y
      ended y l g = F.before y (omega arith) (omega (arith, l, over)) ((M.exactly y l).1 g)

      -- BACK by one vertex, which is past from now on
      module _ (d : 0 < depth) {past' back' q both : Set} {flag : Bool} (Q : Members (E (get_or path depth 0)) q)
          (N : Intersection q back both) (D : Decides flag (¬ Empty both))
          (K : (y : ℕ) → Has back' y ↔ (Has back y ⊎ ((flag ≡ true) × (y ≡ get_or path depth 0))))
          (W : (y : ℕ) → Has past' y ↔ (Has past y ⊎ (y ≡ get_or path depth 0))) where
        last_leads : (y : ℕ) → E (get_or path depth 0) y → Has past y
        last_leads y g = by_cases (has? past y) (λ p. p) (λ n. absurd (ended y (low _ y g) (record {
          left = n;
          first = λ z. absurd (omega (arith, d, z));
          follows = λ p. g;
        })))

        off : get_or path depth 0 ≢ first.at
        off z = I.not_past depth d (omega arith) (subst (Has past) (sym z) I.settled.stop)

        last_ends : ¬ Endless (Avoid first.at E) (get_or path depth 0)
        last_ends p =
            let s : Avoid first.at E (get_or path depth 0) (p.at 1) = subst (λ (x : ℕ). Avoid first.at E x (p.at 1)) p.first (p.next 0) in
            by_cases (ℕ_discrete (p.at 1) first.at) (λ z. not_stop z (endless_from p 1))
            (λ n. I.settled.gone (p.at 1) (last_leads _ s.1) n (endless_from p 1))

        still : (i : ℕ) → 0 < i → i < depth → get_or path i 0 ≢ get_or path depth 0
        still i p k z = I.not_past (suc i) (omega arith) k (last_leads _ (subst (λ (x : ℕ). E x (get_or path (suc i) 0)) z (I.leads i p k)))

        -- it leads back to where walks stop exactly when something of `back` follows it
        last_back : Has back' (get_or path depth 0) ↔ Star (Avoid first.at E) (get_or path depth 0) first.at
        last_back = (
          (λ k. ⊎_elim (λ b. absurd (I.not_past depth d (omega arith) (I.settled.back_past _ b)))
              (λ (t, z). let (y, b) = some_member both (D.0 t) in let (g, h) = (N y).0 b in
              step (off, (Q.exactly y g.below).0 g)
              ((I.settled.leads_back y (I.settled.back_past y h)).0 h)) ((K _).0 k)),
          (λ s. (K _).1 (inr (D.1 (meets s), refl))),
        )
          where
            from : {x : ℕ} → x ≡ get_or path depth 0 → Star (Avoid first.at E) x first.at → (y : ℕ) × E (get_or path depth 0) y × Star (Avoid first.at E) y first.at
            from z here = absurd (off (sym z))
            from z (step {w = y} (n, g) s) = (y, subst (λ (x : ℕ). E x y) z g, s)

            meets : Star (Avoid first.at E) (get_or path depth 0) first.at → ¬ Empty both
            meets s m = let (y, g, t) = from refl s in
                m y ((N y).1
                ((Q.exactly y (low _ y g)).1 g, (I.settled.leads_back y (last_leads y g)).1 t))

        old_back : (x : ℕ) → Has past x → Has back' x ↔ Has back x
        old_back x p = (
          (λ k. ⊎_elim (λ b. b) (λ (t, z). absurd (I.not_past depth d (omega arith) (subst (Has past) z p))) ((K x).0 k)),
          (λ b. (K x).1 (inl b)),
        )

        last_settled : Settled E (stops_now first past' back')
        last_settled = record {
          stop = (W first.at).1 (inl I.settled.stop);
          gone =
              λ x g n. ⊎_elim (λ p. I.settled.gone x p n) (λ z. subst (λ (u : ℕ). ¬ Endless (Avoid first.at E) u) (sym z) last_ends) ((W x).0 g);
          closed =
              λ x y g n k. (W y).1
              (inl (⊎_elim (λ p. I.settled.closed x y p n k) (λ z. last_leads y (subst (λ (u : ℕ). E u y) z k)) ((W x).0 g)));
          back_past = λ x k. (W x).1 (⊎_elim (λ b. inl (I.settled.back_past x b)) (λ (t, z). inr z) ((K x).0 k));
          leads_back = λ x g. ⊎_elim (λ p. Iff.trans (old_back x p) (I.settled.leads_back x p))
              (λ z. subst (λ (u : ℕ). Has back' u ↔ Star (Avoid first.at E) u first.at) (sym z) last_back) ((W x).0 g);
        }

        pub walking_back : Walking E first targets read past' back' body path (depth - 1)
        walking_back = record {
          long = I.long;
          deep = omega (arith, I.deep);
          settled = last_settled;
          on = λ i p k. I.on i p (omega (arith, k));
          not_past = λ i p k g. ⊎_elim (I.not_past i p (omega (arith, k))) (still i p (omega (arith, k, d))) ((W _).0 g);
          leads = λ i p k. I.leads i p (omega (arith, k));
          begun = I.begun;
          on_body = λ i p k. I.on_body i p (omega (arith, k));
          on_seen = λ i y p k. I.on_seen i y p (omega (arith, k));
          past_seen =
              λ x y g n k. ⊎_elim (λ p. I.past_seen x y p n k)
              (λ z. I.on_seen depth y d (omega arith) (subst (λ (u : ℕ). E u y) z k)) ((W x).0 g);
          grown = λ x g. ⊎_elim (I.grown x) (λ z. inr (subst (Has body) (sym z) (I.on_body depth d (omega arith)))) ((W x).0 g);
          sound = I.sound;
        }

        pub walking_more : size_of past < size_of past'
        walking_more =
            size_lt past past' (get_or path depth 0) (λ y g. (W y).1 (inl g)) ((W _).1 (inr refl)) (I.not_past depth d (omega arith))

      -- THE END: all that the entries reach is past, and in the body or was past at first; no cycle stands aside
      pub walking_ended : Settled E first → depth ≡ 0
          → FoundIn (Has targets) E first (Some (record { body = body; stops = stops_now first past back }))
      walking_ended S z = whole (record {
        same = refl;
        none = λ (x, n, p, c). I.settled.gone x (both p).0 n (cycle_endless c);
        sound = I.sound;
        all = λ y p. (both p).1;
        returns = (
          (λ (x, b, k). let (u, t, p) = I.sound x b in (u, t, star_then p ((I.settled.leads_back x (I.settled.back_past x k)).0 k))),
          (λ (u, t, p). (u, I.begun u t, (I.settled.leads_back u (first_past u t)).1 p)),
        );
        settled = I.settled;
        grown = I.grown;
      })
        where
          first_past : (u : ℕ) → Has targets u → Has past u
          first_past u g =
              by_cases (has? past u) (λ p. p)
              (λ n. absurd (ended u g.below (record { left = n; first = λ e. g; follows = λ d. absurd (omega (arith, z, d)) })))

          along : {u y : ℕ} → Star (Avoid first.at E) u y → Has past u × (Has body u ⊎ Has first.past u) → Has past y × (Has body y ⊎ Has first.past y)
          along here p = p
          along {u} (step {w = x} (n, f) s) (p, g) = along s (
            I.settled.closed u x p n f,
            by_cases (has? first.past u) (λ h. inr (S.closed u x h n f)) (λ h. inl (I.past_seen u x p h f)),
          )

          both : {y : ℕ} → Reached first.at (Has targets) E y → Has past y × (Has body y ⊎ Has first.past y)
          both (u, t, s) = along s (first_past u t, inl (I.begun u t))

  -- A LONG PATH has a vertex twice: a cycle aside
  pub walking_long : {path : List ℕ} {read past back body : Set} {depth : ℕ}
      → Walking E first targets read past back body path depth → 129 ≤ depth → FoundIn (Has targets) E first None
  walking_long {path = path} {past = past} {depth = depth} I deep =
      aside (go (pigeonhole 128 at (λ i h. (I.on (suc i) (omega arith) (omega (arith, h, deep))).below)))
    where
      at : ℕ → ℕ
      at i = get_or path (suc i) 0

      apart : (i : ℕ) → i ≤ 128 → at i ≢ first.at
      apart i h z = I.not_past (suc i) (omega arith) (omega (arith, h, deep)) (subst (Has past) (sym z) I.settled.stop)

      along : (k : ℕ) → k < 128 → Avoid first.at E (at k) (at (suc k))
      along k h = (apart k (omega (arith, h)), I.leads (suc k) (omega arith) (omega (arith, h, deep)))

      go : (i j : ℕ) × (i < j) × (j ≤ 128) × (at i ≡ at j) → Stray first.at (Has targets) E
      go (i, j, l, m, z) =
          let c = stretch {E = Avoid first.at E} at i j l (λ k p q. along k (omega (arith, q, m))) in (
            at i,
            apart i (omega (arith, l, m)),
            I.sound (at i) (I.on_body (suc i) (omega arith) (omega (arith, l, m, deep))),
            subst (λ (x : ℕ). Plus (Avoid first.at E) (at i) x) (sym z) c,
          )
