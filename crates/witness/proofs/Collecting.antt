-- The tables, collected vertex by vertex: one run of transitions more of a vertex, and one vertex more in the tables.
use mathlib.Core.Path.{◌≡◌, refl, sym, ◌∙◌, subst}
use mathlib.Core.Logic.{◌≢◌, ◌⊎◌, inl, inr, ⊎_elim, by_cases, ◌↔◌}
use mathlib.Core.List.{List}
use Prim.Native.Nat.{ℕ, ◌+◌, ◌*◌, ◌≤◌, ◌<◌}
use native.Mathlib.Decide.{ℕ_discrete}
use native.Mathlib.Omega.{arith}
use lib.ListN.{get_or, length, replicate, length-replicate}
use Rattle.bits.specs.declared.sets.Set.{Set}
use Rattle.bits.specs.Bits.{Bytes, HighestByte}
use Rattle.bits.specs.Sets.{empty_set, Members, Union}
use Rattle.bits.specs.Tables.{HasRow, put_row, TableOf, Gains, When}
use Rattle.bits.proofs.Members.{⊎_map, none}
use Rattle.bits.proofs.Gains.{put_long, put_here, put_other, gains_as, gains_then, blank_table, table_of_as, table_of_gains}
use Rattle.theory.specs.Charts.{Steps, Any, Branch}
use Rattle.chart.specs.Bodies.{vertices_of, count_of, from_of, to_of, WellFormed}
use Rattle.chart.specs.Leaving.{Begins}
use Rattle.chart.specs.Steps.{StepsOf}
use Rattle.chart.proofs.Order.{begin_high}
use Rattle.chart.proofs.Relations.{steps_formed}
use Rattle.witness.specs.declared.tables.Taken.{Taken}
use Rattle.witness.specs.declared.tables.Outgoing.{Outgoing}
use Rattle.witness.specs.Given.{Entry, Enters, EntersFrom, NoSteps, FirstOf, OutgoingOf, Collected, Room, LevelsFit}
use Rattle.witness.specs.Given.{IsBranch, IsEntry, RunLeads, Took, LevelsOf}
use Rattle.witness.proofs.Seen.{Seen, seen_none, seen_first, seen_either, leaves_v, seen_step, step_seen, before, new, cases}

-- THE TRANSITIONS OF ONE VERTEX
-- none
pub outgoing_none : {b labels : List ℕ} {lo u : ℕ} {s t : Set} → s ≡ empty_set → t ≡ empty_set
    → OutgoingOf (Seen b labels lo lo) u (record { branches = s; entries = t })
outgoing_none e f = record {
  of_branches = record { exactly = λ w h. (λ g. absurd (none w (rw e at g)), λ o. absurd (seen_none o)) };
  of_entries = record { exactly = λ w h. (λ g. absurd (none w (rw f at g)), λ (l, a, o). absurd (seen_none o)) };
}

-- a run of transitions of u comes to those from lo on
module _ {b labels : List ℕ} {lo i e u : ℕ} (low : lo ≤ i) (within : e ≤ count_of b)
    (leaves : (j : ℕ) → i ≤ j → j < e → u ≡ from_of b j) where
  module _ {P : ℕ → Type 0} {q : Set} {r : Taken} (T : Took b P i e q r) where
    sooner : {x l w : ℕ} → Seen b labels lo i x l w → Seen b labels lo r.at x l w
    sooner = seen_first low T.from

    either : {x l w : ℕ} → Seen b labels lo r.at x l w → Seen b labels lo i x l w ⊎ Seen b labels i r.at x l w
    either = seen_either low T.from

    of_run : {x l w : ℕ} (j : ℕ) → i ≤ j → j < r.at → x ≡ u → get_or labels j 0 ≡ l → to_of b j ≡ w → Seen b labels lo r.at x l w
    of_run j p h x el et = record {
      at = j;
      within = omega (arith, within, h, T.to);
      leaves = sym (leaves j p (omega (arith, h, T.to))) ∙ sym x;
      enters = et;
      holds = record { from = omega (arith, low, p); below = h; is = el };
    }

    target : {x l w : ℕ} → Seen b labels i r.at x l w → RunLeads b i r.at w
    target o = (o.at, o.holds.from, o.holds.below, o.enters)

    its : {x l w : ℕ} (o : Seen b labels i r.at x l w) → P o.at
    its o = T.each o.at o.holds.from o.holds.below

  -- branches: they come to the branches of u, and nothing to its entries
  module _ {s : Set} {r : Taken} (T : Took b (IsBranch labels) i e s r) where
    no_entry : {x l w : ℕ} → 0 < l → ¬ Seen b labels i r.at x l w
    no_entry a o = omega (arith, its T o, o.holds.is, a)

    branches_more : {t : Set} → OutgoingOf (Seen b labels lo i) u (record { branches = s; entries = t })
        → OutgoingOf (Seen b labels lo r.at) u (record { branches = r.set; entries = t })
    branches_more O = record {
      of_branches = record {
        exactly = λ w h. let M = O.of_branches.exactly w h in let W = T.targets.exactly w in (
          λ g. ⊎_elim (λ p. sooner T (M.0 p)) (λ (j, p, k, z). of_run T j p k refl (T.each j p k) z) (W.0 g),
          λ o. W.1 (⊎_map M.1 (target T) (either T o)),
        );
      };
      of_entries = record {
        exactly = λ w h. let M = O.of_entries.exactly w h in (
          λ g. let (l, a, o) = M.0 g in (l, a, sooner T o),
          λ (l, a, o). M.1 (⊎_elim (λ p. (l, a, p)) (λ p. absurd (no_entry a p)) (either T o)),
        );
      };
    }

    branches_enter : {a c : List ℕ} → Gains (Enters (Seen b labels lo i)) a c → Gains (Enters (Seen b labels lo r.at)) a c
    branches_enter = gains_as (λ l x h. (
      λ (p, w, o). (p, w, sooner T o),
      λ (p, w, o). ⊎_elim (λ k. (p, w, k)) (λ k. absurd (no_entry p k)) (either T o),
    ))

  -- entries: they come to the entries of u, and u comes into the sets of their levels
  module _ {t : Set} {r : Taken} (T : Took b (IsEntry labels) i e t r) where
    entries_more : {s : Set} → OutgoingOf (Seen b labels lo i) u (record { branches = s; entries = t })
        → OutgoingOf (Seen b labels lo r.at) u (record { branches = s; entries = r.set })
    entries_more O = record {
      of_branches = record {
        exactly = λ w h. let M = O.of_branches.exactly w h in (
          λ g. sooner T (M.0 g),
          λ o. M.1 (⊎_elim (λ p. p) (λ p. absurd (omega (arith, its T p, p.holds.is))) (either T o)),
        );
      };
      of_entries = record {
        exactly = λ w h. let M = O.of_entries.exactly w h in let W = T.targets.exactly w in (
          λ g. ⊎_elim
              (λ p. let (l, a, o) = M.0 p in (l, a, sooner T o))
              (λ (j, p, k, z). (get_or labels j 0, T.each j p k, of_run T j p k refl refl z))
              (W.0 g),
          λ (l, a, o). W.1 (⊎_map (λ p. M.1 (l, a, p)) (target T) (either T o)),
        );
      };
    }

    entries_enter : {a c d : List ℕ} → Gains (Enters (Seen b labels lo i)) a c → Gains (LevelsOf labels i r.at u) c d
        → Gains (Enters (Seen b labels lo r.at)) a d
    entries_enter G H = gains_then G H (λ l x h. (
      ⊎_elim
          (λ (p, w, o). (p, w, sooner T o))
          (λ (z, (j, p, k, el)). (omega (arith, T.each j p k, el), to_of b j, of_run T j p k z el refl)),
      λ (p, w, o). ⊎_map (λ k. (p, w, k)) level (either T o),
    ))
      where
        level : {x l w : ℕ} → Seen b labels i r.at x l w → LevelsOf labels i r.at u l x
        level o = (
          sym o.leaves ∙ sym (leaves o.at o.holds.from (omega (arith, o.holds.below, T.to))),
          (o.at, o.holds.from, o.holds.below, o.holds.is),
        )

-- one run of branches and one of entries more, up to where those of u end
module _ (labels : List ℕ) {b begins : List ℕ} (R : Begins b begins) {u : ℕ} (h : u < 128)
    {i : ℕ} {s t : Set} {q r : Taken} (low : get_or begins u 0 ≤ i)
    (T : Took b (IsBranch labels) i (get_or begins (u + 1) 0) s q) (U : Took b (IsEntry labels) q.at (get_or begins (u + 1) 0) t r) where
  leaves : (j : ℕ) → i ≤ j → j < get_or begins (u + 1) 0 → u ≡ from_of b j
  leaves j m = leaves_v R u h j (omega (arith, low, m))

  further : get_or begins u 0 ≤ q.at
  further = omega (arith, low, T.from)

  leave : (j : ℕ) → q.at ≤ j → j < get_or begins (u + 1) 0 → u ≡ from_of b j
  leave j m = leaves j (omega (arith, T.from, m))

  pub outgoing_more : OutgoingOf (Seen b labels (get_or begins u 0) i) u (record { branches = s; entries = t })
      → OutgoingOf (Seen b labels (get_or begins u 0) r.at) u (record { branches = q.set; entries = r.set })
  outgoing_more O = entries_more further (begin_high R u h) leave U (branches_more low (begin_high R u h) leaves T O)

  pub enters_more : {a c d : List ℕ} → Gains (Enters (Seen b labels (get_or begins u 0) i)) a c
      → Gains (LevelsOf labels q.at r.at u) c d → Gains (Enters (Seen b labels (get_or begins u 0) r.at)) a d
  enters_more G = entries_enter further (begin_high R u h) leave U (branches_enter low (begin_high R u h) leaves T G)

-- all
pub outgoing_all : {b begins : List ℕ} → Begins b begins → {u : ℕ} → u < 128 → {labels : List ℕ} {n : ℕ} {r : Outgoing} → n ≡ get_or begins (u + 1) 0
    → OutgoingOf (Seen b labels (get_or begins u 0) n) u r → OutgoingOf (StepsOf b labels) u r
outgoing_all R {u} low e O = record {
  of_branches = record {
    exactly = λ w h. let M = O.of_branches.exactly w h in
        (λ g. seen_step R u low e (M.0 g), λ o. M.1 (step_seen R u low e o));
  };
  of_entries = record {
    exactly = λ w h. let M = O.of_entries.exactly w h in
        (λ g. let (l, a, o) = M.0 g in (l, a, seen_step R u low e o), λ (l, a, o). M.1 (l, a, step_seen R u low e o));
  };
}

-- THE TABLES
-- the same transitions, said in another way
collected_as : {S T : Steps} {next branches entries entered : List ℕ} → ((u l w : ℕ) → S u l w ↔ T u l w)
    → Collected S next branches entries entered → Collected T next branches entries entered
collected_as f C = record {
  of_next = table_of_as (λ x y g. (λ (l, s). (l, (f x l y).0 s), λ (l, s). (l, (f x l y).1 s))) C.of_next;
  of_branches = table_of_as (λ x y g. f x 0 y) C.of_branches;
  of_entries = table_of_as (λ x y g. (λ (l, a, s). (l, a, (f x l y).0 s), λ (l, a, s). (l, a, (f x l y).1 s))) C.of_entries;
  of_entered = table_of_as (λ l x g. (λ (a, w, s). (a, w, (f x l w).0 s), λ (a, w, s). (a, w, (f x l w).1 s))) C.of_entered;
}

-- tables with nothing in them
collected_none : (n m : ℕ) → Collected NoSteps (replicate (2 * n) 0) (replicate (2 * n) 0) (replicate (2 * n) 0) (replicate (2 * m) 0)
collected_none n m = record {
  of_next = blank_table n (2 * n) refl (λ x y (l, e). e);
  of_branches = blank_table n (2 * n) refl (λ x y e. e);
  of_entries = blank_table n (2 * n) refl (λ x y (l, a, e). e);
  of_entered = blank_table m (2 * m) refl (λ x y (a, w, e). e);
}

-- the end has no transitions
pub collected_begin : {b labels next branches entries entered : List ℕ} → WellFormed b → Collected NoSteps next branches entries entered
    → Collected (FirstOf 1 (StepsOf b labels)) next branches entries entered
collected_begin {b} {labels} W =
    collected_as (λ u l w. (λ e. absurd e, λ (h, s). omega (arith, h, ((steps_formed b labels W).from_vertex u l w s).0)))

pub collected_all : {b labels next branches entries entered : List ℕ} → WellFormed b → {n : ℕ} → n ≡ vertices_of b
    → Collected (FirstOf n (StepsOf b labels)) next branches entries entered
    → Collected (StepsOf b labels) next branches entries entered
collected_all {b} {labels} W e = collected_as (λ u l w. (λ (h, s). s, λ s. (omega (arith, e, ((steps_formed b labels W).from_vertex u l w s).1), s)))

-- a set of a table has come to be another
put_table : {P Q : ℕ → ℕ → Type 0} {a r : List ℕ} {u : ℕ} {s : Set} → 2 * u + 2 ≤ length a → r ≡ put_row a u s → Members (Q u) s
    → ((x y : ℕ) → x ≢ u → P x y ↔ Q x y) → TableOf P a → TableOf Q r
put_table {P} {Q} {a} {r} {u} {s} h e M g T = subst (TableOf Q) (sym e) (record {
  whole = (T.whole.0, put_long a u s ∙ T.whole.1);
  exactly = λ x y l. by_cases (ℕ_discrete x u)
      (λ z. subst (λ (v : ℕ). HasRow (put_row a u s) v y ↔ Q v y) (sym z) (rw (put_here a u s h) (M.exactly y l)))
      (λ n. let o = put_other a u s x n in let t = T.exactly x y l in
      (λ k. (g x y n).0 (t.0 (rw o at k)), λ q. rw o (t.1 ((g x y n).1 q))));
})

pub put_as_long : (a : List ℕ) {r : List ℕ} (u : ℕ) (s : Set) → r ≡ put_row a u s → length r ≡ length a
put_as_long a u s e = rw e (put_long a u s)

-- the transitions of u come to the tables of the vertices before it
module _ {S : Steps} {u : ℕ} {out : Outgoing} (R : OutgoingOf S u out) where
  other : {x l w : ℕ} → x ≢ u → FirstOf u S x l w ↔ FirstOf (u + 1) S x l w
  other n = (λ (g, s). (omega arith, s), λ (g, s). (omega arith, s))

  here : {l w : ℕ} → S u l w ↔ FirstOf (u + 1) S u l w
  here = (λ s. (omega arith, s), λ (g, s). s)

  either_step : {y : ℕ} → (Branch S u y ⊎ Entry S u y) ↔ Any (FirstOf (u + 1) S) u y
  either_step {y} = (
    ⊎_elim (λ s. (0, here.0 s)) (λ (l, a, s). (l, here.0 s)),
    λ (l, (g, s)). by_cases (ℕ_discrete l 0) (λ e. inl (subst (λ (k : ℕ). S u k y) e s)) (λ e. inr (l, omega arith, s)),
  )

  all_members : {both : Set} → Union out.branches out.entries both → Members (Any (FirstOf (u + 1) S) u) both
  all_members U = record {
    exactly = λ y l. let p = R.of_branches.exactly y l in let q = R.of_entries.exactly y l in (
      λ k. either_step.0 (⊎_map p.0 q.0 ((U y).0 k)),
      λ s. (U y).1 (⊎_map p.1 q.1 (either_step.1 s)),
    );
  }

  branch_members : Members (Branch (FirstOf (u + 1) S) u) out.branches
  branch_members = record { exactly = λ y l. let e = R.of_branches.exactly y l in (λ k. here.0 (e.0 k), λ s. e.1 (here.1 s)) }

  entry_members : Members (Entry (FirstOf (u + 1) S) u) out.entries
  entry_members = record {
    exactly = λ y l. let e = R.of_entries.exactly y l in
        (λ k. let (m, a, s) = e.0 k in (m, a, here.0 s), λ (m, a, s). e.1 (m, a, here.1 s));
  }

  entered_more : {a r : List ℕ} → ((l x w : ℕ) → S x l w → 2 * l + 2 ≤ length a) → TableOf (Enters (FirstOf u S)) a → Gains
      (EntersFrom u S) a r → TableOf (Enters (FirstOf (u + 1) S)) r
  entered_more fit T G = table_of_as (λ l x g. (
    ⊎_elim (λ (a, w, (k, s)). (a, w, (omega arith, s))) (λ (e, (a, w, s)). (a, w, (omega arith, s))),
    λ (a, w, (k, s)). by_cases (ℕ_discrete x u) (λ e. inr (e, (a, w, s))) (λ e. inl (a, w, (omega arith, s))),
  )) (table_of_gains T G (λ l x h (e, (a, w, s)). omega (arith, h, fit l x w s)))

  pub collected_more : {next branches entries entered next₁ branches₁ entries₁ entered₁ : List ℕ} {both : Set}
      → 2 * u + 2 ≤ length next → 2 * u + 2 ≤ length branches → 2 * u + 2 ≤ length entries
      → ((l x w : ℕ) → S x l w → 2 * l + 2 ≤ length entered) → Collected (FirstOf u S) next branches entries entered → Gains
      (EntersFrom u S) entered entered₁
      → Union out.branches out.entries both → next₁ ≡ put_row next u both
      → branches₁ ≡ put_row branches u out.branches → entries₁ ≡ put_row entries u out.entries
      → Collected (FirstOf (u + 1) S) next₁ branches₁ entries₁ entered₁
  collected_more h i j fit C G U N B E = record {
    of_next = put_table h N (all_members U) (λ x y n. (λ (l, s). (l, (other n).0 s), λ (l, s). (l, (other n).1 s))) C.of_next;
    of_branches = put_table i B branch_members (λ x y n. other n) C.of_branches;
    of_entries = put_table j E entry_members
        (λ x y n. (λ (m, a, s). (m, a, (other n).0 s), λ (m, a, s). (m, a, (other n).1 s)))
        C.of_entries;
    of_entered = entered_more fit C.of_entered G;
  }

-- ONE BY ONE: none is seen at first, and all in the end
pub singly_none : {b labels next branches entries entered : List ℕ} → Collected NoSteps next branches entries entered
    → Collected (Seen b labels 0 0) next branches entries entered
singly_none = collected_as (λ u l w. (λ e. absurd e, λ s. absurd (seen_none s)))

pub singly_all : {b labels next branches entries entered : List ℕ} {n : ℕ} → n ≡ count_of b
    → Collected (Seen b labels 0 n) next branches entries entered → Collected (StepsOf b labels) next branches entries entered
singly_all e = collected_as (λ u l w. (
  λ s. record { at = s.at; within = s.within; leaves = s.leaves; enters = s.enters; holds = record { is = s.holds.is } },
  λ s. record {
    at = s.at;
    within = s.within;
    leaves = s.leaves;
    enters = s.enters;
    holds = record { from = omega arith; below = omega (arith, e, s.within); is = s.holds.is };
  },
))

-- one transition more, from f to t with the label l
module _ {b labels : List ℕ} (i : ℕ) (high : i < count_of b) {f l t : ℕ}
    (ef : f ≡ from_of b i) (el : l ≡ get_or labels i 0) (et : t ≡ to_of b i) where
  past : {u k w : ℕ} → Seen b labels 0 i u k w → Seen b labels 0 (i + 1) u k w
  past = before i (omega arith) high ef el et

  this : {u k w : ℕ} → u ≡ f → k ≡ l → w ≡ t → Seen b labels 0 (i + 1) u k w
  this = new i (omega arith) high ef el et

  past_or_this : {u k w : ℕ} → Seen b labels 0 (i + 1) u k w → Seen b labels 0 i u k w ⊎ ((u ≡ f) × (k ≡ l) × (w ≡ t))
  past_or_this = cases i (omega arith) high ef el et

  pub singly_more : {next branches entries entered next₁ branches₁ entries₁ entered₁ : List ℕ}
      → 2 * f + 2 ≤ length next → 2 * f + 2 ≤ length branches → 2 * f + 2 ≤ length entries → 2 * l + 2 ≤ length entered
      → Collected (Seen b labels 0 i) next branches entries entered → Gains (λ (x y : ℕ). (x ≡ f) × (y ≡ t)) next next₁
      → Gains (When (l ≡ 0) f t) branches branches₁ → Gains (When (0 < l) f t) entries entries₁
      → Gains (When (0 < l) l f) entered entered₁ → Collected (Seen b labels 0 (i + 1)) next₁ branches₁ entries₁ entered₁
  singly_more n m k j C N B E D = record {
    of_next = table_of_as (λ x y g. (
      ⊎_elim (λ (a, s). (a, past s)) (λ (p, q). (l, this p refl q)),
      λ (a, s). ⊎_map (λ o. (a, o)) (λ (p, q, r). (p, r)) (past_or_this s),
    )) (table_of_gains C.of_next N (λ x y h (p, q). omega (arith, h, p, n)));
    of_branches = table_of_as (λ x y g. (
      ⊎_elim past (λ (z, p, q). this p (sym z) q),
      λ s. ⊎_map (λ o. o) (λ (p, q, r). (sym q, p, r)) (past_or_this s),
    )) (table_of_gains C.of_branches B (λ x y h (z, p, q). omega (arith, h, p, m)));
    of_entries = table_of_as (λ x y g. (
      ⊎_elim (λ (a, z, s). (a, z, past s)) (λ (z, p, q). (l, z, this p refl q)),
      λ (a, z, s). ⊎_map (λ o. (a, z, o)) (λ (p, q, r). (omega (arith, z, q), p, r)) (past_or_this s),
    )) (table_of_gains C.of_entries E (λ x y h (z, p, q). omega (arith, h, p, k)));
    of_entered = table_of_as (λ x y g. (
      ⊎_elim (λ (z, w, s). (z, w, past s)) (λ (z, p, q). (omega (arith, z, p), t, this q p refl)),
      λ (z, w, s). ⊎_map (λ o. (z, w, o)) (λ (p, q, r). (omega (arith, z, q), q, p)) (past_or_this s),
    )) (table_of_gains C.of_entered D (λ x y h (z, p, q). omega (arith, h, p, j)));
  }

-- room for n vertices and the levels up to top, in tables of zeros
pub room_by : {size levels vs ls n top : ℕ} → vs ≡ 2 * size → ls ≡ 2 * levels → n ≤ size → top < levels
    → Room NoSteps n top (replicate vs 0) (replicate vs 0) (replicate vs 0) (replicate ls 0)
room_by {size} {levels} {vs} {ls} {n} {top} e f i j = rw (e, f) (record {
  collected = collected_none size levels;
  for_next = omega (arith, i, long);
  for_branches = omega (arith, i, long);
  for_entries = omega (arith, i, long);
  for_levels = omega (arith, j, length-replicate {A = ℕ} (2 * levels) 0);
})
  where
    long : length (replicate {A = ℕ} (2 * size) 0) ≡ 2 * size
    long = length-replicate {A = ℕ} (2 * size) 0

-- room for each label
pub levels_room : {S : Steps} {n top : ℕ} {labels next branches entries entered : List ℕ} → HighestByte labels top
    → Room S n top next branches entries entered → LevelsFit labels entered
levels_room H R i h = omega (arith, H.above i, R.for_levels)

-- other transitions in tables of the same length
pub room_filled : {S T : Steps} {n top : ℕ} {next branches entries entered next₁ branches₁ entries₁ entered₁ : List ℕ}
    → length next₁ ≡ length next → length branches₁ ≡ length branches → length entries₁ ≡ length entries
    → length entered₁ ≡ length entered → Collected T next₁ branches₁ entries₁ entered₁ → Room S n top next branches entries entered
    → Room T n top next₁ branches₁ entries₁ entered₁
room_filled a b c d C R = record {
  collected = C;
  for_next = omega (arith, a, R.for_next);
  for_branches = omega (arith, b, R.for_branches);
  for_entries = omega (arith, c, R.for_entries);
  for_levels = omega (arith, d, R.for_levels);
}

-- the highest of some bytes is one
pub top_below : {bytes : List ℕ} {top : ℕ} → Bytes bytes → HighestByte bytes top → top < 256
top_below {top = top} B H = by_cases (ℕ_discrete top 0) (λ e. omega (arith, e))
    (λ n. let (i, h, e) = H.is_byte (omega (arith, n)) in omega (arith, B i, e))
