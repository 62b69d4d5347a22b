-- Of the layers, from the last back, the vertices on a shortest path to the end.
use Prim.Native.Nat.{ℕ, zero, suc, ◌+◌, ◌-◌, ◌≤◌, ◌<◌}
use mathlib.Core.Path.{◌≡◌, refl, sym, ◌∙◌, subst}
use mathlib.Core.Logic.{◌≢◌, ◌⊎◌, inl, inr, ⊎_elim, ◌↔◌, by_cases}
use mathlib.Core.Bool.{Bool, true, false, not}
use mathlib.Core.List.{List}
use native.Mathlib.Decide.{ℕ_discrete}
use native.Mathlib.Omega.{arith}
use lib.ListN.{length}
use Rattle.theory.specs.Systems.{System}
use Rattle.theory.specs.Ways.{EndsIn, ReachedIn, member, onward, FirstIn}
use Rattle.theory.proofs.Search.{look_below}
use Rattle.theory.proofs.Ways.{ends_in_more, ends_in_less, ends_in_none, reached_none, reached_ends, ends_reached, lowest_among}
use Rattle.bits.specs.declared.sets.Set.{Set}
use Rattle.bits.specs.Sets.{Has, empty_set, Empty, Members, Intersection}
use Rattle.bits.specs.Tables.{row_of, HasRow, put_row}
use Rattle.bits.proofs.Members.{none, has?}
use Rattle.bits.proofs.Gains.{put_long, put_here, put_other}
use Rattle.bits.proofs.Visits.{Visit, not_empty, FromPast, past_still, past_new, past_or, past_all, visits_none}
use Rattle.chart.specs.Bodies.{vertices_of, WellFormed}
use Rattle.chart.proofs.Rows.{to_low}
use Rattle.chart.specs.Systems.{system_of}
use Rattle.chart.proofs.Relations.{acts_member}
use Rattle.follower.specs.Layers.{Layered, Leading, Narrowed, Leads, Writes}

-- ONE LAYER: a vertex whose row meets the aim stays
abbrev pub Stays : List ℕ → Set → ℕ → ℕ → Type 0
Stays rows aim u y = (y ≡ u) × ((w : ℕ) × HasRow rows u w × Has aim w)

module _ (rows : List ℕ) {layer aim : Set} where
  pub leading_none : {r : Set} → r ≡ empty_set → Members (FromPast (Stays rows aim) layer layer) r
  leading_none = visits_none

  pub leading_more : {left fewer set met kept more : Set} {u : ℕ} {t : Bool} → Visit layer left u fewer → set ≡ row_of rows u
      → Intersection set aim met → (t ≡ true) ↔ Empty met
      → ((y : ℕ) → Has more y ↔ (Has kept y ⊎ ((not t ≡ true) × (y ≡ u))))
      → Members (FromPast (Stays rows aim) layer left) kept → Members (FromPast (Stays rows aim) layer fewer) more
  leading_more {met = met} {u = u} {t = t} T e I E W K = record {
    exactly = λ y h. (
      (λ g. ⊎_elim (λ p. past_still T ((K.exactly y h).0 p)) (λ (f, z). past_new T (z, meets f)) ((W y).0 g)),
      (λ g. (W y).1 (⊎_elim
          (λ p. inl ((K.exactly y h).1 p))
          (λ (z, (w, p, q)). inr (told t E (λ n. n w ((I w).1 (rw e p, q))), z))
          (past_or T g))),
    );
  }
    where
      meets : not t ≡ true → (w : ℕ) × HasRow rows u w × Has aim w
      meets f = ⊎_elim
          (λ (w, l, g). let (p, q) = (I w).0 g in (w, rw e at p, q))
          (λ g. absurd (not_empty E f (λ w p. g w p.below p)))
          (look_below (has? met) 128)

      told : (x : Bool) → (x ≡ true) ↔ Empty met → ¬ Empty met → not x ≡ true
      told true F n = absurd (n (F.0 refl))
      told false F n = refl

  pub leading_all : {left r : Set} → Empty left → Members (FromPast (Stays rows aim) layer left) r → Members (Leading rows layer aim) r
  leading_all E K = record {
    exactly = λ y h. (
      (λ g. let (u, m, (z, s)) = (past_all E).0 ((K.exactly y h).0 g) in stays u m z s),
      (λ (m, s). (K.exactly y h).1 ((past_all E).1 (y, m, (refl, s)))),
    );
  }
    where
      stays : {y : ℕ} (u : ℕ) → Has layer u → y ≡ u → (w : ℕ) × HasRow rows u w × Has aim w → Leading rows layer aim y
      stays u m z s = rw z (m, s)

-- ALL LAYERS from k on
pub record Narrowing (rows : List ℕ) (d : ℕ) (before : List ℕ) (k : ℕ) (aim : Set) (now : List ℕ) : Type 0 where
  pub long : length now ≡ 256
  pub high : k ≤ d
  pub last : (u : ℕ) → HasRow now d u ↔ (u ≡ 0)
  pub each : (j : ℕ) → k ≤ j → j < d → Members (Leading rows (row_of before j) (row_of now (suc j))) (row_of now j)
  pub kept : (j : ℕ) → j < k → row_of now j ≡ row_of before j
  pub aimed : row_of now k ≡ aim

module _ {rows : List ℕ} {d : ℕ} (low : d < 128) {before : List ℕ} where
  -- the last is the end alone, and the others are as they were
  pub narrowing_first : (entry : List ℕ) {none_yet aim : Set} → length entry ≡ 256 → none_yet ≡ empty_set
      → ((y : ℕ) → Has aim y ↔ (Has none_yet y ⊎ (y ≡ 0))) → before ≡ put_row entry d aim → Narrowing rows d before d aim before
  narrowing_first entry {aim = aim} l e W P = record {
    long = subst (λ (t : List ℕ). length t ≡ 256) (sym P) (put_long entry d aim ∙ l);
    high = omega arith;
    last = λ u. rw here ((λ g. ⊎_elim (λ n. absurd (none u (rw e at n))) (λ z. z) ((W u).0 g)), (λ z. (W u).1 (inr z)));
    each = λ j g h. absurd (omega (arith, g, h));
    kept = λ j h. refl;
    aimed = here;
  }
    where
      here : row_of before d ≡ aim
      here = subst (λ (t : List ℕ). row_of t d ≡ aim) (sym P) (put_here entry d aim (omega (arith, l, low)))

  pub narrowed_from : {entry after : List ℕ} (aim : Set) → before ≡ put_row entry d aim → Narrowed rows d before after
      → Narrowed rows d entry after
  narrowed_from {entry} {after} aim P N = record {
    long = N.long;
    last = N.last;
    each = λ k h. rw (← same k h) (N.each k h);
  }
    where
      same : (k : ℕ) → k < d → row_of before k ≡ row_of entry k
      same k h = subst (λ (t : List ℕ). row_of t k ≡ row_of entry k) (sym P) (put_other entry d aim k (λ z. omega (arith, z, h)))

  pub narrowing_more : {k : ℕ} {layer aim next : Set} {now after : List ℕ} → Narrowing rows d before k aim now → 0 < k
      → layer ≡ row_of now (k - 1) → Members (Leading rows layer aim) next → after ≡ put_row now (k - 1) next
      → Narrowing rows d before (k - 1) next after
  narrowing_more {k} {layer} {aim} {next} {now} N h e K P = subst (Narrowing rows d before (k - 1) next) (sym P) (record {
    long = put_long now (k - 1) next ∙ N.long;
    high = omega (arith, N.high);
    last = λ u. rw (there d (λ z. omega (arith, z, h, N.high))) (N.last u);
    each = λ j g l. by_cases (ℕ_discrete j (k - 1))
        (λ z. let q : suc j ≡ k = omega (arith, z, h) in
        rw (q, there k (λ y. omega (arith, y, h)), N.aimed) (rw (z, here, ← N.kept (k - 1) (omega (arith, h)), ← e) K))
        (λ z. rw (there j z, there (suc j) (λ y. omega (arith, y, g))) (N.each j (omega (arith, g, z)) l));
    kept = λ j l. there j (λ z. omega (arith, z, l)) ∙ N.kept j (omega (arith, l));
    aimed = here;
  })
    where
      here : row_of (put_row now (k - 1) next) (k - 1) ≡ next
      here = put_here now (k - 1) next (omega (arith, N.long, N.high, low))

      there : (j : ℕ) → j ≢ k - 1 → row_of (put_row now (k - 1) next) j ≡ row_of now j
      there j n = put_other now (k - 1) next j n

  pub narrowing_all : {k : ℕ} {aim : Set} {now : List ℕ} → Narrowing rows d before k aim now → k ≤ 0 → Narrowed rows d before now
  narrowing_all N h = record { long = N.long; last = N.last; each = λ j l. N.each j (omega (arith, h)) l }

-- WHAT IS LEFT is on a shortest path
module _ {b : List ℕ} (W : WellFormed b) {set : Set} {d : ℕ} {layers rows after : List ℕ} (L : Layered b set d layers rows)
    (v : d < vertices_of b) (N : Narrowed rows d layers after) where
  abbrev M : System
  M = system_of b

  -- reached in k steps and j from the end, where these are d together
  first : {j k u : ℕ} → k + j ≡ d → ReachedIn M (Has set) k u → EndsIn M j u → FirstIn M (Has set) k u
  first {j} e r f = record { holds = r; lowest = λ i l q. L.nearest.lowest (i + j) (omega (arith, l, e)) (reached_ends M (i + j) q f refl) }

  -- exactly these are left
  abbrev Left : ℕ → ℕ → Type 0
  Left j k = (u : ℕ) → u < 128 → HasRow after k u ↔ (FirstIn M (Has set) k u × EndsIn M j u)

  left_last : {k : ℕ} → k ≡ d → Left 0 k
  left_last {k} z u l = (
    (λ g. let q = (N.last u).0 (subst (λ (i : ℕ). HasRow after i u) z g) in
        let (x, m, f) = L.nearest.holds in
        let (y, p, r) = ends_reached M d (member m) f (omega arith) in
        let t = subst (λ (i : ℕ). ReachedIn M (Has set) i u) (sym z) (subst (ReachedIn M (Has set) d) (p ∙ sym q) r) in
        let f = (ends_in_none M).1 q in
        (first (omega (arith, z)) t f, f)),
    (λ (F, f). subst (λ (i : ℕ). HasRow after i u) (sym z) ((N.last u).1 ((ends_in_none M).0 f))),
  )

  left_more : {j k : ℕ} → suc k + j ≡ d → Left j (suc k) → Left (suc j) k
  left_more {j} {k} e I u l = (to, from)
    where
      h : k < d
      h = omega (arith, e)

      at : Has (row_of layers k) u ↔ FirstIn M (Has set) k u
      at = (L.layer k (omega (arith, h))).exactly u l

      to : HasRow after k u → FirstIn M (Has set) k u × EndsIn M (suc j) u
      to g =
          let (m, (w, p, q)) = ((N.each k h).exactly u l).0 g in
          let (a, s) = ((L.row k u h m).exactly w p.below).0 p in
          (at.0 m, ends_in_more M ((acts_member b u a w).0 s) ((I w q.below).0 q).1)

      from : FirstIn M (Has set) k u × EndsIn M (suc j) u → HasRow after k u
      from (F, f) =
          let (a, w, t, g) = ends_in_less M f in
          let s = (acts_member b u a w).1 t in
          let m = at.1 F in
          let i : w < 128 = omega (arith, s.enters, to_low W s.at s.within) in
          ((N.each k h).exactly u l).1 (
            m,
            (w, ((L.row k u h m).exactly w i).1 (a, s), (I w i).1 (first e (onward F.holds t) g, g)),
          )

  left : (j k : ℕ) → k + j ≡ d → Left j k
  left zero k e = left_last (omega (arith, e))
  left (suc j) k e = left_more (omega (arith, e)) (left j (suc k) (omega (arith, e)))

  at_place : (k u : ℕ) → k ≤ d → HasRow after k u → FirstIn M (Has set) k u × EndsIn M (d - k) u
  at_place k u l g = (left (d - k) k (omega (arith, l)) u g.below).0 g

  -- the first layer: the vertices of the set from which d steps lead to the end
  pub narrowed_first : (x : ℕ) → HasRow after 0 x ↔ (Has set x × EndsIn M d x)
  narrowed_first x = (
    (λ g. let (F, e) = at_place 0 x (omega arith) g in (reached_none M F.holds, rw whole at e)),
    (λ (m, e). (left d 0 (omega arith) x m.below).1 (first (omega arith) (member m) e, e)),
  )
    where
      whole : d - 0 ≡ d
      whole = omega arith

  pub narrowed_leads : Leads b d after
  narrowed_leads = record {
    long = N.long;
    some = let (x, m, e) = L.nearest.holds in (x, (narrowed_first x).1 (m, e));
    ends = λ k x l g. (at_place k x l g).1;
    onward = λ k u a w l g s e.
        (left (d - suc k) (suc k) (omega (arith, l)) w (omega (arith, s.enters, to_low W s.at s.within))).1
        (first (omega (arith, l)) (onward (at_place k u (omega (arith, l)) g).0.holds ((acts_member b u a w).0 s)) e, e);
  }

  -- and the list from these is the list from the set
  pub narrowed_writes : {before out : List ℕ} → Writes b (row_of after 0) d before out → Writes b set d before out
  narrowed_writes R = record {
    list = R.list;
    lowest = lowest_among M (λ x g. ((narrowed_first x).0 g).0) (λ x m e. (narrowed_first x).1 (m, e)) R.lowest;
    left = R.left;
  }
