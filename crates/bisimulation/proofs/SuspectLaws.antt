-- The vertices that pass with all their rows at once: what the loops keep, and that their pairs pass.
use mathlib.Core.Path.{◌≡◌, refl, sym, ◌∙◌, subst}
use mathlib.Core.Logic.{◌≢◌, ◌⊎◌, inl, inr, ⊎_elim, ◌↔◌, by_cases}
use mathlib.Core.Bool.{Bool, true, false, not}
use mathlib.Core.List.{List, ◌∷◌, Memᴰ}
use Prim.Native.Nat.{ℕ, ◌+◌, ◌*◌, ◌/◌, ◌%◌, ◌^◌, ◌≤◌, ◌<◌}
use native.Mathlib.Decide.{ℕ_discrete, dec_lt}
use native.Mathlib.Omega.{arith}
use lib.ListN.{length, get_or, set, length-set, replicate}
use lib.Seq.{get_or-set_same, get_or-set_other}
use Rattle.bits.specs.Bits.{Bytes}
use Rattle.bits.specs.declared.sets.Set.{Set}
use Rattle.bits.specs.declared.walks.Numbers.{Numbers}
use Rattle.bits.specs.Words.{On}
use Rattle.bits.specs.Sets.{Has, Members, Union, Intersection, empty_set}
use Rattle.bits.proofs.Members.{zero_off, ⊎_map}
use Rattle.bits.proofs.Gains.{blank}
use Rattle.bits.specs.Listed.{members_of}
use Rattle.bits.proofs.Listed.{listed_member}
use Rattle.bits.proofs.Visits.{Visit}
use Rattle.chart.specs.Bodies.{count_of, action_of, to_of, WellFormed}
use Rattle.chart.specs.Leaving.{Begins}
use Rattle.chart.specs.Numbered.{Lists}
use Rattle.chart.proofs.Order.{at_mid, between}
use Rattle.bisimulation.specs.Answers.{Related, PassOutside}
use Rattle.bisimulation.specs.Suspects.{row_at, Into, Acting, Match, Clear}
use Rattle.bisimulation.specs.Classes.{Classes, class_at, Leading, Alike, ClassSteps, Adds, Cuts, Stands, Spread, RowIn, RowsIn}
use Rattle.bisimulation.specs.Classes.{Passing, PassesAt, Sifted, Apart, Stepped, SameStep, Joined, Suspected}
use Rattle.bisimulation.proofs.RowLaws.{related_row, related_column, has_related}
use Rattle.bisimulation.proofs.ClearLaws.{clear_passes}

-- TABLES OF WORDS: nothing at first, one word more, and the same said in another way
pub adds_none : {P : ℕ → Type 0} {x : ℕ} {a : List ℕ} → ((w : ℕ) → ¬ P w) → Adds P x a a
adds_none n = record { long = refl; exactly = λ w k l. (inl, ⊎_elim (λ on. on) (λ h. absurd (n w h.0))) }

pub cuts_none : {P : ℕ → Type 0} {x : ℕ} {a : List ℕ} → ((w : ℕ) → ¬ P w) → Cuts P x a a
cuts_none n = record { long = refl; only = λ w k l on. (on, λ p. absurd (n w p)) }

module _ {P Q : ℕ → Type 0} {x v : ℕ} {a t : List ℕ} (r : ℕ) (within : v < length a) (E : (w : ℕ) → Q w ↔ (P w ⊎ (w ≡ v))) where
  pub adds_more : Adds P x a t → ((k : ℕ) → On r k ↔ (On (get_or t v 0) k ⊎ On x k)) → Adds Q x a (set t v r)
  adds_more A R = record { long = length-set t v r ∙ A.long; exactly = λ w k l. by_cases (ℕ_discrete w v) (here w k l) (there w k l) }
    where
      here : (w k : ℕ) → w < length a → w ≡ v → On (get_or (set t v r) w 0) k ↔ (On (get_or a w 0) k ⊎ (Q w × On x k))
      here w k l e = rw (e, get_or-set_same t v r 0 (omega (arith, A.long))) (to, back)
        where
          to : On r k → On (get_or a v 0) k ⊎ (Q v × On x k)
          to on =
              ⊎_elim
              (λ h. ⊎_map (λ g. g) (λ (p, q). ((E v).1 (inl p), q)) ((A.exactly v k within).0 h))
              (λ h. inr ((E v).1 (inr refl), h))
              ((R k).0 on)

          back : On (get_or a v 0) k ⊎ (Q v × On x k) → On r k
          back = ⊎_elim (λ h. (R k).1 (inl ((A.exactly v k within).1 (inl h)))) (λ h. (R k).1 (inr h.1))

      there : (w k : ℕ) → w < length a → ¬ (w ≡ v) → On (get_or (set t v r) w 0) k ↔ (On (get_or a w 0) k ⊎ (Q w × On x k))
      there w k l n = rw (get_or-set_other t v w r 0 n) (
        (λ on. ⊎_map (λ h. h) (λ (p, q). ((E w).1 (inl p), q)) ((A.exactly w k l).0 on)),
        (λ h. (A.exactly w k l).1 (⊎_map (λ g. g) (λ (p, q). (⊎_elim (λ z. z) (λ e. absurd (n e)) ((E w).0 p), q)) h)),
      )

  pub cuts_more : Cuts P x a t → ((k : ℕ) → On r k ↔ (On (get_or t v 0) k × On x k)) → Cuts Q x a (set t v r)
  cuts_more C R = record { long = length-set t v r ∙ C.long; only = λ w k l on. by_cases (ℕ_discrete w v) (here w k on) (there w k l on) }
    where
      here : (w k : ℕ) → On (get_or (set t v r) w 0) k → w ≡ v → On (get_or a w 0) k × (Q w → On x k)
      here w k on e =
          let (p, q) = (R k).0 (rw (e, get_or-set_same t v r 0 (omega (arith, C.long))) at on) in
          (rw e (C.only v k within p).0, λ z. q)

      there : (w k : ℕ) → w < length a → On (get_or (set t v r) w 0) k → ¬ (w ≡ v) → On (get_or a w 0) k × (Q w → On x k)
      there w k l on n =
          let (p, q) = C.only w k l (rw (get_or-set_other t v w r 0 n) at on) in
          (p, λ z. ⊎_elim q (λ e. absurd (n e)) ((E w).0 z))

pub adds_as : {P Q : ℕ → Type 0} {x : ℕ} {a r : List ℕ} → ((w : ℕ) → P w ↔ Q w) → Adds P x a r → Adds Q x a r
adds_as f A = record {
  long = A.long;
  exactly = λ w k l. (
    (λ on. ⊎_map (λ h. h) (λ (p, q). ((f w).0 p, q)) ((A.exactly w k l).0 on)),
    (λ h. (A.exactly w k l).1 (⊎_map (λ g. g) (λ (p, q). ((f w).1 p, q)) h)),
  );
}

pub cuts_as : {P Q : ℕ → Type 0} {x : ℕ} {a r : List ℕ} → ((w : ℕ) → P w ↔ Q w) → Cuts P x a r → Cuts Q x a r
cuts_as f C = record { long = C.long; only = λ w k l on. let (p, q) = C.only w k l on in (p, λ z. q ((f w).1 z)) }

-- `VertexSteps::spread`: the members of a set that are left no longer
abbrev pub Past : Set → Set → ℕ → Type 0
Past s left w = Has s w × (¬ Has left w)

pub past_first : (s : Set) (w : ℕ) → ¬ Past s s w
past_first s w (h, n) = n h

-- what a walk over a set gives is below 128
pub member_below : (s : Set) {v : ℕ} {l : List ℕ} → members_of s ≡ v ∷ l → v < 128
member_below s {v} {l} e = omega (arith, (listed_member s v (subst (Memᴰ v) (sym e) (Memᴰ.head refl))).below)

-- nor of a walk that begins
pub past_none : {n : Numbers} {s : Set} → n ≡ record { left = s } → (w : ℕ) → ¬ Past s n.left w
past_none {s = s} e w p = past_first s w (rw e at p)

pub past_next : {s left fewer : Set} {v : ℕ} → Visit s left v fewer → (w : ℕ) → Past s fewer w ↔ (Past s left w ⊎ (w ≡ v))
past_next {s} {left} {fewer} {v} T w =
    (to, ⊎_elim (λ (h, n). (h, λ z. n ((T.rest w).0 z).0)) (λ e. (rw e (T.within v T.has), λ z. ((T.rest w).0 z).1 e)))
  where
    to : Past s fewer w → Past s left w ⊎ (w ≡ v)
    to (h, n) = by_cases (ℕ_discrete w v) (λ e. inr e) (λ e. inl (h, λ z. n ((T.rest w).1 (z, e))))

pub past_last : {s left : Set} → ((w : ℕ) → ¬ Has left w) → (w : ℕ) → Past s left w ↔ Has s w
past_last E w = ((λ h. h.0), (λ h. (h, E w)))

-- a table of zeros has no step
pub into_none : (relation keys : List ℕ) → Into relation keys 0 (replicate {A = ℕ} 128 0)
into_none relation keys = record {
  long = refl;
  exactly = λ w k l. ((λ on. absurd (zero_off k (rw (blank 128 w) at on))), (λ h. absurd (omega (arith, h.0))));
}

-- `ClassTables::spread_one`: no class, a row that does not stand for its class, and one that does
pub spread_none : {relation keys class leading every some into all any : List ℕ} → Into relation keys 0 into → length all ≡ 128
    → length any ≡ 128 → Spread relation class leading every some 0 into all any
spread_none I p q = record {
  into_long = I.long;
  all_long = p;
  any_long = q;
  come = λ w k l. ((λ on. absurd (omega (arith, ((I.exactly w k l).0 on).0))), (λ h. absurd (omega (arith, h.1))));
  common = λ w k c l h. absurd (omega arith);
  joined = λ w k c l h. absurd (omega arith);
}

module _ {relation class leading every some into all any : List ℕ} {c : ℕ}
    (S : Spread relation class leading every some c into all any) where
  pub spread_skip : ¬ (get_or class c 0 ≡ c) → Spread relation class leading every some (c + 1) into all any
  spread_skip n = record {
    into_long = S.into_long;
    all_long = S.all_long;
    any_long = S.any_long;
    come = λ w k l. (
      (λ on. let (d, h, t, g) = (S.come w k l).0 on in (d, omega arith, t, g)),
      (λ (d, h, t, g). (S.come w k l).1 (d, earlier d w h t, t, g)),
    );
    common = λ w k d l h t. S.common w k d l (earlier d w h t) t;
    joined = λ w k d l h t. S.joined w k d l (earlier d w h t) t;
  }
    where
      earlier : (d w : ℕ) → d < c + 1 → Stands relation class d w → d < c
      earlier d w h t = by_cases (ℕ_discrete d c) (λ e. absurd (n (subst (λ (x : ℕ). get_or class x 0 ≡ x) e t.0))) (λ e. omega arith)

  pub spread_more : {row : Set} {into' all' any' : List ℕ} → get_or class c 0 ≡ c → Members (Related relation c) row
      → Adds (Has row) (get_or leading c 0) into into' → Cuts (Has row) (get_or every c 0) all all' → Adds (Has row) (get_or some c 0) any any'
      → Spread relation class leading every some (c + 1) into' all' any'
  spread_more {row} {into'} {all'} {any'} own M I A N = record {
    into_long = I.long ∙ S.into_long;
    all_long = A.long ∙ S.all_long;
    any_long = N.long ∙ S.any_long;
    come = λ w k l. ((λ on. to w k l ((I.exactly w k (omega (arith, S.into_long))).0 on)), back w k l);
    common = λ w k d l h t on. let (p, q) = A.only w k (omega (arith, S.all_long)) on in
        by_cases (ℕ_discrete d c)
        (λ e. subst (λ (x : ℕ). On (get_or every x 0) k) (sym e) (q (has w (subst (λ (x : ℕ). Stands relation class x w) e t))))
        (λ e. S.common w k d l (omega arith) t p);
    joined = λ w k d l h t on. (N.exactly w k (omega (arith, S.any_long))).1
        (by_cases (ℕ_discrete d c)
        (λ e. inr (has w (subst (λ (x : ℕ). Stands relation class x w) e t), subst (λ (x : ℕ). On (get_or some x 0) k) e on))
        (λ e. inl (S.joined w k d l (omega arith) t on)));
  }
    where
      has : (w : ℕ) → Stands relation class c w → Has row w
      has w t = (has_related relation c M w).1 t.1

      to : (w k : ℕ) → w < 128 → On (get_or into w 0) k ⊎ (Has row w × On (get_or leading c 0) k)
          → (d : ℕ) × (d < c + 1) × Stands relation class d w × On (get_or leading d 0) k
      to w k l (inl on) = let (d, h, t, g) = (S.come w k l).0 on in (d, omega arith, t, g)
      to w k l (inr (h, on)) = (c, omega arith, (own, (has_related relation c M w).0 h), on)

      back : (w k : ℕ) → w < 128 → (d : ℕ) × (d < c + 1) × Stands relation class d w × On (get_or leading d 0) k → On (get_or into' w 0) k
      back w k l (d, h, t, on) =
          (I.exactly w k (omega (arith, S.into_long))).1
          (by_cases (ℕ_discrete d c)
          (λ e. inr (has w (subst (λ (x : ℕ). Stands relation class x w) e t), subst (λ (x : ℕ). On (get_or leading x 0) k) e on))
          (λ e. inl ((S.come w k l).1 (d, omega arith, t, on))))

-- `ClassTables::spread`: the rows from 1 on
pub rows_in_none : (relation class : List ℕ) {r : Set} → RowsIn relation class 1 r
rows_in_none relation class c p l = absurd (omega arith)

pub rows_in_more : (relation class : List ℕ) (c : ℕ) {s row r : Set} → RowsIn relation class c s → RowIn relation class c row
    → Union s row r → RowsIn relation class (c + 1) r
rows_in_more relation class c S R U d p l w t =
    (U w).1
    (by_cases (ℕ_discrete d c)
    (λ e. inr (R w (subst (λ (x : ℕ). Stands relation class x w) e t)))
    (λ e. inl (S d p (omega arith) w t)))

-- `passes`: the transitions from a up to i, each met by a step of `every`
pub record Meeting (M : ℕ → ℕ → Type 0) (a every matched i : ℕ) : Type 0 where
  pub from : a ≤ i
  pub met : (j : ℕ) → a ≤ j → j < i → (k : ℕ) × On every k × M j k
  pub matches : (k : ℕ) → On matched k → (j : ℕ) × (a ≤ j) × (j < i) × M j k

module _ {M : ℕ → ℕ → Type 0} {a : ℕ} where
  pub meet_none : (every : ℕ) → Meeting M a every 0 a
  meet_none every = record { from = omega arith; met = λ j l h. absurd (omega arith); matches = λ k on. absurd (zero_off k on) }

  -- no transition at all, and no step
  pub meet_nothing : {b some : ℕ} (every : ℕ) → b ≤ a → some ≡ 0 → Passing M a b every some
  meet_nothing every l z = record { met = λ i f g. absurd (omega arith); matched = λ k on. absurd (zero_off k (rw z at on)) }

module _ {M : ℕ → ℕ → Type 0} {a every matched i : ℕ} (S : Meeting M a every matched i) where
  -- transition i, and those after it that the same steps match
  pub meet_run : (x r n : ℕ) → ((k : ℕ) → On x k → M i k) → (k : ℕ) × On every k × On x k
      → ((k : ℕ) → On r k ↔ (On matched k ⊎ On x k)) → i < n → ((j k : ℕ) → i ≤ j → j < n → M i k → M j k) → Meeting M a every r n
  meet_run x r n E (k, p, q) R l T = record {
    from = omega (arith, S.from);
    met = λ j f h. by_cases (dec_lt j i) (λ g. S.met j f g) (λ g. (k, p, T j k (omega arith) h (E k q)));
    matches = λ y on. ⊎_elim
        (λ h. let (j, f, g, m) = S.matches y h in (j, f, omega arith, m))
        (λ h. (i, S.from, l, E y h))
        ((R y).0 on);
  }

  -- transition i
  pub meet_more : (x r : ℕ) → ((k : ℕ) → On x k → M i k) → (k : ℕ) × On every k × On x k
      → ((k : ℕ) → On r k ↔ (On matched k ⊎ On x k)) → Meeting M a every r (i + 1)
  meet_more x r E w R =
      meet_run x r (i + 1) E w R (omega arith) (λ j k l h m. let e : i ≡ j = omega arith in subst (λ (n : ℕ). M n k) e m)

  pub meet_all : {b : ℕ} (some left : ℕ) → b ≤ i → i ≤ b → ((k : ℕ) → On left k ↔ (On some k × (¬ On matched k))) → left ≡ 0
      → Passing M a b every some
  meet_all {b} some left l h D z = record {
    met = λ j f g. S.met j f (omega arith);
    matched = λ k on.
        by_cases (ℕ_discrete (matched / 2 ^ k % 2) 1)
        (λ g. let (j, f, q, m) = S.matches k g in (j, f, omega arith, m))
        (λ g. absurd (zero_off k (rw z at ((D k).1 (on, g)))));
  }

-- `sift`: the vertices that are left no longer
pub record Sifting (into acting all any body begins : List ℕ) (related apart left found : Set) : Type 0 where
  pub given : (v : ℕ) → Has apart v → Has found v
  pub others : (v : ℕ) → Past related left v → ¬ Has found v
      → PassesAt into acting all any body begins v

pub sift_none : (into acting all any body begins : List ℕ) (apart : Set) {n : Numbers} {related : Set} → n ≡ record { left = related }
    → Sifting into acting all any body begins related apart n.left apart
sift_none into acting all any body begins apart e = record { given = λ v h. h; others = λ v p n. absurd (past_none e v p) }

module _ {into acting all any body begins : List ℕ} {related apart left found : Set}
    (S : Sifting into acting all any body begins related apart left found) where
  pub sift_more : {v : ℕ} {fewer more : Set} {passed : Bool} → Visit related left v fewer
      → (passed ≡ true → PassesAt into acting all any body begins v)
      → ((y : ℕ) → Has more y ↔ (Has found y ⊎ ((not passed ≡ true) × (y ≡ v))))
      → Sifting into acting all any body begins related apart fewer more
  sift_more {v} {fewer} {more} {passed} T P F = record { given = λ y h. (F y).1 (inl (S.given y h)); others = others }
    where
      passing : (b : Bool) → passed ≡ b → ¬ Has more v → passed ≡ true
      passing true e n = e
      passing false e n = absurd (n ((F v).1 (inr (rw e refl, refl))))

      others : (y : ℕ) → Past related fewer y → ¬ Has more y
          → PassesAt into acting all any body begins y
      others y p n =
          ⊎_elim
          (λ h. S.others y h (λ g. n ((F y).1 (inl g))))
          (λ e. subst (PassesAt into acting all any body begins) (sym e) (P (passing passed refl (subst (λ (x : ℕ). ¬ Has more x) e n))))
          ((past_next T y).0 p)

  pub sift_all : ((v : ℕ) → ¬ Has left v) → Sifted into acting all any body begins related apart found
  sift_all E = record { given = S.given; others = λ v h. S.others v (h, E v) }

-- `apart`
pub apart_sets : {row related zero one end rest r : Set} → zero ≡ empty_set → ((y : ℕ) → Has one y ↔ (Has zero y ⊎ (y ≡ 0)))
    → Intersection related one end → ((y : ℕ) → Has rest y ↔ (Has row y × (y ≢ 0))) → Union rest end r → Apart row related r
apart_sets z O I R U = record { first = λ v h n. (U v).1 (inl ((R v).1 (h, n))); others = λ h. (U 0).1 (inr ((I 0).1 (h, (O 0).1 (inr refl)))) }

-- `suspects`
pub suspected : {into acting all any body begins relation : List ℕ} {related row apart r : Set} → Members (Related relation 0) row
    → Apart row related apart → Sifted into acting all any body begins related apart r
    → Suspected into acting all any body begins relation related r
suspected {relation = relation} N P F = record {
  first = λ v h n. F.given v (P.first v ((has_related relation 0 N v).1 h) n);
  end = λ h. F.given 0 (P.others h);
  others = F.others;
}

-- WHAT THE TABLES SAY in the end
module _ {keys words relation class leading every some into all any : List ℕ} {m rows : ℕ}
    (T : Stepped keys words m rows relation) (C : Classes relation rows class) (L : Leading keys class m leading)
    (S : Spread relation class leading every some rows into all any) where
  -- a row has the vertices of its class, which stands for itself
  stands : (u w : ℕ) → u < rows → Related relation u w → Stands relation class (get_or class u 0) w
  stands u w l r = (C.own u l, (C.same u l w (related_column relation u w r)).1 r)

  class_low : (u : ℕ) → u < rows → get_or class u 0 < rows
  class_low u l = omega (arith, C.low u l)

  pub into_all : Into relation keys m into
  into_all = record { long = S.into_long; exactly = λ w k l. ((λ on. to w k l ((S.come w k l).0 on)), back w k l) }
    where
      back : (w k : ℕ) → w < 128 → (k < m) × Related relation (row_at keys k) w → On (get_or into w 0) k
      back w k l (h, r) =
          let t = T.targets k h in
          (S.come w k l).1 (class_at keys class k, class_low _ t, stands _ w t r, (L.exactly _ k (C.few _)).1 (h, refl))

      to : (w k : ℕ) → w < 128 → (c : ℕ) × (c < rows) × Stands relation class c w × On (get_or leading c 0) k
          → (k < m) × Related relation (row_at keys k) w
      to w k l (c, h, t, on) =
          let (p, q) = (L.exactly c k (omega (arith, T.few))).0 on in
          (p, (C.same (row_at keys k) (T.targets k p) w l).0 (subst (λ (x : ℕ). Related relation x w) (sym q) t.1))

  -- steps alike are the same
  same_step : (j k : ℕ) → j < m → k < m → Alike keys class j k → SameStep keys relation j k
  same_step j k l h E = record {
    actions = E.actions;
    targets = λ w g.
        let to_class = C.same (row_at keys j) (T.targets j l) w g in
        let from_class = C.same (row_at keys k) (T.targets k h) w g in (
          (λ r. from_class.0 (subst (λ (x : ℕ). Related relation x w) E.targets (to_class.1 r))),
          (λ r. to_class.0 (subst (λ (x : ℕ). Related relation x w) (sym E.targets) (from_class.1 r))),
        );
  }

  pub all_joined : {related : Set} → ClassSteps keys words class rows every some → RowsIn relation class rows related
      → Joined keys words m relation all any related
  all_joined {related} G K = record {
    given = λ u v n r. let l = low u v r in K (get_or class u 0) (not_first u l n) (class_low u l) v (stands u v l r);
    common = λ u v k n r h on.
        let l = low u v r in
        let shared = S.common v k (get_or class u 0) (related_column relation u v r) (class_low u l) (stands u v l r) on in
        let (j, o, z) = (G.all u (positive u n) l).each k shared in
        (j, o, same_step j k (T.known u j o) h z);
    steps = λ u v k n r on.
        let l = low u v r in
        S.joined v k (get_or class u 0) (related_column relation u v r) (class_low u l) (stands u v l r) (G.any u k (positive u n) l on);
  }
    where
      low : (u v : ℕ) → Related relation u v → u < rows
      low u v = related_row relation rows u v T.whole

      positive : (x : ℕ) → x ≢ 0 → 0 < x
      positive x n = omega arith

      not_first : (u : ℕ) → u < rows → u ≢ 0 → 0 < get_or class u 0
      not_first u l d = by_cases (ℕ_discrete (get_or class u 0) 0) (λ z. absurd (d (C.first u l z))) (λ z. omega arith)

-- a step that is the same as one that matches a transition matches it too
same_matches : {relation keys into acting body : List ℕ} {m : ℕ} → Into relation keys m into → Acting keys m acting
    → Bytes body → WellFormed body → (i j k : ℕ) → i < count_of body → j < m → SameStep keys relation j k
    → Match into acting body i k → Match into acting body i j
same_matches {body = body} I A B W i j k h l E (p, q) =
    let high = (W.each i h).to_high in
    let few = W.header.vertices_high in
    let w : to_of body i < 128 = omega arith in
    let a = B (4 * i + 4 + 1) in (
      (I.exactly (to_of body i) j w).1 (l, (E.targets (to_of body i) w).1 ((I.exactly (to_of body i) k w).0 p).1),
      (A.exactly (action_of body i) j a).1 (l, E.actions ∙ ((A.exactly (action_of body i) k a).0 q).1),
    )

-- a pair of a vertex that is no suspect passes
module _ {keys words relation into acting all any body begins : List ℕ} {m rows : ℕ} {related r : Set}
    (T : Stepped keys words m rows relation) (I : Into relation keys m into) (A : Acting keys m acting)
    (J : Joined keys words m relation all any related) (B : Bytes body) (W : WellFormed body) (R : Begins body begins)
    (F : Suspected into acting all any body begins relation related r) where
  end_clear : Clear into acting words body 0 0
  end_clear = record {
    ends = ((λ e. e), (λ e. e));
    forth = λ k on. absurd (T.end k on);
    back = λ i h e. absurd (omega (arith, (W.each i h).from_low));
  }

  passing_clear : (u v : ℕ) → u ≢ 0 → v ≢ 0 → Related relation u v → PassesAt into acting all any body begins v
      → Clear into acting words body u v
  passing_clear u v n z r Q =
      let low = related_column relation u v r in
      let begin = R.split v (omega arith) in
      let end = R.split (v + 1) (omega arith) in
      record {
        ends = ((λ e. absurd (n e)), (λ e. absurd (z e)));
        forth = λ k on.
            let (i, f, g, M) = Q.matched k (J.steps u v k n r on) in
            (i, omega (arith, end.within), at_mid begin end i f g, M);
        back = λ i h e.
            let (f, g) = between begin end i h e in
            let (k, on, M) = Q.met i f g in
            let a = B (4 * i + 4 + 1) in
            let (j, o, s) = J.common u v k n r ((A.exactly (action_of body i) k a).0 M.1).0 on in
            (j, o, same_matches I A B W i j k h (T.known u j o) s M);
      }

  pair_clear : (u v : ℕ) → Related relation u v → ¬ Has r v → Clear into acting words body u v
  pair_clear u v h n = by_cases (ℕ_discrete u 0) zero other
    where
      zero : u ≡ 0 → Clear into acting words body u v
      zero e = by_cases (ℕ_discrete v 0)
          (λ f. rw (e, f) end_clear)
          (λ f. absurd (n (F.first v (subst (λ (x : ℕ). Related relation x v) e h) f)))

      other : u ≢ 0 → Clear into acting words body u v
      other d = by_cases (ℕ_discrete v 0)
          (λ f. absurd (n (subst (Has r) (sym f) (F.end (subst (Has related) f (J.given u v d h))))))
          (λ f. passing_clear u v d f h (F.others v (J.given u v d h) n))

  pub outside_pass : {e : List ℕ} → Lists e keys words m → PassOutside e body relation r
  outside_pass L u v h n = clear_passes B W L I A (pair_clear u v h n)
