-- 43 to 45 by the tables: what the loops of the search keep, and that what it lets pass does pass.
use mathlib.Core.Path.{◌≡◌, refl, sym, subst}
use mathlib.Core.Logic.{◌≢◌, ◌⊎◌, inl, inr, ⊎_elim, ◌↔◌, by_cases}
use mathlib.Core.List.{List}
use Prim.Native.Nat.{ℕ, ◌+◌, ◌/◌, ◌%◌, ◌^◌, ◌≤◌, ◌<◌}
use native.Mathlib.Decide.{ℕ_discrete, dec_lt}
use native.Mathlib.Omega.{arith}
use lib.ListN.{get_or, replicate}
use Rattle.bits.specs.Bits.{Bytes}
use Rattle.bits.specs.declared.sets.Set.{Set}
use Rattle.bits.specs.Words.{On}
use Rattle.bits.specs.Sets.{Has, empty_set, Empty, Members, Intersection, Difference}
use Rattle.bits.specs.Tables.{row_of, HasRow, put_row, Table, InSome}
use Rattle.bits.proofs.Members.{zero_off, none, has?}
use Rattle.bits.proofs.Gains.{put_long, put_here, put_other}
use Rattle.chart.specs.Bodies.{vertices_of, action_of, to_of, WellFormed}
use Rattle.chart.specs.Leaving.{Begins}
use Rattle.chart.specs.Numbered.{Lists}
use Rattle.chart.proofs.Checks.{well_formed}
use Rattle.chart.proofs.Order.{at_mid, between}
use Rattle.bisimulation.specs.declared.clearing.Matches.{Matches}
use Rattle.bisimulation.specs.Answers.{RelationFits, Passes, PassOutside, NumberedChart}
use Rattle.bisimulation.specs.Suspects.{Stretch, Column, Into, Acting, UsedBy, Used, Match, MatchedIn}
use Rattle.bisimulation.specs.Runs.{MatchedAlike}
use Rattle.bisimulation.specs.Suspects.{Clear, Able, Knows, Walked, Cleared, SameEnd, Refusable, Gathered}
use Rattle.bisimulation.specs.Pairs.{StepTables, Sought}
use Rattle.bisimulation.proofs.RunLaws.{same_match}
use Rattle.bisimulation.proofs.StepLaws.{numbered_lists, pair_passes_lem, step_fits, match_low}

-- `matching`: x and y are the target and the action that the code reads
pub match_read : (into acting body : List ℕ) (i r : ℕ) {x y : ℕ} → x ≡ to_of body i → y ≡ action_of body i
    → ((j : ℕ) → On r j ↔ (On (get_or into x 0) j × On (get_or acting y 0) j)) → (k : ℕ) → On r k ↔ Match into acting body i k
match_read into acting body i r e f h k = ((λ on. let (p, q) = (h k).0 on in (rw e at p, rw f at q)), (λ (p, q). (h k).1 (rw e p, rw f q)))

-- `gather`: at first nothing is known
pub knows_none : (users : List ℕ) {rows : Set} → rows ≡ empty_set → Knows users (record { steps = 0; rows = rows })
knows_none users e = record { exactly = λ u l. ((λ h. absurd (none u (rw e at h))), (λ (k, on, h). absurd (zero_off k on))) }

-- `walk`: the transitions from a to i; each row left has a step of the last word
pub record Walking (into acting users body : List ℕ) (a : ℕ) (set : Set) (matched last : ℕ) (able : Set) (i : ℕ) : Type 0 where
  pub from : a ≤ i
  pub matches : (k : ℕ) → On matched k → MatchedIn into acting body a i k
  pub given : (u : ℕ) → Has able u → Has set u
  pub all : (u : ℕ) → Has able u → (j : ℕ) → a ≤ j → j < i → Able into acting users body j u
  pub same : (u : ℕ) → Has able u → InSome users last u

-- no transition at all
pub walk_none : (into acting users body : List ℕ) {a b : ℕ} (set : Set) → b ≤ a
    → Walked into acting users body a b set (record { matched = 0; able = set })
walk_none into acting users body set l =
    record { matched = λ k on. absurd (zero_off k on); given = λ u h. h; able = λ u h i f g. absurd (omega arith) }

-- the rows with a step of a word
steps_in_lem : (users : List ℕ) (x : ℕ) {s t r : Set} → Members (InSome users x) t → Intersection s t r → (u : ℕ) → Has r u → InSome users x u
steps_in_lem users x U I u h = (U.exactly u h.below).0 ((I u).0 h).1

-- the first one: the rows with a step for it are what the loop begins with
pub walk_first : (into acting users body : List ℕ) (a first : ℕ) {set union able : Set} → ((k : ℕ) → On first k ↔ Match into acting body a k) → Members (InSome users first) union → Intersection set union able → Walking into acting users body a able first first able (a + 1)
walk_first into acting users body a first E U I = record {
  from = omega arith;
  matches = λ k on. (a, omega arith, omega arith, (E k).0 on);
  given = λ u h. h;
  all = λ u h j l m. let (k, on, r) = steps_in_lem users first U I u h in let e : j ≡ a = omega arith in (k, subst (λ (n : ℕ). Match into acting body n k) (sym e) ((E k).0 on), r);
  same = steps_in_lem users first U I;
}

module _ {into acting users body : List ℕ} {a : ℕ} {set : Set} {matched last : ℕ} {able : Set} {i : ℕ} (S : Walking into acting users body a set matched last able i) where
  pub walk_all : {b : ℕ} {all union : Set} → Intersection all union set → b ≤ i → i ≤ b
      → Walked into acting users body a b all (record { matched = matched; able = able })
  walk_all I l m = record {
    matched = λ k on. let (j, f, h, M) = S.matches k on in (j, f, omega arith, M);
    given = λ u h. ((I u).0 (S.given u h)).0;
    able = λ u h j f g. S.all u h j f (omega arith);
  }

  -- the rows and steps of transition i too, where each row left has a step for it
  module _ (next : ℕ) (E : (k : ℕ) → On next k ↔ Match into acting body i k) where
    on_to : (rest : Set) → ((u : ℕ) → Has rest u → Has able u) → ((u : ℕ) → Has rest u → InSome users next u) → (u : ℕ) → Has rest u → (j : ℕ) → a ≤ j → j < i + 1 → Able into acting users body j u
    on_to rest f g u h j l m =
        by_cases (ℕ_discrete j i)
        (λ e. let (k, on, r) = g u h in (k, subst (λ (n : ℕ). Match into acting body n k) (sym e) ((E k).0 on), r))
        (λ e. S.all u (f u h) j l (omega arith))

    pub walk_same : next ≡ last → Walking into acting users body a set matched last able (i + 1)
    walk_same e = record {
      from = omega (arith, S.from);
      matches = λ k on. let (j, f, h, M) = S.matches k on in (j, f, omega arith, M);
      given = S.given;
      all = on_to able (λ u h. h) (λ u h. rw e (S.same u h));
      same = S.same;
    }

    pub walk_more : (matched' : ℕ) {union able' : Set} → ((j : ℕ) → On matched' j ↔ (On matched j ⊎ On next j)) → Members (InSome users next) union → Intersection able union able' → Walking into acting users body a set matched' next able' (i + 1)
    walk_more matched' {union} {able'} O U I = record {
      from = omega (arith, S.from);
      matches = λ k on. found k ((O k).0 on);
      given = λ u h. S.given u ((I u).0 h).0;
      all = on_to able' (λ u h. ((I u).0 h).0) (steps_in_lem users next U I);
      same = steps_in_lem users next U I;
    }
      where
        found : (k : ℕ) → On matched k ⊎ On next k → MatchedIn into acting body a (i + 1) k
        found k (inl on) = let (j, f, h, M) = S.matches k on in (j, f, omega arith, M)
        found k (inr on) = (i, S.from, omega arith, (E k).0 on)

-- and those after it that the same steps match
pub walk_run : {into acting users body : List ℕ} {a i b n : ℕ} {set able : Set} {matched last : ℕ}
    → Walking into acting users body a set matched last able (i + 1) → a ≤ i → Stretch (MatchedAlike into body i) b i n
    → Walking into acting users body a set matched last able n
walk_run {acting = acting} {i = i} S from T = record {
  from = omega (arith, T.some);
  matches = λ k on. let (j, f, h, M) = S.matches k on in (j, f, omega (arith, T.some), M);
  given = S.given;
  all = λ u h j l m. by_cases (dec_lt j i)
      (λ g. S.all u h j l (omega arith))
      (λ g. let (k, M, r) = S.all u h i from (omega arith) in (k, same_match acting k (T.each j (omega arith) m) M, r));
  same = S.same;
}

-- 43 as sets
pub ends_zero : {v : ℕ} {set zero one r : Set} → v ≡ 0 → zero ≡ empty_set → ((y : ℕ) → Has one y ↔ (Has zero y ⊎ (y ≡ 0))) → Intersection set one r → Members (SameEnd v set) r
ends_zero {v} {set} {zero} {one} {r} e z W I = record { exactly = λ u l. (there u, λ (h, A). (I u).1 (h, (W u).1 (inr (A.1 e)))) }
  where
    there : (u : ℕ) → Has r u → SameEnd v set u
    there u h = let (g, o) = (I u).0 h in (g, ((λ f. e), (λ f. ⊎_elim (λ n. absurd (none u (rw z at n))) (λ q. q) ((W u).0 o))))

pub ends_other : {v : ℕ} {set r : Set} → ¬ (v ≡ 0) → ((y : ℕ) → Has r y ↔ (Has set y × (y ≢ 0))) → Members (SameEnd v set) r
ends_other {v} {set} {r} n W = record { exactly = λ u l. (there u, λ (h, A). (W u).1 (h, λ e. n (A.0 e))) }
  where
    there : (u : ℕ) → Has r u → SameEnd v set u
    there u h = let (g, m) = (W u).0 h in (g, ((λ e. absurd (m e)), (λ e. absurd (n e))))

-- `refusable`
pub refuse_none : (into acting users : List ℕ) (used : ℕ) (body : List ℕ) (v : ℕ) {set : Set} → Empty set → Refusable into acting users used body v set set
refuse_none into acting users used body v f = record { given = λ u h. h; others = λ u h n. absurd (f u h) }

module _ {into acting users body begins : List ℕ} {used v : ℕ} (R : Begins body begins) (low : v < 128) {set ends : Set} {walked : Matches} (D : Members (SameEnd v set) ends) (K : Walked into acting users body (get_or begins v 0) (get_or begins (v + 1) 0) ends walked) where
  -- a row that is able, and has no step that is left over
  clears : (rest : ℕ) {unmatched : Set} → ((j : ℕ) → On rest j ↔ (On used j × (¬ On walked.matched j))) → Members (InSome users rest) unmatched → (u : ℕ) → Has walked.able u → ¬ Has unmatched u → Cleared into acting users used body u v
  clears rest {unmatched} O U u h n = record {
    ends = ((D.exactly u h.below).0 (K.given u h)).1;
    forth = λ k on r.
        by_cases (ℕ_discrete (walked.matched / 2 ^ k % 2) 1)
        (λ m. let (i, f, g, M) = K.matched k m in (i, omega (arith, (R.split (v + 1) (omega arith)).within), at_mid (R.split v (omega arith)) (R.split (v + 1) (omega arith)) i f g, M))
        (λ m. absurd (n ((U.exactly u h.below).1 (k, (O k).1 (on, m), r))));
    back = λ i f g. let (p, q) = between (R.split v (omega arith)) (R.split (v + 1) (omega arith)) i f g in K.able u h i p q;
  }

  pub refuse_some : (rest : ℕ) {unmatched clear r : Set} → ((j : ℕ) → On rest j ↔ (On used j × (¬ On walked.matched j))) → Members (InSome users rest) unmatched → Difference walked.able unmatched clear → Difference set clear r → Refusable into acting users used body v set r
  refuse_some rest {unmatched} {clear} {r} O U A B = record { given = λ u h. ((B u).0 h).0; others = others }
    where
      others : (u : ℕ) → Has set u → ¬ Has r u → Cleared into acting users used body u v
      others u h n =
          by_cases (has? clear u)
          (λ c. let (x, y) = (A u).0 c in clears rest O U u x y)
          (λ c. absurd (n ((B u).1 (h, c))))

-- `gather`: the first n vertices
pub gather_none : (columns into acting users : List ℕ) (used : ℕ) (body : List ℕ) → Gathered columns into acting users used body 0 (replicate {A = ℕ} 256 0)
gather_none columns into acting users used body = record { long = refl; given = λ u v m. absurd (omega arith); others = λ u v m. absurd (omega arith) }

pub gather_more : {columns into acting users body t both : List ℕ} {used v : ℕ} {set more : Set} → Gathered columns into acting users used body v t → v < 128 → set ≡ row_of columns v → Refusable into acting users used body v set more → both ≡ put_row t v more → Gathered columns into acting users used body (v + 1) both
gather_more {columns} {into} {acting} {users} {body} {t} {both} {used} {v} {set} {more} G low q R P = rw P (record { long = rw (put_long t v more) G.long; given = given; others = others })
  where
    here : (w : ℕ) → w ≡ v → row_of (put_row t v more) w ≡ more
    here w e = rw e (put_here t v more (omega (arith, G.long)))

    given : (u w : ℕ) → w < v + 1 → HasRow (put_row t v more) w u → HasRow columns w u
    given u w m h =
        by_cases (ℕ_discrete w v)
        (λ e. rw (e, ← q) (R.given u (rw (here w e) at h)))
        (λ e. G.given u w (omega arith) (rw (put_other t v more w e) at h))

    others : (u w : ℕ) → w < v + 1 → HasRow columns w u → ¬ HasRow (put_row t v more) w u → Cleared into acting users used body u w
    others u w m h n =
        by_cases (ℕ_discrete w v)
        (λ e. subst (Cleared into acting users used body u) (sym e) (R.others u (rw q (subst (λ (x : ℕ). HasRow columns x u) e h)) (λ z. n (rw (here w e) z))))
        (λ e. G.others u w (omega arith) h (λ z. n (rw (put_other t v more w e) z)))

-- the tables are those of every chart whose steps are so numbered
pub step_tables : {keys words body relation e into acting : List ℕ} {m vertices : ℕ}
    → NumberedChart keys words m vertices body relation e → Into relation keys m into → Acting keys m acting
    → StepTables into acting words e relation
step_tables {keys} {e = e} {m = m} N I A =
    record { formed = well_formed e N.passes; keys = keys; m = m; numbered = N.numbered; spread = I; acts = A }

-- what the tables let pass does pass, of every chart with these steps
pub clear_passes : {into acting keys words body e relation : List ℕ} {m u v : ℕ} → Bytes body → WellFormed body
    → Lists e keys words m → Into relation keys m into → Acting keys m acting → Clear into acting words body u v
    → Passes e body relation u v
clear_passes B W L I A C = pair_passes_lem L C.ends
    (λ k on. let (j, g, p, M) = C.forth k on in (j, g, p, step_fits B W I A j k g M))
    (λ j h f. let (k, on, M) = C.back j h f in (k, on, step_fits B W I A j k h M))

-- what the search leaves out passes, of every chart whose steps are so numbered
module _ {into acting words body e relation users : List ℕ} {rows used : ℕ} (B : Bytes body) (W : WellFormed body)
    (T : StepTables into acting words e relation) (few : rows ≤ 128) (U : Table 64 (UsedBy words rows) users)
    (all : Used words rows used) where
  cleared_clear : {u v : ℕ} → u < rows → Cleared into acting users used body u v → Clear into acting words body u v
  cleared_clear {u} {v} l C = record {
    ends = C.ends;
    forth =
        λ k on. let n = T.numbered.coded.listed.known u k on in
        C.forth k (all u k l on) ((U.exactly k u (omega (arith, T.numbered.coded.listed.few)) (omega arith)).1 (l, on));
    back = λ i h f.
        let (k, M, r) = C.back i h f in
        let n = match_low B W T.spread T.acts i k h M in
        (k, ((U.exactly k u (omega (arith, T.numbered.coded.listed.few)) r.below).0 r).1, M);
  }

  pub sought : {columns table : List ℕ} {suspects : Set} → vertices_of e ≡ rows → PassOutside e body relation suspects
      → Table 128 (Column relation suspects) columns → Gathered columns into acting users used body (vertices_of body) table
      → RelationFits e body relation → Sought into acting words table body e relation
  sought {suspects = suspects} q S C G F = record {
    tables = T;
    fits = F;
    given = λ u v m t. ((C.exactly v u (omega (arith, W.header.vertices_high)) t.below).0 (G.given u v m t)).1;
    others = λ u v r n.
        let (l, m) = F.inside u v r in
        by_cases (has? suspects v)
        (λ h.
        let g = (C.exactly v u (omega (arith, W.header.vertices_high)) (omega arith)).1 (h, r) in
        clear_passes B W (numbered_lists T.numbered) T.spread T.acts (cleared_clear (omega arith) (G.others u v m g n)))
        (S u v r);
  }
