-- The shortest list of events after which the end is a member: it is one, has only events that are taken, and is shorter
-- than there are vertices; and how distances and the lowest list are found step by step.
use Prim.Native.Nat.{ℕ, zero, suc, ◌+◌, ◌≤◌, ◌<◌}
use mathlib.Core.Path.{◌≡◌, refl, sym, ap, ◌∙◌, subst}
use mathlib.Core.Logic.Iff
use mathlib.Core.Logic.{◌⊎◌, inl, inr, ⊎_elim, ◌↔◌, by_cases}
use mathlib.Core.Bool.{Bool, true, false, cond, true≢false}
use mathlib.Core.List.Memᴰ
use mathlib.Core.List.{List, [], ◌∷◌, map}
use native.Mathlib.Decide.{ℕ_discrete, dec_lt}
use native.Mathlib.Omega.{arith}
use lib.Dec.{eqb}
use lib.ListN.{length}
use Rattle.theory.specs.Tests.{Decides, some_in}
use Rattle.theory.specs.Systems.{System, Bisimulation, Lift}
use Rattle.theory.specs.Transitions.{chart_by}
use Rattle.theory.specs.Followers.{StateSet, SameMembers, Some, HoldsEnd, Next, Offered, View, Shows, keep, Responds, Follows, none, call}
use Rattle.theory.specs.Events.{event, taken, Answer, refused_53, told, reply, step_reply, event_rule}
use Rattle.theory.specs.Ways.{Lower, at_once, later, Shortest, Ends, done, by, EndsFrom, EndsIn, ReachedIn, member, onward, FirstIn, LowestOf, AllTaken}
use Rattle.theory.proofs.Search.{pigeonhole}
use Rattle.theory.proofs.Systems.{identity, lift_equal}
use Rattle.theory.proofs.Tests.{decided, decides_same, decides_listed, is_false}

-- TWO LISTS of one length are the same, or one is lower
same_or_lower : (xs ys : List ℕ) → length xs ≡ length ys → (xs ≡ ys) ⊎ (Lower xs ys ⊎ Lower ys xs)
same_or_lower [] [] e = inl refl
same_or_lower [] (b ∷ ys) e = absurd (omega arith)
same_or_lower (a ∷ xs) [] e = absurd (omega arith)
same_or_lower (a ∷ xs) (b ∷ ys) e = cases (same_or_lower xs ys (omega arith)) (ℕ_discrete a b) (dec_lt a b)
  where
    cases : (xs ≡ ys) ⊎ (Lower xs ys ⊎ Lower ys xs) → Dec (a ≡ b) → Dec (a < b)
        → (a ∷ xs ≡ b ∷ ys) ⊎ (Lower (a ∷ xs) (b ∷ ys) ⊎ Lower (b ∷ ys) (a ∷ xs))
    cases i (no n) (yes l) = inr (inl (at_once l))
    cases i (no n) (no l) = let g : b < a = omega arith in inr (inr (at_once g))
    cases (inl e) (yes z) l = inl cc
    cases (inr (inl h)) (yes z) l = inr (inl (subst (λ (c : ℕ). Lower (a ∷ xs) (c ∷ ys)) z (later h)))
    cases (inr (inr h)) (yes z) l = inr (inr (subst (λ (c : ℕ). Lower (c ∷ ys) (a ∷ xs)) z (later h)))

lower_long : {xs ys : List ℕ} → Lower xs ys → 0 < length ys
lower_long (at_once l) = omega arith
lower_long (later h) = omega arith

-- THE SHORTEST LIST is one
pub one_shortest : {P : List ℕ → Type 0} {xs ys : List ℕ} → Shortest P xs → Shortest P ys → xs ≡ ys
one_shortest {P} {xs} {ys} S T =
    ⊎_elim (λ e. e)
    (⊎_elim (λ l. absurd (T.none_lower xs long S.holds l)) (λ l. absurd (S.none_lower ys (sym long) T.holds l)))
    (same_or_lower xs ys long)
  where
    long : length xs ≡ length ys
    long =
        let a : ¬ (length xs < length ys) = λ l. T.none_shorter xs l S.holds in
        let b : ¬ (length ys < length xs) = λ l. S.none_shorter ys l T.holds in
        omega (arith, a, b)

-- where the list of nothing has the property, it is that
pub shortest_none : {P : List ℕ → Type 0} → P [] → Shortest P []
shortest_none p = record {
  holds = p;
  none_shorter = λ ys l. absurd (omega (arith, l));
  none_lower = λ ys l q g. omega (arith, lower_long g);
}

-- and the same by two properties of the same lists
pub shortest_same : {P Q : List ℕ → Type 0} → ((xs : List ℕ) → P xs ↔ Q xs) → (xs : List ℕ) → Shortest P xs ↔ Shortest Q xs
shortest_same {P} {Q} e xs = (carry e, carry (λ ys. Iff.symm (e ys)))
  where
    carry : {P Q : List ℕ → Type 0} → ((ys : List ℕ) → P ys ↔ Q ys) → Shortest P xs → Shortest Q xs
    carry e S = record {
      holds = (e xs).0 S.holds;
      none_shorter = λ ys l q. S.none_shorter ys l ((e ys).1 q);
      none_lower = λ ys l q. S.none_lower ys l ((e ys).1 q);
    }

-- PATHS over bisimilar systems have the same actions
module _ {M N : System} {R : M.State → N.State → Type 0} (b : Bisimulation M N R) where
  ends_forth : {x : M.State} {xs : List ℕ} → Ends M x xs → (y : N.State) → R x y → Ends N y xs
  ends_forth (done e) y r = done ((b.ends _ y r).0 e)
  ends_forth (by s e) y r = let (z, t, q) = b.forth _ y r _ _ s in by t (ends_forth e z q)

  ends_back : {y : N.State} {xs : List ℕ} → Ends N y xs → (x : M.State) → R x y → Ends M x xs
  ends_back (done e) x r = done ((b.ends x _ r).1 e)
  ends_back (by s e) x r = let (z, t, q) = b.back x _ r _ _ s in by t (ends_back e z q)

  pub ends_carried : {P : StateSet M} {Q : StateSet N} → Lift R P Q → (xs : List ℕ) → EndsFrom M P xs ↔ EndsFrom N Q xs
  ends_carried l xs = (
    λ (x, p, e). let (y, q, r) = l.0 x p in (y, q, ends_forth e y r),
    λ (y, q, e). let (x, p, r) = l.1 y q in (x, p, ends_back e x r),
  )

module _ (M : System) where
  -- one action and what is left
  pub ends_next : {P : StateSet M} {a : ℕ} {xs : List ℕ} → EndsFrom M P (a ∷ xs) ↔ EndsFrom M (Next M P a) xs
  ends_next = (λ (x, p, e). split x p e, λ (y, (x, p, s), e). (x, p, by s e))
    where
      split : {P : StateSet M} {a : ℕ} {xs : List ℕ} (x : M.State) → P x → Ends M x (a ∷ xs) → EndsFrom M (Next M P a) xs
      split x p (by {y = y} s e) = (y, (x, p, s), e)

  pub ends_none : {P : StateSet M} → EndsFrom M P [] ↔ HoldsEnd M P
  ends_none = (λ (x, p, e). (x, p, last e), λ (x, p, e). (x, p, done e))
    where
      last : {x : M.State} → Ends M x [] → M.End x
      last (done e) = e

  -- THE FOLLOWER'S OWN EVENTS. Spoilt, the state stays so
  pub spoilt_stays : (xs : List ℕ) {P Q : StateSet M} {rs : List Answer} {l : Bool}
      → Follows event_rule M P true (map event xs) rs Q l → l ≡ true
  spoilt_stays [] none = refl
  spoilt_stays (a ∷ xs) (call r f) = spoilt_stays xs (rw (r.kept ∙ cases r.before.some) at f)
    where
      cases : (b : Bool) → (cond b (step_reply true false a) (reply keep (λ w. refused_53) true)).kept r.after ≡ true
      cases true = refl
      cases false = refl

  -- does the event lead on?
  offers : {P : StateSet M} {v : View} → Shows M P v → (a : ℕ) → Decides (some_in (eqb a) v.offered) (Offered M P a)
  offers {v = v} s a = decides_same (s.offered a) (decides_listed a v.offered)

  module _ {P Q : StateSet M} {a : ℕ} {x : Answer} {l : Bool} (r : Responds event_rule M P false (event a) x Q l) where
    taken_goes : Offered M P a → SameMembers M Q (Next M P a) × (l ≡ false) × ((w : View) × (x ≡ told taken w))
    taken_goes o =
        let s = r.shown_before.some.1 (o.1.0, o.1.1) in
        let t = (offers r.shown_before a).1 o in
        (rw (s, t) at r.members, rw (s, t) at r.kept, (r.after, rw (s, t) at r.answer))

    other_spoils : Some M P → ¬ Offered M P a → l ≡ true
    other_spoils p n = rw (r.shown_before.some.1 p, is_false (offers r.shown_before a) n) at r.kept

  -- AFTER SOME EVENTS the end is a member and the state is not spoilt exactly if they are the actions of a path to the end
  pub ends_unspoilt : (xs : List ℕ) {P Q : StateSet M} {rs : List Answer} {l : Bool}
      → Some M P → Follows event_rule M P false (map event xs) rs Q l → ((l ≡ false) × HoldsEnd M Q) ↔ EndsFrom M P xs
  ends_unspoilt [] p none = (λ (e, h). ends_none.1 h, λ e. (refl, ends_none.0 e))
  ends_unspoilt (a ∷ xs) p (call r f) =
      by_cases (decided (offers r.shown_before a))
      (λ o.
      let (m, k, t) = taken_goes r o in
      Iff.trans (ends_unspoilt xs (o.0, (m o.0).1 o.1) (rw k at f))
      (Iff.trans (ends_carried (identity M) (lift_equal m) xs) (Iff.symm ends_next)))
      (λ n. (
        (λ (e, h). absurd (true≢false (sym (spoilt_stays xs (rw (other_spoils r p n) at f)) ∙ e))),
        (λ e. let (y, h, g) = ends_next.0 e in absurd (n (y, h))),
      ))

  -- and then all are taken
  pub ends_taken : (xs : List ℕ) {P Q : StateSet M} {rs : List Answer} {l : Bool}
      → Follows event_rule M P false (map event xs) rs Q l → EndsFrom M P xs → AllTaken rs
  ends_taken [] none e = λ x i. absurd (Memᴰ.not-nil i)
  ends_taken (a ∷ xs) (call r f) e =
      let (y, n, g) = ends_next.0 e in
      let (m, k, t) = taken_goes r (y, n) in
      let all = ends_taken xs (rw k at f) (y, (m y).1 n, g) in
      λ x i. ⊎_elim (λ q. (t.0, q ∙ t.1)) (all x) (Memᴰ.cases_cons i)

  -- DISTANCES. One step more
  pub ends_in_more : {x y : M.State} {a n : ℕ} → M.Step x a y → EndsIn M n y → EndsIn M (suc n) x
  ends_in_more {a = a} s (xs, l, e) = (a ∷ xs, ap suc l, by s e)

  pub ends_in_less : {x : M.State} {n : ℕ} → EndsIn M (suc n) x → (a : ℕ) × (y : M.State) × M.Step x a y × EndsIn M n y
  ends_in_less ([], l, e) = absurd (omega arith)
  ends_in_less (a ∷ xs, l, by {y = y} s e) = (a, y, s, (xs, omega arith, e))

  pub ends_in_none : {x : M.State} → EndsIn M 0 x ↔ M.End x
  ends_in_none = (to, λ e. ([], refl, done e))
    where
      to : {x : M.State} → EndsIn M 0 x → M.End x
      to ([], l, done e) = e
      to (a ∷ xs, l, e) = absurd (omega arith)

  -- FROM A SET. The step before
  module _ {P : StateSet M} where
    pub reached_none : {x : M.State} → ReachedIn M P 0 x → P x
    reached_none r = go r refl
      where
        go : {n : ℕ} {x : M.State} → ReachedIn M P n x → n ≡ 0 → P x
        go (member p) e = p
        go (onward r s) e = absurd (omega arith)

    pub reached_less : {y : M.State} {n : ℕ} → ReachedIn M P (suc n) y
        → (x : M.State) × (a : ℕ) × ReachedIn M P n x × M.Step x a y
    reached_less {y} {n} r = go r refl
      where
        go : {k : ℕ} {z : M.State} → ReachedIn M P k z → k ≡ suc n → (x : M.State) × (a : ℕ) × ReachedIn M P n x × M.Step x a z
        go (member p) e = absurd (omega arith)
        go (onward {x = x} {a = a} {n = m} q s) e = (x, a, subst (λ (j : ℕ). ReachedIn M P j x) (omega arith) q, s)

    -- to a state and on to the end
    pub reached_ends : {x : M.State} {m n : ℕ} (k : ℕ) → ReachedIn M P n x → EndsIn M m x → n + m ≡ k
        → (z : M.State) × P z × EndsIn M k z
    reached_ends {x} k (member p) e q = (x, p, subst (λ (j : ℕ). EndsIn M j x) (omega (arith, q)) e)
    reached_ends k (onward r s) e q = reached_ends k r (ends_in_more s e) (omega (arith, q))

    pub ends_reached : {x : M.State} {n k : ℕ} (m : ℕ) → ReachedIn M P k x → EndsIn M n x → k + n ≡ m
        → (z : M.State) × M.End z × ReachedIn M P m z
    ends_reached {x} {n} {k} m r ([], l, done e) q = (x, e, subst (λ (j : ℕ). ReachedIn M P j x) (omega (arith, l, q)) r)
    ends_reached {x} {n = n} m r (a ∷ xs, l, by {y = y} s e) q =
        ends_reached {x = y} m (onward r s) (xs, refl, e) (omega (arith, l, q))

    -- a state to which a step leads from one that is first reached in n steps, and that none of n or fewer leads to
    pub first_more : {x y : M.State} {a n : ℕ} → M.Step x a y → FirstIn M P n x → ((k : ℕ) → k ≤ n → ¬ ReachedIn M P k y)
        → FirstIn M P (suc n) y
    first_more s F h = record { holds = onward F.holds s; lowest = λ k l. h k (omega (arith, l)) }

    -- and the one before a state that is first reached in one more
    pub first_less : {x y : M.State} {a n : ℕ} → FirstIn M P (suc n) y → ReachedIn M P n x → M.Step x a y → FirstIn M P n x
    first_less F r s = record { holds = r; lowest = λ k l q. F.lowest (suc k) (omega (arith, l)) (onward q s) }

  -- THE LOWEST LIST of n actions is one, and where no fewer do it the shortest
  pub one_lowest : {n : ℕ} {P : StateSet M} {xs ys : List ℕ} → LowestOf M n P xs → LowestOf M n P ys → xs ≡ ys
  one_lowest {n} {P} {xs} {ys} L K =
      ⊎_elim (λ e. e)
      (⊎_elim (λ l. absurd (K.none_lower xs L.long L.ends l)) (λ l. absurd (L.none_lower ys K.long K.ends l)))
      (same_or_lower xs ys (L.long ∙ sym K.long))

  pub lowest_shortest : {n : ℕ} {P : StateSet M} {xs : List ℕ} → LowestOf M n P xs
      → ((k : ℕ) (x : M.State) → k < n → P x → ¬ EndsIn M k x) → Shortest (EndsFrom M P) xs
  lowest_shortest {n} L f = record {
    holds = L.ends;
    none_shorter = λ ys l (x, p, e). f (length ys) x (omega (arith, l, L.long)) p (ys, refl, e);
    none_lower = λ ys l. L.none_lower ys (l ∙ L.long);
  }

  -- only members that are n steps from the end count
  pub lowest_among : {n : ℕ} {P Q : StateSet M} {xs : List ℕ} → ((x : M.State) → Q x → P x)
      → ((x : M.State) → P x → EndsIn M n x → Q x) → LowestOf M n Q xs → LowestOf M n P xs
  lowest_among into back L = record {
    long = L.long;
    ends = let (x, q, e) = L.ends in (x, into x q, e);
    none_lower = λ ys l (x, p, e). L.none_lower ys l (x, back x p (ys, l, e), e);
  }

  -- no action
  pub lowest_none : {P : StateSet M} → HoldsEnd M P → LowestOf M 0 P []
  lowest_none h = record { long = refl; ends = ends_none.1 h; none_lower = λ ys l e g. omega (arith, lower_long g) }

  -- one action in front: the lowest after which n steps lead to the end. Q has of its targets those from which they do
  pub lowest_more : {n a : ℕ} {P Q : StateSet M} {xs : List ℕ}
      → ((b : ℕ) → b < a → (y : M.State) → Next M P b y → ¬ EndsIn M n y)
      → ((y : M.State) → Q y → Next M P a y)
      → ((y : M.State) → Next M P a y → EndsIn M n y → Q y)
      → LowestOf M n Q xs → LowestOf M (suc n) P (a ∷ xs)
  lowest_more {n} {a} {P} {Q} {xs} below into back K = record {
    long = ap suc L.long;
    ends = ends_next.1 L.ends;
    none_lower = λ ys l e h. lower ys l e h;
  }
    where
      L : LowestOf M n (Next M P a) xs
      L = lowest_among into back K

      lower : (ys : List ℕ) → length ys ≡ suc n → EndsFrom M P ys → ¬ Lower ys (a ∷ xs)
      lower [] l e h = elim h [ ]
      lower (b ∷ ys) l e (at_once h) = let (y, p, f) = ends_next.0 e in below b h y p (ys, omega arith, f)
      lower (b ∷ ys) l e (later h) = L.none_lower ys (omega arith) (ends_next.0 e) h

-- the lowest list over two systems whose paths have the same actions
pub lowest_carried : {M N : System} {P : StateSet M} {Q : StateSet N} → ((xs : List ℕ) → EndsFrom M P xs ↔ EndsFrom N Q xs)
    → {n : ℕ} {xs : List ℕ} → LowestOf M n P xs → LowestOf N n Q xs
lowest_carried e {xs = xs} L = record {
  long = L.long;
  ends = (e xs).0 L.ends;
  none_lower = λ ys l q. L.none_lower ys l ((e ys).1 q);
}

-- OVER A CHART: states are vertices, below `size`
module _ (start : ℕ) {size : ℕ} {S : ℕ → ℕ → ℕ → Type 0} (low : (u a w : ℕ) → S u a w → w < size) where
  abbrev M : System
  M = chart_by start S

  -- the vertices of a path
  at : {x : ℕ} {xs : List ℕ} → Ends M x xs → ℕ → ℕ
  at {x} (done e) k = x
  at {x} (by s e) zero = x
  at (by s e) (suc k) = at e k

  at_low : {x : ℕ} {xs : List ℕ} (e : Ends M x xs) (k : ℕ) → x < size → at e k < size
  unfolding at
  at_low (done e) k h = h
  at_low (by s e) zero h = h
  at_low (by s e) (suc k) h = at_low e k (low _ _ _ s)

  -- what is left of it after k steps, and its first k steps followed by another path
  rest : {x : ℕ} {xs : List ℕ} (e : Ends M x xs) (k : ℕ) → k ≤ length xs
      → (ys : List ℕ) × (k + length ys ≡ length xs) × Ends M (at e k) ys
  unfolding at
  rest {xs = xs} (done e) zero h = ([], omega arith, done e)
  rest (done e) (suc k) h = absurd (omega arith)
  rest {xs = xs} (by s e) zero h = (xs, omega arith, by s e)
  rest (by s e) (suc k) h = let (ys, l, f) = rest e k (omega arith) in (ys, omega (arith, l), f)

  instead : {x : ℕ} {xs : List ℕ} (e : Ends M x xs) (k : ℕ) → k ≤ length xs → {ys : List ℕ} → Ends M (at e k) ys
      → (zs : List ℕ) × (length zs ≡ k + length ys) × Ends M x zs
  unfolding at
  instead (done e) zero h {ys} f = (ys, omega arith, f)
  instead (done e) (suc k) h f = absurd (omega arith)
  instead (by s e) zero h {ys} f = (ys, omega arith, f)
  instead (by {a = a} s e) (suc k) h f = let (zs, l, g) = instead e k (omega arith) f in (a ∷ zs, omega (arith, l), by s g)

  -- a path of `size` steps or more comes to a vertex twice, and what is between can be left out
  shorter : {x : ℕ} {xs : List ℕ} → Ends M x xs → x < size → size ≤ length xs
      → (ys : List ℕ) × (length ys < length xs) × Ends M x ys
  shorter {x} {xs} e h l =
      let (i, j, m, n, q) = pigeonhole size (at e) (λ k g. at_low e k h) in
      let (ys, r, f) = rest e j (omega arith) in
      let (zs, t, g) = instead e i (omega arith) (subst (λ (y : ℕ). Ends M y ys) (sym q) f) in
      (zs, omega (arith, r, t), g)

  -- so where a path leads to the end, one of fewer steps than `size` does
  pub ends_short : (n : ℕ) {x : ℕ} {xs : List ℕ} → length xs ≤ n → x < size → Ends M x xs
      → (ys : List ℕ) × (length ys < size) × Ends M x ys
  ends_short zero {xs = xs} l h e = (xs, omega arith, e)
  ends_short (suc n) {x} {xs} l h e =
      by_cases (dec_lt (length xs) size) (λ g. (xs, g, e))
      (λ g. let (ys, m, f) = shorter e h (omega arith) in ends_short n (omega arith) h f)

  -- THE SHORTEST LIST has fewer actions than there are vertices
  pub shortest_few : {P : ℕ → Type 0} {xs : List ℕ} → ((x : ℕ) → P x → x < size) → Shortest (EndsFrom M P) xs → length xs < size
  shortest_few {P} {xs} below S =
      let (x, p, e) = S.holds in
      by_cases (dec_lt (length xs) size) (λ g. g)
      (λ g. let (ys, m, f) = shorter e (below x p) (omega arith) in absurd (S.none_shorter ys m (x, p, f)))
