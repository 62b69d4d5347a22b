-- The search along a table of successors.
use mathlib.Core.Path.{◌≡◌, refl, sym, ◌∙◌, ap, subst}
use mathlib.Core.Logic.{◌≢◌, ◌⊎◌, inl, inr, ⊎_elim, ◌↔◌, by_cases}
use mathlib.Core.List.{List}
use Prim.Native.Nat.{ℕ, ◌+◌, ◌-◌, ◌*◌, ◌≤◌, ◌<◌}
use native.Mathlib.Omega.{arith}
use native.Mathlib.Decide.{ℕ_discrete, dec_lt}
use lib.ListN.{length}
use Rattle.bits.specs.declared.sets.Set.{Set}
use Rattle.bits.specs.First.{First}
use Rattle.bits.specs.Sets.{Has, empty_set, Empty, Members, Union, Difference, Last, SetFits, size_of}
use Rattle.bits.specs.Tables.{WholeSets, row_of, HasRow, put_row, Words, InSomeFrom}
use Rattle.bits.proofs.Members.{none, low_has, high_has, has_low, has_high, size_lt, has?, lowest_empty}
use Rattle.bits.proofs.Words.{bit_below}
use Rattle.bits.proofs.Determined.{first_one}
use Rattle.bits.proofs.Gains.{put_long, put_here, put_other, same_table}
use Rattle.theory.specs.Paths.{Edges, Star, here, step, Plus, last, more, Avoid}
use Rattle.theory.proofs.Search.{look_below}
use Rattle.theory.proofs.Paths.{star_then, star_snoc, star_map, plus_of, plus_snoc, plus_star, plus_then, star_cases}
use Rattle.reach.specs.declared.Search.{Search}
use Rattle.reach.specs.Searches.{Leads, LedTo, FromSet, Closed, ClosedBut, InOrFrom, Known, Jumps, Visited}
use Rattle.reach.specs.Searches.{OnCycle, ReachedIn, TurnReaches, Cycles}
use Rattle.std.specs.Prelude.{Option, Some, None}

-- a set that is not empty has a member
pub some_member : (s : Set) → ¬ Empty s → (w : ℕ) × Has s w
some_member s n = elim (look_below (has? s) 128) [ inl (w, l, h) ↦ (w, h) | inr g ↦ absurd (n (λ w h. g w h.below h)) ]

-- where nothing of a set is left without another, it is part of that
pub all_in : {s t d : Set} → Difference s t d → Empty d → (w : ℕ) → Has s w → Has t w
all_in {t = t} D E w h = elim (has? t w) [ yes k ↦ k | no k ↦ absurd (E w ((D w).1 (h, k))) ]

-- the successors of w are seen
pub visit_next : (a : List ℕ) (stop w : ℕ) (s : Search) (r : Set) → w < 128 → w ≢ stop → Union s.seen (row_of a w) r → Visited a stop w s (record { seen = r; past = s.past })
visit_next a stop w s r l n U = record {
  grows = λ y m. (U y).1 (inl m);
  sound = λ y o. ⊎_elim inl (λ h. inr (step (n, record { from = l; has = h }) here)) ((U y).0 o);
  passed = λ x y p e. elim (ℕ_discrete x w) [ yes q ↦ inr ((U y).1 (inr (subst (λ (z : ℕ). HasRow a z y) q e.1.has))) | no q ↦ inl (p, q) ];
  more = λ y m. m;
}

-- a path that never comes to stop does not leave it
avoids : {E : Edges} (stop : ℕ) {w y : ℕ} → Plus E w y → w ≢ stop → ((x : ℕ) → Plus E w x → x ≢ stop) → Star (Avoid stop E) w y
avoids stop (last e) n f = step (n, e) here
avoids stop (more {w = x} e p) n f = step (n, e) (avoids stop p (f x (last e)) (λ z q. f z (more e q)))

-- all that w reaches is seen and past
pub visit_jump : (a after : List ℕ) (from to stop w : ℕ) (s : Search) (seen past : Set) → Known a after from to → w < 128 → Jumps after from to stop w → Union s.seen (row_of after w) seen → Union s.past (row_of after w) past → Visited a stop w s (record { seen = seen; past = past })
visit_jump a after b t stop w s seen past K l j U P = record {
  grows = λ y m. (U y).1 (inl m);
  sound = λ y o. ⊎_elim inl (λ h. inr (avoids stop ((known y).0 h) j.apart never)) ((U y).0 o);
  passed = λ x y p e. on x y ((P x).0 p) e;
  more = λ y m. (P y).1 (inl m);
}
  where
    known : (y : ℕ) → HasRow after w y ↔ Plus (Leads a) w y
    known y = K.exactly w y j.above j.below l

    never : (x : ℕ) → Plus (Leads a) w x → x ≢ stop
    never x p e = j.never (subst (λ (z : ℕ). HasRow after w z) e ((known x).1 p))

    on : (x y : ℕ) → (Has s.past x ⊎ HasRow after w x) → Avoid stop (Leads a) x y → (Has s.past x × (x ≢ w)) ⊎ Has seen y
    on x y (inl p) e = elim (ℕ_discrete x w) [ yes q ↦ inr ((U y).1 (inr ((known y).1 (last (subst (λ (z : ℕ). Leads a z y) q e.1))))) | no q ↦ inl (p, q) ]
    on x y (inr p) e = inr ((U y).1 (inr ((known y).1 (plus_snoc ((known x).0 p) e.1))))

-- a path from a set that is closed stays in it
pub stays : {E : Edges} {s : Set} → Closed E s → {u w : ℕ} → Star E u w → Has s u → Has s w
stays C here k = k
stays C (step e p) k = stays C p (C _ _ k e)

-- one from a set that is closed but for another stays in it or comes to the other
leaves : {E : Edges} {s other : Set} → ClosedBut E s other → {u w : ℕ} → Star E u w → Has s u → InOrFrom E s other w
leaves C here k = inl k
leaves C (step e p) k = ⊎_elim (leaves C p) (λ g. inr (_, g, p)) (C _ _ k e)

-- what holds of a search from a set
pub record Searching (a : List ℕ) (stop : ℕ) (from seen past : Set) : Type 0 where
  pub begun : (u : ℕ) → Has from u → Has seen u
  pub sound : (w : ℕ) → Has seen w → FromSet (Avoid stop (Leads a)) from w
  pub passed : (x y : ℕ) → Has past x → Avoid stop (Leads a) x y → Has seen y

-- at first what is closed is past
pub searching : {a : List ℕ} {stop : ℕ} {closed set from : Set} → ClosedBut (Avoid stop (Leads a)) closed set → Union closed set from
    → Searching a stop from from closed
searching C U = record { begun = λ u k. k; sound = λ w k. (w, k, here); passed = λ x y l e. (U y).1 (C x y l e) }

module _ {a : List ℕ} {stop : ℕ} {from seen past left with_w : Set} {w : ℕ} (r : Search) (I : Searching a stop from seen past) (D : Difference seen past left) (L : Last left w)
    (W : (y : ℕ) → Has with_w y ↔ (Has past y ⊎ (y ≡ w))) (O : Visited a stop w (record { seen = seen; past = with_w }) r) where
  seen_w : Has seen w
  seen_w = ((D w).0 L.has).0

  pub search_on : Searching a stop from r.seen r.past
  search_on = record {
    begun = λ x k. O.grows x (I.begun x k);
    sound = λ x k. ⊎_elim (I.sound x) (λ e. let f = I.sound w seen_w in (f.0, f.1, star_then f.2 e)) (O.sound x k);
    passed = λ x y l e. ⊎_elim (λ (p, n). ⊎_elim (λ q. O.grows y (I.passed x y q e)) (λ q. absurd (n q)) ((W x).0 p)) (λ q. q) (O.passed x y l e);
  }

  -- one more is past
  pub search_less : size_of past < size_of r.past
  search_less = size_lt past r.past w (λ y h. O.more y ((W y).1 (inl h))) (O.more w ((W w).1 (inr refl))) ((D w).0 L.has).1

-- at the end all that is seen is past
pub searched : {a : List ℕ} {stop : ℕ} {from seen past left : Set} → Searching a stop from seen past → Difference seen past left
    → Empty left → Members (FromSet (Avoid stop (Leads a)) from) seen
searched {a} {stop} {seen = seen} I D E = record { exactly = λ w l. (I.sound w, λ (u, k, p). stays whole p (I.begun u k)) }
  where
    whole : Closed (Avoid stop (Leads a)) seen
    whole x y h e = I.passed x y (all_in D E x h) e

-- what is reached from what was closed was there, or is reached from the other set
pub from_closed : {E : Edges} {closed set from r : Set} → ClosedBut E closed set → Union closed set from → Members (FromSet E from) r
    → Members (InOrFrom E closed set) r
from_closed C U M = record {
  exactly = λ w l. (
    λ h. let (u, k, p) = (M.exactly w l).0 h in ⊎_elim (leaves C p) (λ g. inr (u, g, p)) ((U u).0 k),
    ⊎_elim (λ k. (M.exactly w l).1 (w, (U w).1 (inl k), here)) (λ (u, k, p). (M.exactly w l).1 (u, (U u).1 (inr k), p)),
  );
}

-- BY ROUNDS, where nothing is known: what is left leads on all at once
pub has_stop : {none_yet past : Set} {stop : ℕ} → ((y : ℕ) → Has past y ↔ (Has none_yet y ⊎ (y ≡ stop))) → Has past stop
has_stop W = (W _).1 (inr refl)

-- nothing leaves stop
pub round_none : {a : List ℕ} {stop : ℕ} {from none_yet past : Set} → none_yet ≡ empty_set
    → ((y : ℕ) → Has past y ↔ (Has none_yet y ⊎ (y ≡ stop))) → Searching a stop from from past
round_none e W = record {
  begun = λ u k. k;
  sound = λ w k. (w, k, here);
  passed = λ x y l o. absurd (⊎_elim (λ h. none x (rw e at h)) o.0 ((W x).0 l));
}

module _ {a : List ℕ} {stop : ℕ} {from seen past left past' : Set} (I : Searching a stop from seen past) (S : Has past stop)
    (D : Difference seen past left) (P : Union past left past') where
  pub round_more : {new seen' : Set} → Members (LedTo a left) new → Union seen new seen' → Searching a stop from seen' past'
  round_more {new} N U = record {
    begun = λ x k. (U x).1 (inl (I.begun x k));
    sound = λ w k. ⊎_elim (I.sound w) (led w) ((U w).0 k);
    passed = λ x y l e. ⊎_elim
        (λ p. (U y).1 (inl (I.passed x y p e)))
        (λ h. (U y).1 (inr ((N.exactly y e.1.has.below).1 (x, h, e.1.has))))
        ((P x).0 l);
  }
    where
      led : (w : ℕ) → Has new w → FromSet (Avoid stop (Leads a)) from w
      led w g =
          let (x, h, r) = (N.exactly w g.below).0 g in
          let (s, n) = (D x).0 h in
          let (u, k, p) = I.sound x s in
          (u, k, star_snoc p ((λ e. n (subst (Has past) (sym e) S)), record { from = h.below; has = r }))

  pub round_less : ¬ Empty left → size_of past < size_of past'
  round_less n = let (w, h) = some_member left n in size_lt past past' w (λ y g. (P y).1 (inl g)) ((P w).1 (inr h)) ((D w).0 h).1

-- the sets of the members below 64, and those of the others
pub led_to_lem : (a : List ℕ) (s : Set) {lo hi r : Set} → SetFits s → Members (InSomeFrom a 0 s.lo) lo
    → Members (InSomeFrom a 64 s.hi) hi → Union lo hi r → Members (LedTo a s) r
led_to_lem a s {lo} {hi} F L H U = record { exactly = λ y l. (λ h. to y l ((U y).0 h), λ (x, h, g). (U y).1 (from y l x h g)) }
  where
    first : (i : ℕ) → 0 + i ≡ i
    first i = omega arith

    to : (y : ℕ) → y < 128 → Has lo y ⊎ Has hi y → LedTo a s y
    to y l (inl h) = let (i, on, g) = (L.exactly y l).0 h in
        (i, low_has s i (bit_below 64 s.lo i F.0 on) on, subst (λ (z : ℕ). HasRow a z y) (first i) g)
    to y l (inr h) =
        let (i, on, g) = (H.exactly y l).0 h in
        (64 + i, high_has s i (bit_below 64 s.hi i F.1 on) on, g)

    from : (y : ℕ) → y < 128 → (x : ℕ) → Has s x → HasRow a x y → Has lo y ⊎ Has hi y
    from y l x h g = elim (dec_lt x 64) [
      | yes k ↦ inl ((L.exactly y l).1 (x, has_low s x k h, subst (λ (z : ℕ). HasRow a z y) (sym (first x)) g))
      | no k ↦ inr (past_64 y l (x - 64) (subst (Has s) (above x k) h) (subst (λ (z : ℕ). HasRow a z y) (above x k) g))
    ]
      where
        above : (x : ℕ) → ¬ (x < 64) → x ≡ 64 + (x - 64)
        above x k = omega (arith, k)

        past_64 : (y : ℕ) → y < 128 → (i : ℕ) → Has s (64 + i) → HasRow a (64 + i) y → Has hi y
        past_64 y l i h g = (H.exactly y l).1 (i, has_high s i (omega (arith, h.below)) h, g)

-- the search from the successors of w, stopping at w
module _ (a : List ℕ) (w : ℕ) (r : Set) (l : w < 128) (C : Members (FromSet (Avoid w (Leads a)) (row_of a w)) r) where
  met_plus : (y : ℕ) → Has r y → Plus (Leads a) w y
  met_plus y h = let f = (C.exactly y h.below).0 h in plus_of (record { from = l; has = f.1 }) (star_map (λ u x e. e.1) f.2)

  module _ (not : ¬ Has r w) where
    onward : (x y : ℕ) → Has r x → Leads a x y → Has r y
    onward x y h e = let f = (C.exactly x h.below).0 h in (C.exactly y e.has.below).1 (f.0, f.1, star_snoc f.2 ((λ q. not (subst (Has r) q h)), e))

    along : {x y : ℕ} → Plus (Leads a) x y → Has r x → Has r y
    along {x} {y} (last e) h = onward x y h e
    along {x} (more {w = z} e p) h = along p (onward x z h e)

    plus_met : {y : ℕ} → Plus (Leads a) w y → Has r y
    plus_met {y} (last e) = (C.exactly y e.has.below).1 (y, e.has, here)
    plus_met (more {w = z} e p) = along p ((C.exactly z e.has.below).1 (z, e.has, here))

  -- so it tells of the turn of w
  pub met_turn : TurnReaches a w r
  met_turn = record { cyclic = met_plus w; exactly = λ n y. (met_plus y, plus_met n) }

-- the members of a set that are left, and what the others reach: it is there, or what another reaches that reaches them
pub record Joining (after : List ℕ) (set all left : Set) : Type 0 where
  pub some : (x : ℕ) → Has left x → Has set x
  pub given : (y : ℕ) → Has set y → Has all y
  pub only : (y : ℕ) → Has all y → Has set y ⊎ ((x : ℕ) × Has set x × HasRow after x y)
  pub gone : (x : ℕ) → Has set x → ¬ Has left x
      → (z : ℕ) × Has set z × ((z ≡ x) ⊎ HasRow after z x) × ((y : ℕ) → HasRow after z y → Has all y)

-- a round takes some of the members that are left, and has what the table leads to from these
pub record Taking (after : List ℕ) (left taken extra : Set) : Type 0 where
  pub within : (x : ℕ) → Has taken x → Has left x
  pub one : (x : ℕ) × Has taken x
  pub led : Members (LedTo after taken) extra

-- one of them, and another
pub take_one : {after : List ℕ} {left none_yet taken extra : Set} {w : ℕ} → none_yet ≡ empty_set → Has left w
    → ((y : ℕ) → Has taken y ↔ (Has none_yet y ⊎ (y ≡ w))) → extra ≡ row_of after w → Taking after left taken extra
take_one {after} {left} {none_yet} {taken} {w = w} z h W e = record {
  within = λ x i. subst (Has left) (sym (alone x i)) h;
  one = (w, (W w).1 (inr refl));
  led = record {
    exactly = λ y l. (
      λ g. (w, (W w).1 (inr refl), rw e at g),
      λ (x, i, q). rw e (subst (λ (u : ℕ). HasRow after u y) (alone x i) q),
    );
  };
}
  where
    alone : (x : ℕ) → Has taken x → x ≡ w
    alone x i = ⊎_elim (λ k. absurd (none x (rw z at k))) (λ k. k) ((W x).0 i)

pub take_another : {after : List ℕ} {left taken extra taken' row extra' : Set} {w : ℕ} → Taking after left taken extra → Has left w
    → ((y : ℕ) → Has taken' y ↔ (Has taken y ⊎ (y ≡ w))) → row ≡ row_of after w → Union extra row extra'
    → Taking after left taken' extra'
take_another {after} {left} {w = w} T h W e U = record {
  within = λ x i. ⊎_elim (T.within x) (λ k. subst (Has left) (sym k) h) ((W x).0 i);
  one = (w, (W w).1 (inr refl));
  led = record {
    exactly = λ y l. (
      λ g. ⊎_elim (λ k. let (x, i, q) = (T.led.exactly y l).0 k in (x, (W x).1 (inl i), q))
          (λ k. (w, (W w).1 (inr refl), rw e at k)) ((U y).0 g),
      λ (x, i, q). (U y).1 (⊎_elim (λ k. inl ((T.led.exactly y l).1 (x, k, q)))
          (λ k. inr (rw e (subst (λ (u : ℕ). HasRow after u y) k q))) ((W x).0 i)),
    );
  };
}

-- where the lowest number is the highest too, there is no other
pub lowest_last : {s : Set} {w r : ℕ} → First (Has s) 0 128 r → Last s w → r ≡ w → (x : ℕ) → Has s x → x ≡ w
lowest_last {s} {w} {r} F L e x h = elim (dec_lt x w) [
  | yes l ↦ absurd (F.before x (omega arith) (omega (arith, l, e)) h)
  | no l ↦ elim (dec_lt w x) [ yes m ↦ absurd (L.above x m h) | no m ↦ omega (arith, l, m) ]
]

-- the lowest number of a set that has one is in it
pub lowest_in : {s : Set} {w r : ℕ} → Has s w → First (Has s) 0 128 r → Has s r
lowest_in {w = w} {r} h F = F.holds (elim (dec_lt r 128) [ yes l ↦ l | no l ↦ absurd (lowest_empty F (omega (arith, l)) w h) ])

-- after a round neither those it took nor what they lead to is left, and there are fewer; at the end all is there
module _ {after : List ℕ} {set all left : Set} (J : Joining after set all left) where
  module _ {taken extra both left' : Set} (T : Taking after left taken extra) (B : Union taken extra both)
      (D : Difference left both left') where
    pub join_more : {all' : Set} → Union all extra all' → Joining after set all' left'
    join_more {all'} A = record {
      some = λ x h. J.some x ((D x).0 h).0;
      given = λ y h. (A y).1 (inl (J.given y h));
      only = λ y h. ⊎_elim (J.only y) (λ g. let (z, i, q) = (T.led.exactly y g.below).0 g in inr (z, from_set z i, q)) ((A y).0 h);
      gone = λ x h n. by_cases (has? left x)
          (λ k. by_cases (has? both x) (λ g. reached x ((B x).0 g)) (λ g. absurd (n ((D x).1 (k, g)))))
          (λ k. let (z, g, i, f) = J.gone x h k in (z, g, i, λ y q. (A y).1 (inl (f y q))));
    }
      where
        from_set : (z : ℕ) → Has taken z → Has set z
        from_set z i = J.some z (T.within z i)

        come : (z : ℕ) → Has taken z → (y : ℕ) → HasRow after z y → Has all' y
        come z i y q = (A y).1 (inr ((T.led.exactly y q.below).1 (z, i, q)))

        reached : (x : ℕ) → Has taken x ⊎ Has extra x
            → (z : ℕ) × Has set z × ((z ≡ x) ⊎ HasRow after z x) × ((y : ℕ) → HasRow after z y → Has all' y)
        reached x (inl i) = (x, from_set x i, inl refl, come x i)
        reached x (inr g) = let (z, i, q) = (T.led.exactly x g.below).0 g in (z, from_set z i, inr q, come z i)

    pub join_less : size_of left' < size_of left
    join_less = let (w, i) = T.one in
        size_lt left' left w (λ y g. ((D y).0 g).0) (T.within w i) (λ h. ((D w).0 h).1 ((B w).1 (inl i)))

  -- a last round that takes all that is left, of which w is one: w leads to what it reaches
  pub join_last : {w : ℕ} {row all' : Set} → ((x : ℕ) → Has left x → x ≡ w) → Has left w → row ≡ row_of after w → Union all row all'
      → (a : List ℕ) → ReachedIn a after set → Members (FromSet (Leads a) set) all'
  join_last {w} {row} {all'} O L e A a R = record { exactly = λ y l. (to y, from y) }
    where
      to : (y : ℕ) → Has all' y → FromSet (Leads a) set y
      to y h = ⊎_elim
          (λ k. ⊎_elim (λ g. (y, g, here)) (λ (x, g, q). (x, g, plus_star ((R.exactly x y g).0 q))) (J.only y k))
          (λ k. (w, J.some w L, plus_star ((R.exactly w y (J.some w L)).0 (rw e at k))))
          ((A y).0 h)

      reached : (x y : ℕ) → Has set x → Plus (Leads a) x y → Has all' y
      reached x y h q = by_cases (has? left x)
          (λ k. let z = O x k in (A y).1 (inr (rw e ((R.exactly w y (J.some w L)).1 (subst (λ (u : ℕ). Plus (Leads a) u y) z q)))))
          (λ k. let (z, g, i, f) = J.gone x h k in
          (A y).1 (inl (f y ((R.exactly z y g).1
          (⊎_elim (λ e. subst (λ (u : ℕ). Plus (Leads a) u y) (sym e) q) (λ k. plus_then ((R.exactly z x g).0 k) q) i)))))

      from : (y : ℕ) → FromSet (Leads a) set y → Has all' y
      from y (x, h, p) = ⊎_elim (λ e. (A y).1 (inl (J.given y (subst (Has set) e h)))) (reached x y h) (star_cases p)

  pub join_all : Empty left → (a : List ℕ) → ReachedIn a after set → Members (FromSet (Leads a) set) all
  join_all E a R = record { exactly = λ y l. (to y, from y) }
    where
      to : (y : ℕ) → Has all y → FromSet (Leads a) set y
      to y h = ⊎_elim (λ g. (y, g, here)) (λ (x, g, q). (x, g, plus_star ((R.exactly x y g).0 q))) (J.only y h)

      from : (y : ℕ) → FromSet (Leads a) set y → Has all y
      from y (x, h, p) = ⊎_elim
          (λ e. J.given y (subst (Has set) e h))
          (λ q. let (z, g, i, f) = J.gone x h (E x) in
          f y ((R.exactly z y g).1
          (⊎_elim (λ e. subst (λ (u : ℕ). Plus (Leads a) u y) (sym e) q) (λ k. plus_then ((R.exactly z x g).0 k) q) i)))
          (star_cases p)

-- where all that w leads to is known, what that reaches tells of the turn of w
pub joined_turn : {a : List ℕ} {w : ℕ} {r : Set} → w < 128 → Members (FromSet (Leads a) (row_of a w)) r → TurnReaches a w r
joined_turn {a} {w} {r} l M = record { cyclic = to w; exactly = λ n y. (to y, from y) }
  where
    to : (y : ℕ) → Has r y → Plus (Leads a) w y
    to y h = let (x, g, p) = (M.exactly y h.below).0 h in plus_of (record { from = l; has = g }) p

    from : (y : ℕ) → Plus (Leads a) w y → Has r y
    from y (last e) = (M.exactly y e.has.below).1 (y, e.has, here)
    from y (more {w = z} e p) = (M.exactly y (plus_below_last p)).1 (z, e.has, plus_star p)
      where
        plus_below_last : {u v : ℕ} → Plus (Leads a) u v → v < 128
        plus_below_last (last d) = d.has.below
        plus_below_last (more d q) = plus_below_last q

-- what is known with the row of w too
module _ (a : List ℕ) (w : ℕ) (r : Set) (T : TurnReaches a w r) (off : ¬ Has r w) where
  pub known_more : (after : List ℕ) (b t c u : ℕ) → 2 * w + 2 ≤ length after → Known a after b t
      → ((x : ℕ) → x ≢ w → c ≤ x → x < u → (b ≤ x) × (x < t)) → Known a (put_row after w r) c u
  known_more after b t c u long K G = record { exactly = λ x y p q i. pick x y p q i (ℕ_discrete x w) }
    where
      at_w : row_of (put_row after w r) w ≡ r
      at_w = put_here after w r long

      pick : (x y : ℕ) → c ≤ x → x < u → x < 128 → Dec (x ≡ w) → HasRow (put_row after w r) x y ↔ Plus (Leads a) x y
      pick x y p q i (yes e) =
          let k = T.exactly off y in
          subst (λ (z : ℕ). HasRow (put_row after w r) z y ↔ Plus (Leads a) z y) (sym e)
          ((λ g. k.0 (rw at_w at g)), (λ g. rw at_w (k.1 g)))
      pick x y p q i (no n) =
          let o = put_other after w r x n in
          let g = G x n p q in
          let k = K.exactly x y g.0 g.1 i in
          ((λ z. k.0 (rw o at z)), (λ p. rw o (k.1 p)))

-- what the turns have found, from below or from above: what the vertices from b up to t reach, whose turn is past
pub record Turned (a : List ℕ) (n : ℕ) (before : List ℕ) (b t : ℕ) (past : Set) (after : List ℕ) : Type 0 where
  pub long : length after ≡ length before
  pub known : Known a after b t
  pub acyclic : (x : ℕ) → b ≤ x → x < t → ¬ OnCycle a x
  pub within : (x : ℕ) → Has past x → (b ≤ x) × (x < t)
  pub others : (x : ℕ) → n ≤ x → row_of after x ≡ row_of before x

-- one more vertex, w, has had its turn: it is the next below or above the others
pub turned_more : {a before after : List ℕ} {n b t c u w : ℕ} {s r past : Set} → Turned a n before b t s after → w < n → 2 * n ≤ length before
    → TurnReaches a w r → ¬ Has r w → ((x : ℕ) → Has past x ↔ (Has s x ⊎ (x ≡ w)))
    → ((x : ℕ) → ((b ≤ x) × (x < t)) ⊎ (x ≡ w) → (c ≤ x) × (x < u)) → ((x : ℕ) → c ≤ x → x < u → x ≢ w → (b ≤ x) × (x < t))
    → Turned a n before c u past (put_row after w r)
turned_more {a} {after = after} {n} {w = w} {r = r} T l room C off W G F = record {
  long = put_long after w r ∙ T.long;
  known = known_more a w r C off after _ _ _ _ (omega (arith, l, room, T.long)) T.known (λ x d p q. F x p q d);
  acyclic = λ x p q. elim (ℕ_discrete x w) [
    | yes e ↦ subst (λ (z : ℕ). ¬ OnCycle a z) (sym e) (λ o. off ((C.exactly off w).1 o))
    | no d ↦ let (h, k) = F x p q d in T.acyclic x h k
  ];
  within = λ x h. G x (⊎_elim (λ k. inl (T.within x k)) inr ((W x).0 h));
  others = λ x h. put_other after w r x (λ f. omega (arith, f, h, l)) ∙ T.others x h;
}

below_or : (v n : ℕ) → (v < n) ⊎ (n ≤ v)
below_or v n = elim (dec_lt v n) [ yes h ↦ inl h | no h ↦ inr (omega (arith, h)) ]

-- ONE ANSWER of `cycle`
pub cycles_one : {a before : List ℕ} {n : ℕ} {r t : Option ℕ} {x y : List ℕ} → n ≤ 128 → WholeSets before → Words x → Words y
    → Cycles a n before r x → Cycles a n before t y → (r ≡ t) × (x ≡ y)
cycles_one {a} {before} {n} {x = x} {y} small (m, even) W Z C D = go _ _ C D
  where
    go : (r t : Option ℕ) → Cycles a n before r x → Cycles a n before t y → (r ≡ t) × (x ≡ y)
    go None None E F = (refl, same_table x y m W Z (E.long ∙ even) (F.long ∙ even) each)
      where
        each : (v : ℕ) → v < m → ((w : ℕ) → HasRow x v w ↔ HasRow y v w)
        each v h w = elim (below_or v n) [ inl l ↦ known l | inr l ↦ other l ]
          where
            known : v < n → HasRow x v w ↔ HasRow y v w
            known l =
                let p = (E.known refl).exactly v w (omega arith) l (omega (arith, l, small)) in
                let q = (F.known refl).exactly v w (omega arith) l (omega (arith, l, small)) in
                ((λ g. q.1 (p.0 g)), (λ g. p.1 (q.0 g)))

            other : n ≤ v → HasRow x v w ↔ HasRow y v w
            other l =
                let q : row_of x v ≡ row_of y v = E.others refl v l ∙ sym (F.others refl v l) in
                ((λ g. rw q at g), (λ g. rw q g))
    go None (Some w) E F = absurd (omega (arith, first_one E.first F.first, F.below))
    go (Some v) None E F = absurd (omega (arith, first_one E.first F.first, E.below))
    go (Some v) (Some w) E F = (ap (λ (z : ℕ). Some z) (first_one E.first F.first), E.cleared refl ∙ sym (F.cleared refl))
