-- The lowest action that leads from a set into another, vertex by vertex.
use Prim.Native.Nat.{ℕ, min, ◌+◌, ◌≤◌, ◌<◌}
use mathlib.Core.Path.{◌≡◌, sym, subst}
use mathlib.Core.Logic.{⊎_elim, by_cases}
use mathlib.Core.List.{List}
use native.Mathlib.Decide.{dec_lt}
use native.Mathlib.Nat.{le_refl}
use native.Mathlib.Omega.{arith}
use borrow.Author.Count.{below_more}
use Rattle.bits.specs.declared.sets.Set.{Set}
use Rattle.bits.specs.First.{First}
use Rattle.bits.specs.Sets.{Has, Empty}
use Rattle.bits.proofs.Visits.{Visit, FromPast, past_none, past_still, past_new, past_or, past_all}
use Rattle.chart.specs.Parts.{count_in, action_in, to_in, PartOf, Row, EntersSet}
use Rattle.chart.specs.Images.{ActsInto, LeadsInto}
use Rattle.chart.proofs.Rows.{acts_same}

-- THE LOWEST ACTION of a part into the set t: its transitions before transition i lead elsewhere
pub record Looking (part : List ℕ) (t : Set) (i : ℕ) : Type 0 where
  pub row : Row part
  pub misses : (k : ℕ) → k < i → ¬ Has t (to_in part k)

pub looking_none : {part : List ℕ} {t : Set} → Row part → Looking part t 0
looking_none R = record { row = R; misses = λ k p. absurd (omega (arith, p)) }

module _ {part : List ℕ} {t : Set} {i : ℕ} (L : Looking part t i) where
  -- transition i misses too
  pub looking_more : {w : ℕ} → w ≡ to_in part i → ¬ Has t w → Looking part t (i + 1)
  looking_more e n = record {
    row = L.row;
    misses = below_more (λ (k : ℕ). ¬ Has t (to_in part k)) i L.misses (λ m. n (subst (Has t) (sym e) m));
  }

  -- no action below that of transition i leads into the set
  lower_misses : {x : ℕ} → (i < count_in part → x ≤ action_in part i) → (a : ℕ) → a < x → ¬ EntersSet part t a
  lower_misses f a l e =
      let k = e.acts in
      by_cases (dec_lt k.at i)
      (λ g. L.misses k.at g (subst (Has t) (sym k.enters) e.member))
      (λ g. let h = k.within in
      omega (arith, L.row.sorted i k.at (omega (arith, g)) h, f (omega (arith, g, h)), k.holds.is, l))

  pub looking_stops : {best : ℕ} → (i < count_in part → best ≤ action_in part i) → First (EntersSet part t) 0 best best
  looking_stops f = record {
    from = omega arith;
    within = le_refl _;
    holds = λ l. absurd (omega (arith, l));
    before = λ a p l. lower_misses f a l;
  }

  pub looking_finds : {x w best : ℕ} → i < count_in part → x ≡ action_in part i → w ≡ to_in part i → Has t w → x < best
      → First (EntersSet part t) 0 best x
  looking_finds {w = w} h e f m l = record {
    from = omega arith;
    within = omega (arith, l);
    holds = λ g. record { to = w; acts = record { at = i; within = h; enters = sym f; holds = record { is = sym e } }; member = m };
    before = λ a p q. lower_misses (λ g. omega (arith, e)) a q;
  }

  -- transition i leads into the set
  pub looking_least : {x w best r : ℕ} → i < count_in part → x ≡ action_in part i → w ≡ to_in part i → Has t w → r ≡ min best x
      → First (EntersSet part t) 0 best r
  looking_least {x} {w} {best} {r} h e f m g =
      by_cases (dec_lt x best)
      (λ l. let z : x ≡ r = omega (arith, l, g) in subst (First (EntersSet part t) 0 best) z (looking_finds h e f m l))
      (λ l. let z : best ≡ r = omega (arith, l, g) in
      subst (First (EntersSet part t) 0 best) z (looking_stops (λ k. omega (arith, e, l))))

-- of the part that a lookup hands back
pub row_lowest : {b part : List ℕ} {u n r : ℕ} {t : Set} → PartOf b u part → First (EntersSet part t) 0 n r → First (ActsInto b u t) 0 n r
row_lowest S F = record {
  from = F.from;
  within = F.within;
  holds = λ l. let e = F.holds l in record { to = e.to; acts = (acts_same S _ _).0 e.acts; member = e.member };
  before = λ a p l e. F.before a p l (record { to = e.to; acts = (acts_same S a _).1 e.acts; member = e.member });
}

-- THE LOWEST NUMBER that comes from the members of a set that are left no longer
module _ {R : ℕ → ℕ → Type 0} {s : Set} {n : ℕ} where
  pub leads_none : First (FromPast R s s) 0 n n
  leads_none = record {
    from = omega arith;
    within = le_refl n;
    holds = λ l. absurd (omega (arith, l));
    before = λ a p l g. past_none g;
  }

  pub leads_more : {left fewer : Set} {u best r : ℕ} → Visit s left u fewer → First (FromPast R s left) 0 n best → First (R u) 0 best r
      → First (FromPast R s fewer) 0 n r
  leads_more {left} {best = best} {r} T F G = record {
    from = G.from;
    within = omega (arith, F.within, G.within);
    holds = λ l. by_cases (dec_lt r best)
        (λ h. past_new T (G.holds h))
        (λ h. let z : best ≡ r = omega (arith, h, G.within) in
        past_still T (subst (FromPast R s left) z (F.holds (omega (arith, z, l)))));
    before = λ a p l g. ⊎_elim (F.before a p (omega (arith, l, G.within))) (G.before a p l) (past_or T g);
  }

-- THE LOWEST ACTION that leads from the set s into the set t
pub leads_all : {b : List ℕ} {s left t : Set} {n r : ℕ} → Empty left → First (FromPast (λ (u a : ℕ). ActsInto b u t a) s left) 0 n r
    → First (LeadsInto b s t) 0 n r
leads_all E F = record {
  from = F.from;
  within = F.within;
  holds = λ l. let (u, m, k) = (past_all E).0 (F.holds l) in
      record { to = k.to; image = (u, m, k.acts); member = k.member };
  before = λ a p l e. let (u, m, k) = e.image in
      F.before a p l ((past_all E).1 (u, m, record { to = e.to; acts = k; member = e.member }));
}
