-- Rounds: a vertex that leads to settled ones alone is settled too.
use mathlib.Core.Path.{◌≡◌, sym, ◌∙◌, subst}
use mathlib.Core.Logic.{◌⊎◌, inl, inr, ⊎_elim, ◌↔◌}
use mathlib.Core.List.{List}
use Prim.Native.Nat.{ℕ, ◌+◌, ◌*◌, ◌≤◌, ◌<◌}
use lib.ListN.{length}
use Rattle.bits.specs.declared.sets.Set.{Set}
use Rattle.bits.specs.Sets.{Has, Empty, Members, Difference, size_of}
use Rattle.bits.specs.Tables.{row_of, HasRow, put_row}
use Rattle.bits.proofs.Members.{size_lt}
use Rattle.bits.proofs.Gains.{put_long, put_here, put_other}
use Rattle.bits.proofs.Visits.{Visit}
use Rattle.theory.specs.Paths.{Plus, last, more}
use Rattle.theory.proofs.Paths.{plus_star}
use Rattle.reach.specs.Searches.{Leads, FromSet, OnCycle, ReachedIn, TurnReaches, Settled, Settles}
use Rattle.reach.proofs.Searches.{some_member, stays, joined_turn}

-- of a part of the set too
pub reached_part : {a after : List ℕ} {s t : Set} → Settled a after s → ((x : ℕ) → Has t x → Has s x) → ReachedIn a after t
reached_part S f = record { exactly = λ x y h. S.known.exactly x y (f x h) }

-- w leads to settled vertices alone, and its set becomes what these reach
module _ {a after : List ℕ} {w : ℕ} {s all r : Set} (l : w < 128) (long : 2 * w + 2 ≤ length after)
    (S : Settled a after s) (new : ¬ Has s w)
    (to : (x : ℕ) → HasRow a w x → Has s x) (M : Members (FromSet (Leads a) (row_of a w)) all)
    (W : (y : ℕ) → Has r y ↔ (Has s y ⊎ (y ≡ w))) where
  off_cycle : ¬ OnCycle a w
  off_cycle (last e) = new (to w e.has)
  off_cycle (more {w = z} e p) = new (stays S.closed (plus_star p) (to z e.has))

  turn : TurnReaches a w all
  turn = joined_turn l M

  pub settles_one : Settles a (λ (x : ℕ). x ≡ w) after s (put_row after w all) r
  settles_one = record {
    long = put_long after w all;
    settled = record {
      known = record { exactly = λ x y h. known x y ((W x).0 h) };
      closed = λ x y h e. (W y).1 (inl (closed x y ((W x).0 h) e));
      acyclic = λ x h. ⊎_elim (S.acyclic x) (λ e. subst (λ (z : ℕ). ¬ OnCycle a z) (sym e) off_cycle) ((W x).0 h);
    };
    more = λ x h. (W x).1 (inl h);
    within = λ x h. (W x).0 h;
    others = λ x n. put_other after w all x n;
  }
    where
      known : (x y : ℕ) → Has s x ⊎ (x ≡ w) → HasRow (put_row after w all) x y ↔ Plus (Leads a) x y
      known x y (inl h) =
          let o = put_other after w all x (λ e. new (subst (Has s) e h)) in
          let k = S.known.exactly x y h in
          ((λ g. k.0 (rw o at g)), (λ p. rw o (k.1 p)))
      known x y (inr e) =
          let k = turn.exactly (λ h. off_cycle (turn.cyclic h)) y in
          let h = put_here after w all long in
          subst (λ (z : ℕ). HasRow (put_row after w all) z y ↔ Plus (Leads a) z y) (sym e) ((λ g. k.0 (rw h at g)), (λ p. rw h (k.1 p)))

      closed : (x y : ℕ) → Has s x ⊎ (x ≡ w) → Leads a x y → Has s y
      closed x y (inl h) e = S.closed x y h e
      closed x y (inr q) e = to y (subst (λ (z : ℕ). HasRow a z y) q e.has)

-- one after the other
pub settles_then : {a b c d : List ℕ} {P Q : ℕ → Type 0} {s t r : Set} → ((x : ℕ) → Q x → P x) → Settles a P b s c t → Settles a Q c t d r
    → Settles a P b s d r
settles_then f S T = record {
  long = T.long ∙ S.long;
  settled = T.settled;
  more = λ x h. T.more x (S.more x h);
  within = λ x h. ⊎_elim (S.within x) (λ q. inr (f x q)) (T.within x h);
  others = λ x n. T.others x (λ q. n (f x q)) ∙ S.others x n;
}

-- `settle_round`: what is left has had no turn
pub still_apart : {a b c : List ℕ} {s left fewer past r : Set} {w : ℕ} → Visit s left w fewer → Settles a (λ (x : ℕ). x ≡ w) b past c r
    → ((x : ℕ) → Has left x → ¬ Has past x) → (x : ℕ) → Has fewer x → ¬ Has r x
still_apart T S A x h g = let (k, n) = (T.rest x).0 h in ⊎_elim (A x k) n (S.within x g)

-- a round that settles another
pub round_gains : {s t d : Set} → ((x : ℕ) → Has s x → Has t x) → Difference t s d → ¬ Empty d → size_of s < size_of t
round_gains {s} {t} {d} f D n = let (w, h) = some_member d n in size_lt s t w f ((D w).0 h).0 ((D w).0 h).1
