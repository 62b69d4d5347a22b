-- Runs of vertices, and that the same steps match the transitions into them.
use mathlib.Core.Path.{◌≡◌, refl, sym, ◌∙◌, subst}
use mathlib.Core.Logic.{⊎_elim, by_cases}
use mathlib.Core.List.{List}
use Prim.Native.Nat.{ℕ, ◌+◌, ◌-◌, ◌*◌, ◌≤◌, ◌<◌}
use native.Mathlib.Nat.{eq-or-lt_of_le, le_refl}
use native.Mathlib.Decide.{ℕ_discrete}
use native.Mathlib.Omega.{arith}
use lib.ListN.{get_or, set, length-set, replicate}
use lib.Seq.{get_or-set_same, get_or-set_other}
use Rattle.bits.specs.Bits.{Bytes}
use Rattle.bits.proofs.Gains.{blank}
use Rattle.chart.specs.Bodies.{count_of, from_of, action_of, to_of, key_at, WellFormed}
use Rattle.chart.specs.Leaving.{Begins}
use Rattle.chart.proofs.Order.{at_mid}
use Rattle.bisimulation.specs.Suspects.{Match}
use Rattle.bisimulation.specs.Suspects.{Stretch}
use Rattle.bisimulation.specs.Runs.{SameWords, Runs, OneSource, MatchedAlike}

-- `run_end`: w alone, and w before a run with its word
pub run_one : (into : List ℕ) (w : ℕ) → SameWords into w (w + 1)
run_one into w = record { same = λ x y l h m g. let e : x ≡ y = omega arith in rw e refl }

pub run_more : {into : List ℕ} {w end : ℕ} → SameWords into (w + 1) end → get_or into w 0 ≡ get_or into (end - 1) 0 → SameWords into w end
run_more {into} {w} {end} R e = record { same = λ x y l h m g. to_last x l h ∙ sym (to_last y m g) }
  where
    to_last : (x : ℕ) → w ≤ x → x < end → get_or into x 0 ≡ get_or into (end - 1) 0
    to_last x l h = by_cases (ℕ_discrete x w)
        (λ q. subst (λ (z : ℕ). get_or into z 0 ≡ get_or into (end - 1) 0) (sym q) e)
        (λ q. R.same x (end - 1) (omega arith) h (omega arith) (omega arith))

-- `runs`: none at first, then the run from w on
pub run_none : (into : List ℕ) (n : ℕ) → SameWords into n n
run_none into n = record { same = λ x y l h. absurd (omega arith) }

pub runs_none : (into : List ℕ) → Runs into (replicate {A = ℕ} 128 0)
runs_none into = record {
  ends = record { long = refl; low = λ w. omega (arith, blank 128 w) };
  each = λ w. record { same = λ x y l h. absurd (omega (arith, blank 128 w)) };
}

pub runs_more : {into until : List ℕ} {w r : ℕ} → Runs into until → w < 128 → r ≤ 128 → SameWords into w r
    → Runs into (set until w r)
runs_more {into} {until} {w} {r} S l h R = record {
  ends = record {
    long = length-set until w r ∙ S.ends.long;
    low = λ x. by_cases (ℕ_discrete x w)
        (λ e. rw (e, get_or-set_same until w r 0 (omega (arith, S.ends.long))) h)
        (λ e. rw (get_or-set_other until w x r 0 e) (S.ends.low x));
  };
  each = λ x. by_cases (ℕ_discrete x w)
      (λ e. rw (e, get_or-set_same until w r 0 (omega (arith, S.ends.long))) R)
      (λ e. rw (get_or-set_other until w x r 0 e) (S.each x));
}

-- the transitions of one vertex
pub one_source : {body begins : List ℕ} → Begins body begins → (v : ℕ) → v < 128
    → OneSource body (get_or begins v 0) (get_or begins (v + 1) 0)
one_source {body} {begins} R v l = record { same = λ i j f g p q. from i f g ∙ sym (from j p q) }
  where
    from : (i : ℕ) → get_or begins v 0 ≤ i → i < get_or begins (v + 1) 0 → from_of body i ≡ v
    from = at_mid (R.split v (omega arith)) (R.split (v + 1) (omega arith))

pub source_from : {body : List ℕ} {a b i : ℕ} → OneSource body a b → a ≤ i → OneSource body i b
source_from S l = record { same = λ x y f g p q. S.same x y (omega arith) g (omega arith) q }

-- what matches one of two transitions that the same steps match, matches the other
pub same_match : {into body : List ℕ} (acting : List ℕ) {i j : ℕ} (k : ℕ) → MatchedAlike into body i j → Match into acting body i k
    → Match into acting body j k
same_match acting k S (p, q) = (rw S.words at p, rw S.actions at q)

-- `past_alike`: transition i alone
pub alike_one : (into body : List ℕ) {i b : ℕ} → i < b → Stretch (MatchedAlike into body i) b i (i + 1)
alike_one into body {i} l = record {
  some = omega arith;
  within = omega arith;
  each = λ j f g. let e : j ≡ i = omega arith in rw e (record { actions = refl; words = refl });
}

-- and those of one vertex up to a transition j with the same action: their targets rise
module _ {body : List ℕ} (B : Bytes body) (W : WellFormed body) {i b : ℕ} (within : b ≤ count_of body) (O : OneSource body i b)
    (j : ℕ) (l : i ≤ j) (h : j < b) (e : action_of body i ≡ action_of body j) where
  rising : (x y : ℕ) → x ≤ y → y < b → key_at body x ≤ key_at body y
  rising x y f g = ⊎_elim
      (λ q. subst (λ (z : ℕ). key_at body x ≤ key_at body z) q (le_refl _))
      (λ q. omega (arith, W.ascending x y q (omega arith)))
      (eq-or-lt_of_le f)

  between_them : (x : ℕ) → i ≤ x → x ≤ j
      → (action_of body i ≡ action_of body x) × (to_of body i ≤ to_of body x) × (to_of body x ≤ to_of body j)
  between_them x f g =
      let p = rising i x f (omega arith) in
      let q = rising x j g h in
      let s = O.same i x (le_refl i) (omega arith) f (omega arith) in
      let z = O.same i j (le_refl i) (omega arith) l h in
      let bi = B (4 * i + 4 + 2) in
      let bx = B (4 * x + 4 + 2) in
      let bj = B (4 * j + 4 + 2) in
      (omega arith, omega arith, omega arith)

  -- where that of j is in the run of that of i
  pub alike_up_to : {into until : List ℕ} → Runs into until → to_of body j < get_or until (to_of body i) 0 → {r : ℕ} → i < r → r ≤ j + 1
      → Stretch (MatchedAlike into body i) b i r
  alike_up_to R t {r} f g = record {
    some = f;
    within = omega arith;
    each = λ x p q.
        let (a, lo, hi) = between_them x p (omega arith) in
        record { actions = a; words = (R.each (to_of body i)).same (to_of body i) (to_of body x) (le_refl _) (omega arith) lo (omega arith) };
  }
