-- The answer of the checks 31 to 35: there is only one, and nothing fails exactly for a witness of a connected chart.
use mathlib.Core.Path.{◌≡◌, refl, ap}
use mathlib.Core.Logic.{◌⊎◌, inl, inr, ◌↔◌}
use Prim.Native.Nat.{ℕ}
use native.Mathlib.Omega.{arith}
use Rattle.theory.specs.Charts.{Steps, Formed, Loop}
use Rattle.theory.specs.Witnesses.{Layered, Witness, Connected}
use Rattle.theory.specs.Least.{Least, Earlier}
use Rattle.theory.specs.Checks.{LoopPasses, Passed, Outcome, passes, unreached, branch_cycle, not_lower, Unreached, NotLower, LoopFails, fails_33, fails_34, fails_35, EarlierPass, Checked, all_pass, fails_31, fails_32, fails_loop}
use Rattle.theory.proofs.Paths.{plus_star}
use Rattle.theory.proofs.Search.{least_one, same_or_earlier}
use Rattle.theory.proofs.Checks.{passed_iff_witness}

-- THERE IS ONLY ONE ANSWER
module _ {S : Steps} {v l : ℕ} where
  lower_not : Layered S v l → (r : ℕ) → ¬ NotLower S v l r
  lower_not h r (g, p, (m, o, le)) = omega (arith, h r g (plus_star p) m o)

  pub fails_not_passes : {o : Outcome} → LoopFails S v l o → ¬ LoopPasses S v l
  fails_not_passes (fails_33 h) c = h c.c33
  fails_not_passes (fails_34 h g) c = c.c34 g
  fails_not_passes (fails_35 h g r) c = lower_not c.c35 _ r.holds

  one_failure : {o o' : Outcome} → LoopFails S v l o → LoopFails S v l o' → o ≡ o'
  one_failure (fails_33 h) (fails_33 g) = refl
  one_failure (fails_33 h) (fails_34 g i) = absurd (h g)
  one_failure (fails_33 h) (fails_35 g i r) = absurd (h g)
  one_failure (fails_34 h i) (fails_33 g) = absurd (g h)
  one_failure (fails_34 h i) (fails_34 g j) = refl
  one_failure (fails_34 h i) (fails_35 g j r) = absurd (j i)
  one_failure (fails_35 h i r) (fails_33 g) = absurd (g h)
  one_failure (fails_35 h i r) (fails_34 g j) = absurd (i j)
  one_failure (fails_35 h i r) (fails_35 g j q) = ap (not_lower v l) (least_one r q)

module _ {S : Steps} where
  fails_not_passed : {v l : ℕ} {o : Outcome} → Loop S v l → LoopFails S v l o → ¬ Passed S
  fails_not_passed o f c = fails_not_passes f (c.loops _ _ o)

  one_loop : {v l w m : ℕ} {o o' : Outcome} → Loop S v l → EarlierPass S v l → LoopFails S v l o → Loop S w m → EarlierPass S w m → LoopFails S w m o' → o ≡ o'
  one_loop {v} {l} {w} {m} {o} {o'} a e f b g h = go (same_or_earlier v l w m)
    where
      go : ((v ≡ w) × (l ≡ m)) ⊎ (Earlier v l w m ⊎ Earlier w m v l) → o ≡ o'
      go (inl (p, q)) = one_failure f (rw (p, q) h)
      go (inr (inl p)) = absurd (fails_not_passes f (g v l p a))
      go (inr (inr p)) = absurd (fails_not_passes h (e w m p b))

module _ {size : ℕ} {S : Steps} {start : ℕ} where
  not_unreached : {p : ℕ} → Connected size S start → ¬ Least (Unreached size S start) p
  not_unreached c h = let (a, b, g) = h.holds in g (c _ a b)

  -- no two checks answer at once
  pub one_outcome : {o o' : Outcome} → Checked size S start o → Checked size S start o' → o ≡ o'
  one_outcome (all_pass c p) (all_pass d q) = refl
  one_outcome (all_pass c p) (fails_31 h) = absurd (not_unreached c h)
  one_outcome (all_pass c p) (fails_32 d h) = absurd (p.c32 _ h.holds)
  one_outcome (all_pass c p) (fails_loop d n o e f) = absurd (fails_not_passed o f p)
  one_outcome (fails_31 h) (all_pass d q) = absurd (not_unreached d h)
  one_outcome (fails_31 h) (fails_31 g) = ap unreached (least_one h g)
  one_outcome (fails_31 h) (fails_32 d g) = absurd (not_unreached d h)
  one_outcome (fails_31 h) (fails_loop d n o e f) = absurd (not_unreached d h)
  one_outcome (fails_32 c h) (all_pass d q) = absurd (q.c32 _ h.holds)
  one_outcome (fails_32 c h) (fails_31 g) = absurd (not_unreached c g)
  one_outcome (fails_32 c h) (fails_32 d g) = ap branch_cycle (least_one h g)
  one_outcome (fails_32 c h) (fails_loop d n o e f) = absurd (n _ h.holds)
  one_outcome (fails_loop c n o e f) (all_pass d q) = absurd (fails_not_passed o f q)
  one_outcome (fails_loop c n o e f) (fails_31 g) = absurd (not_unreached c g)
  one_outcome (fails_loop c n o e f) (fails_32 d g) = absurd (n _ g.holds)
  one_outcome (fails_loop c n o e f) (fails_loop d i p g h) = one_loop o e f p g h

-- nothing fails exactly where the chart is connected and the labelling is a witness
pub passes_iff_witness : {size : ℕ} {S : Steps} → Formed size S → (start : ℕ) → Checked size S start passes ↔ (Connected size S start × Witness S start)
passes_iff_witness {size} {S} f start = (λ c. to c refl, λ (r, w). all_pass r ((passed_iff_witness f start r).1 w))
  where
    to : {o : Outcome} → Checked size S start o → o ≡ passes → Connected size S start × Witness S start
    to (all_pass c p) e = (c, (passed_iff_witness f start c).0 p)
    to (fails_31 h) e = absurd (let z : ◌≡◌ {A = ℕ} 0 1 = cc in omega arith)
    to (fails_32 d h) e = absurd (let z : ◌≡◌ {A = ℕ} 0 1 = cc in omega arith)
    to (fails_loop d n o g (fails_33 h)) e = absurd (let z : ◌≡◌ {A = ℕ} 0 1 = cc in omega arith)
    to (fails_loop d n o g (fails_34 h i)) e = absurd (let z : ◌≡◌ {A = ℕ} 0 1 = cc in omega arith)
    to (fails_loop d n o g (fails_35 h i r)) e = absurd (let z : ◌≡◌ {A = ℕ} 0 1 = cc in omega arith)
