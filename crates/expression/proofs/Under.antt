-- Below the root are all nodes, since every other is an operand.
use Prim.Native.Nat.{ℕ, zero, suc, ◌+◌, ◌-◌, ◌<◌, ◌≤◌}
use mathlib.Core.Path.{◌≡◌}
use mathlib.Core.Logic.{inl, inr, ⊎_elim}
use native.Mathlib.Nat.{eq-or-lt_of_le}
use native.Mathlib.Omega.{arith}
use Rattle.theory.specs.Nodes.{Node, Tree}
use Rattle.theory.proofs.Climbs.{Operand, used→, operand_low}
use Rattle.expression.specs.Words.{Under, itself, by_left, by_right}

module _ (nd : ℕ → Node) where
  -- an operand of a node below k is below k
  operand_under : {p j : ℕ} → Operand nd p j → Under nd p j
  operand_under {p} {j} (o, l, r, e, inl q) = by_left {j = j} e (rw q itself)
  operand_under {p} {j} (o, l, r, e, inr q) = by_right {j = j} e (rw q itself)

  under_operand : {k p j : ℕ} → Under nd k p → Operand nd p j → Under nd k j
  under_operand itself d = operand_under d
  under_operand (by_left e u) d = by_left e (under_operand u d)
  under_operand (by_right e u) d = by_right e (under_operand u d)

  module _ (n : ℕ) (tree : Tree nd n) where
    pub under_le : {k j : ℕ} → k < n → Under nd k j → j ≤ k
    under_le h itself = omega arith
    under_le h (by_left e u) = let b = tree.low _ _ _ _ h e in omega (arith, b.0, under_le (omega (arith, b.0)) u)
    under_le h (by_right e u) = let b = tree.low _ _ _ _ h e in omega (arith, b.1, under_le (omega (arith, b.1)) u)

    climb : (f j : ℕ) → j < n → n ≤ f + j → Under nd (n - 1) j
    climb zero j h i = absurd (omega arith)
    climb (suc f) j h i = ⊎_elim
        (λ (e : suc j ≡ n). let q : n - 1 ≡ j = omega arith in rw q itself)
        (λ (d : suc j < n).
        let r = used→ nd n j (omega (arith, tree.once j d)) in
        let b = operand_low nd n tree r.0 j r.1 r.2 in
        under_operand (climb f r.0 r.1 (omega arith)) r.2)
        (eq-or-lt_of_le h)

    -- THE ROOT: every node is below it
    pub all_under : (j : ℕ) → j < n → Under nd (n - 1) j
    all_under j h = climb n j h (omega arith)
