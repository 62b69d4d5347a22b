-- Going down a table whose operands are lower: induction, and that the fuel does not matter.
use Prim.Native.Nat.{ℕ, zero, suc, ◌<◌}
use mathlib.Core.Path.{◌≡◌, refl, ap, ap₂, ◌∙◌}
use mathlib.Core.List.{[]}
use native.Mathlib.Omega.{arith}
use Rattle.theory.specs.Expressions.{deadlock}
use Rattle.theory.specs.Nodes.{Op, Node, bad, dead, leaf, bin, down_f, down, grow, expr_alg, expr, join, first_alg, first, Tree}
use Rattle.theory.specs.Recursions.{Local}

-- induction: a law of every node that holds of a node where it holds of the node's operands
module _ (nd : ℕ → Node) (n : ℕ) (tree : Tree nd n) (P : ℕ → Type 0) (at_node : (k : ℕ) (v : Node) → k < n → nd k ≡ v → ((o : Op) (l r : ℕ) → v ≡ bin o l r → P l × P r) → P k) where
  below : (m k : ℕ) → k < m → k < n → P k
  below zero k q h = absurd (omega arith)
  below (suc m) k q h =
      at_node k (nd k) h refl
      (λ o l r e. let b = tree.low k o l r h e in (below m l (omega arith) (omega arith), below m r (omega arith) (omega arith)))

  pub each_node : (k : ℕ) → k < n → P k
  each_node k h = below (suc k) k (omega arith) h

-- THE FUEL DOES NOT MATTER
module _ (nd : ℕ → Node) (n : ℕ) (tree : Tree nd n) {A : Type 0} (alg : ℕ → Node → (ℕ → A) → A) (none : A) (local : Local alg) where
  enough : (f g k : ℕ) → k < n → k < f → k < g → down_f alg none nd f k ≡ down_f alg none nd g k
  unfolding down_f Local
  enough zero g k h hf hg = absurd (omega arith)
  enough (suc f) zero k h hf hg = absurd (omega arith)
  enough (suc f) (suc g) k h hf hg =
      local k (nd k) (down_f alg none nd f) (down_f alg none nd g)
      (λ o l r e. let b = tree.low k o l r h e in (enough f g l (omega arith) (omega arith) (omega arith), enough f g r (omega arith) (omega arith) (omega arith)))

  pub down_eq : (k : ℕ) → k < n → down alg none nd k ≡ alg k (nd k) (down alg none nd)
  unfolding down down_f Local
  down_eq k h =
      local k (nd k) (down_f alg none nd k) (down alg none nd)
      (λ o l r e. let b = tree.low k o l r h e in (enough k (suc l) l (omega arith) (omega arith) (omega arith), enough k (suc r) r (omega arith) (omega arith) (omega arith)))

expr_local : Local expr_alg
unfolding Local
expr_local k bad x y h = refl
expr_local k dead x y h = refl
expr_local k (leaf a) x y h = refl
expr_local k (bin o l r) x y h = let e = h o l r refl in ap₂ (grow o) e.0 e.1

first_local : Local first_alg
unfolding Local
first_local k bad x y h = refl
first_local k dead x y h = refl
first_local k (leaf a) x y h = refl
first_local k (bin o l r) x y h = let e = h o l r refl in ap₂ (join o) e.0 e.1

-- the clauses of `expr` and `first` at a node
module _ (nd : ℕ → Node) (n : ℕ) (tree : Tree nd n) (k : ℕ) (h : k < n) (v : Node) (e : nd k ≡ v) where
  pub expr_at : expr nd k ≡ expr_alg k v (expr nd)
  unfolding expr
  expr_at = down_eq nd n tree expr_alg deadlock expr_local k h ∙ ap (λ w. expr_alg k w (down expr_alg deadlock nd)) e

  pub first_at : first nd k ≡ first_alg k v (first nd)
  unfolding first
  first_at = down_eq nd n tree first_alg [] first_local k h ∙ ap (λ w. first_alg k w (down first_alg [] nd)) e
