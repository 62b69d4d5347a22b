-- An expression as a table of nodes in post-order: operands are numbered left part first, the root last.
use Rattle.std.specs.Prelude.{ℕ, suc, ◌+◌, ◌≡◌, cond, leb}
use Rattle.theory.specs.Expressions.{Expr, deadlock, act, sum, product, star}
use Rattle.theory.specs.Nodes.{Op, op_sum, op_product, op_star, Node, dead, leaf, bin, grow}

-- PostOrder nd b e r: the nodes from b to r of the table are the expression e, and r is its root
pub data PostOrder (nd : ℕ → Node) : ℕ → Expr → ℕ → Type 0 where
  dead_at : {b : ℕ} → nd b ≡ dead → PostOrder nd b deadlock b
  leaf_at : {b a : ℕ} → nd b ≡ leaf a → PostOrder nd b (act a) b
  bin_at : {b m r : ℕ} {e f : Expr} (o : Op) → PostOrder nd b e m → PostOrder nd (suc m) f r → nd (suc r) ≡ bin o m r
      → PostOrder nd b (grow o e f) (suc r)

-- the number of nodes
abbrev pub size : Expr → ℕ
size deadlock = 1
size (act a) = 1
size (sum e f) = suc (size e + size f)
size (product e f) = suc (size e + size f)
size (star e f) = suc (size e + size f)

-- THE TABLE, as a function that runs: the root of an expression whose nodes begin at b, and its node k
abbrev pub root_from : ℕ → Expr → ℕ
root_from b deadlock = b
root_from b (act a) = b
root_from b (sum e f) = suc (root_from (suc (root_from b e)) f)
root_from b (product e f) = suc (root_from (suc (root_from b e)) f)
root_from b (star e f) = suc (root_from (suc (root_from b e)) f)

-- the nodes up to l are those of the left part, then up to r those of the right one
abbrev pub joined : Op → ℕ → ℕ → (ℕ → Node) → (ℕ → Node) → ℕ → Node
joined o l r x y k = cond (leb k l) (x k) (cond (leb k r) (y k) (bin o l r))

unfoldable pub numbered_from : ℕ → Expr → ℕ → Node
numbered_from b deadlock k = dead
numbered_from b (act a) k = leaf a
numbered_from b (sum e f) k =
    let l = root_from b e in joined op_sum l (root_from (suc l) f) (numbered_from b e) (numbered_from (suc l) f) k
numbered_from b (product e f) k =
    let l = root_from b e in joined op_product l (root_from (suc l) f) (numbered_from b e) (numbered_from (suc l) f) k
numbered_from b (star e f) k =
    let l = root_from b e in joined op_star l (root_from (suc l) f) (numbered_from b e) (numbered_from (suc l) f) k

abbrev pub numbered : Expr → ℕ → Node
numbered e = numbered_from 0 e

-- every action of an expression has a property
abbrev pub Acting : (ℕ → Type 0) → Expr → Type 0
Acting P deadlock = Unit {0}
Acting P (act a) = P a
Acting P (sum e f) = Acting P e × Acting P f
Acting P (product e f) = Acting P e × Acting P f
Acting P (star e f) = Acting P e × Acting P f
