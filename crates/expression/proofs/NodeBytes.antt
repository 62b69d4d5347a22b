-- The bytes of a tree of 1 to 127 nodes pass the checks 10 to 12; so do those of an expression, and no other bytes are its table.
use mathlib.Core.Path.{◌≡◌, refl, sym, ap, ap₂, ◌∙◌}
use mathlib.Core.Logic.{◌↔◌}
use mathlib.Core.Bool.{true}
use mathlib.Core.List.{List, [], ◌∷◌}
use Prim.Native.Nat.{ℕ, zero, suc, ◌+◌, ◌*◌, ◌≤◌, ◌<◌}
use native.Mathlib.Omega.{arith}
use native.Mathlib.Decide.{ℕ_discrete}
use lib.ListN.{length, get_or, take}
use borrow.Author.Tests.{lt-ltb, eq-eqb, ne_eqb}
use Rattle.std.specs.Prelude.{Ok}
use Rattle.theory.specs.Expressions.{Expr}
use Rattle.theory.specs.Nodes.{op_sum, op_product, op_star, Node, bad, dead, leaf, bin, uses_in, uses, Tree}
use Rattle.theory.specs.PostOrders.{PostOrder, size, root_from, numbered, Acting}
use Rattle.theory.proofs.Tests.{decides_and, decides_eqb, decides_ltb, decides_leb}
use Rattle.theory.proofs.PostOrders.{Good, post_good, post_acting, post_same, post_size, post_tree, root_size, numbered_post, post_numbered}
use Rattle.theory.proofs.TextTests.{size_some}
use Rattle.expression.specs.Table.{kind_of, action_of, left_of, right_of, parse, node, count, is_good, op_of, check_of, WellFormed}
use Rattle.expression.specs.NodeBytes.{op_byte, kind_byte, action_byte, left_byte, right_byte, node_bytes_from, bytes_of, table_of}
use Rattle.expression.proofs.Table.{well_formed→passed}
use Rattle.expression.proofs.View.{good_dead, good_leaf, good_bin, at_dead, at_leaf_lem, at_bin_lem, leaf_action}

-- what 11 asks of an action
abbrev pub Positive : ℕ → Type 0
Positive a = 0 < a

-- THE FIELDS of node j
pub bytes_length : (nd : ℕ → Node) (k n : ℕ) → length (node_bytes_from nd k n) ≡ 4 * n
unfolding node_bytes_from
bytes_length nd k zero = refl
bytes_length nd k (suc n) = omega (arith, bytes_length nd (suc k) n)

past_four : (a b c d : ℕ) (s : List ℕ) (m j : ℕ) → m ≡ suc (suc (suc (suc j))) → get_or (a ∷ b ∷ c ∷ d ∷ s) m 0 ≡ get_or s j 0
past_four a b c d s m j e = rw e

-- the four fields of node k are those of v
pub record Fields (s : List ℕ) (k : ℕ) (v : Node) : Type 0 where
  pub kind : kind_of s k ≡ kind_byte v
  pub action : action_of s k ≡ action_byte v
  pub left : left_of s k ≡ left_byte v
  pub right : right_of s k ≡ right_byte v

later : {s : List ℕ} {j : ℕ} {v : Node} (a b c d : ℕ) → Fields (a ∷ b ∷ c ∷ d ∷ s) (suc j) v ↔ Fields s j v
later {s} {j} a b c d = (
  (λ f. record {
    kind = sym (past_four a b c d s (4 * suc j) (4 * j) (omega arith)) ∙ f.kind;
    action = sym (past_four a b c d s (4 * suc j + 1) (4 * j + 1) (omega arith)) ∙ f.action;
    left = sym (past_four a b c d s (4 * suc j + 2) (4 * j + 2) (omega arith)) ∙ f.left;
    right = sym (past_four a b c d s (4 * suc j + 3) (4 * j + 3) (omega arith)) ∙ f.right;
  }),
  (λ f. record {
    kind = past_four a b c d s (4 * suc j) (4 * j) (omega arith) ∙ f.kind;
    action = past_four a b c d s (4 * suc j + 1) (4 * j + 1) (omega arith) ∙ f.action;
    left = past_four a b c d s (4 * suc j + 2) (4 * j + 2) (omega arith) ∙ f.left;
    right = past_four a b c d s (4 * suc j + 3) (4 * j + 3) (omega arith) ∙ f.right;
  }),
)

fields : (nd : ℕ → Node) (k n j : ℕ) → j < n → Fields (node_bytes_from nd k n) j (nd (k + j))
unfolding node_bytes_from
fields nd k zero j h = absurd (omega arith)
fields nd k (suc n) zero h =
    let e : k + 0 ≡ k = omega arith in rw e (record { kind = refl; action = refl; left = refl; right = refl })
fields nd k (suc n) (suc j) h =
    let e : k + suc j ≡ suc k + j = omega arith in
    let v = nd k in
    rw e ((later (kind_byte v) (action_byte v) (left_byte v) (right_byte v)).1 (fields nd (suc k) n j (omega arith)))

-- THEY ARE READ BACK
parsed : (k : ℕ) (v : Node) → Good Positive k v → parse k (kind_byte v) (action_byte v) (left_byte v) (right_byte v) ≡ v
parsed k bad g = absurd g
parsed k dead g = refl
parsed k (leaf a) g = rw (lt-ltb 0 a g)
parsed k (bin op_sum l r) (p, q) = rw (lt-ltb l k p, lt-ltb r k q)
parsed k (bin op_product l r) (p, q) = rw (lt-ltb l k p, lt-ltb r k q)
parsed k (bin op_star l r) (p, q) = rw (lt-ltb l k p, lt-ltb r k q)

pub read_back : (nd : ℕ → Node) (n k : ℕ) → k < n → Good Positive k (nd k) → node (bytes_of nd n) k ≡ nd k
unfolding node
read_back nd n k h g =
    let f = fields nd 0 n k h in
    let e : 0 + k ≡ k = omega arith in
    rw (f.kind, f.action, f.left, f.right, e) (parsed k (nd k) g)

-- TREES: 10, 11 and 12 pass
good_is : (k : ℕ) (v : Node) → Good Positive k v → is_good v ≡ true
good_is k bad g = absurd g
good_is k dead g = refl
good_is k (leaf a) g = refl
good_is k (bin o l r) g = refl

same_uses : (f g : ℕ → Node) (n j : ℕ) → ((k : ℕ) → k < n → f k ≡ g k) → uses f n j ≡ uses g n j
unfolding uses
same_uses f g zero j h = refl
same_uses f g (suc n) j h =
    ap₂ ◌+◌ (same_uses f g n j (λ k b. h k (omega arith))) (ap (λ (v : Node). uses_in v j) (h n (omega arith)))

pub bytes_count : (nd : ℕ → Node) (n : ℕ) → count (bytes_of nd n) ≡ n
unfolding count
bytes_count nd n = omega (arith, bytes_length nd 0 n)

module _ (nd : ℕ → Node) (n : ℕ) (some : 1 ≤ n) (few : n ≤ 127) (good : (k : ℕ) → k < n → Good Positive k (nd k)) (tree : Tree nd n) where
  pub bytes_well_formed : WellFormed (bytes_of nd n)
  bytes_well_formed =
      let c = bytes_count nd n in
      record {
        sized = record { some = omega arith; few = omega arith; whole = bytes_length nd 0 n ∙ omega arith };
        good = λ k h. let b : k < n = omega arith in rw (read_back nd n k b (good k b)) (good_is k (nd k) (good k b));
        once = λ j h.
            rw (bytes_count nd n)
            (same_uses (node (bytes_of nd n)) nd n j (λ k b. read_back nd n k b (good k b)) ∙ tree.once j (omega arith));
      }

  pub bytes_pass : check_of (bytes_of nd n) ≡ Ok tt
  bytes_pass = well_formed→passed (bytes_of nd n) bytes_well_formed

-- THE TABLE OF AN EXPRESSION
pub table_length : (e : Expr) → length (table_of e) ≡ 4 * size e
table_length e = bytes_length (numbered e) 0 (size e)

pub table_count : (e : Expr) → count (table_of e) ≡ size e
table_count e = bytes_count (numbered e) (size e)

module _ (e : Expr) (acting : Acting Positive e) where
  numbered_good : (k : ℕ) → k < size e → Good Positive k (numbered e k)
  numbered_good k h = post_good Positive (numbered_post 0 e) acting k (omega arith) (omega (arith, root_size 0 e))

  pub table_post : PostOrder (node (table_of e)) 0 e (root_from 0 e)
  table_post = post_same
      (λ k l u. let b : k < size e = omega (arith, root_size 0 e) in sym (read_back (numbered e) (size e) k b (numbered_good k b)))
      (numbered_post 0 e)

  pub table_passes : size e ≤ 127 → check_of (table_of e) ≡ Ok tt
  table_passes few =
      let r : suc (root_from 0 e) ≡ size e = omega (arith, root_size 0 e) in
      bytes_pass (numbered e) (size e) (size_some e) few numbered_good (rw r at (post_tree (numbered_post 0 e)))

-- ITS BYTES ARE THE ONLY ONES: a well_formed node determines its fields
op_byte_lem : (m : ℕ) → 2 ≤ m → m ≤ 4 → m ≡ op_byte (op_of m)
op_byte_lem m l h = elim (ℕ_discrete m 2) [
  | yes e ↦ rw (eq-eqb m 2 e) e
  | no d ↦ elim (ℕ_discrete m 3) [
    | yes e ↦ rw (ne_eqb m 2 d, eq-eqb m 3 e) e
    | no f ↦ rw (ne_eqb m 2 d, ne_eqb m 3 f) (omega arith)
  ]
]

pub node_fields : (s : List ℕ) (k : ℕ) → is_good (node s k) ≡ true → Fields s k (node s k)
node_fields s k g =
    let m = kind_of s k in let a = action_of s k in let l = left_of s k in let r = right_of s k in
    elim (ℕ_discrete m 0) [
      | yes e ↦
          let ((x, y), z) =
          (decides_and (decides_and (decides_eqb a 0) (decides_eqb l 0)) (decides_eqb r 0)).0
          (good_dead s k m a l r refl refl refl refl e ∙ g) in
          rw (at_dead s k g e) (record { kind = e; action = x; left = y; right = z })
      | no d ↦ elim (ℕ_discrete m 1) [
        | yes e ↦
            let ((x, y), z) =
            (decides_and (decides_and (decides_ltb 0 a) (decides_eqb l 0)) (decides_eqb r 0)).0
            (good_leaf s k m a l r refl refl refl refl e ∙ g) in
            rw (at_leaf_lem s k g e) (record { kind = e; action = refl; left = y; right = z })
        | no f ↦
            let (((w, x), y), z) =
            (decides_and (decides_and (decides_and (decides_leb m 4) (decides_eqb a 0)) (decides_ltb l k)) (decides_ltb r k)).0
            (good_bin s k m a l r refl refl refl refl d f ∙ g) in
            let b : 2 ≤ m = omega arith in
            rw (at_bin_lem s k g b) (record { kind = op_byte_lem m b w; action = x; left = refl; right = refl })
      ]
    ]

bytes_are : (nd : ℕ → Node) (k n : ℕ) (s : List ℕ) → 4 * n ≤ length s
    → ((j : ℕ) → j < n → Fields s j (nd (k + j))) → take (4 * n) s ≡ node_bytes_from nd k n
unfolding node_bytes_from
bytes_are nd k zero s b h = refl
bytes_are nd k (suc n) [] b h = absurd (omega arith)
bytes_are nd k (suc n) (p ∷ []) b h = absurd (omega arith)
bytes_are nd k (suc n) (p ∷ q ∷ []) b h = absurd (omega arith)
bytes_are nd k (suc n) (p ∷ q ∷ r ∷ []) b h = absurd (omega arith)
bytes_are nd k (suc n) (p ∷ q ∷ r ∷ t ∷ s) b h =
    let four : 4 * suc n ≡ suc (suc (suc (suc (4 * n)))) = omega arith in
    let here : k + 0 ≡ k = omega arith in
    let f = rw here at (h 0 (omega arith)) in
    let rest = bytes_are nd (suc k) n s (omega arith) (λ j l.
    let e : suc k + j ≡ k + suc j = omega arith in rw e ((later p q r t).0 (h (suc j) (omega arith)))) in
    rw (four, rest, ← f.kind, ← f.action, ← f.left, ← f.right)

pub post_bytes : (s : List ℕ) (e : Expr) {r : ℕ} → 4 * size e ≤ length s → PostOrder (node s) 0 e r → take (4 * size e) s ≡ table_of e
post_bytes s e {r} b h =
    bytes_are (numbered e) 0 (size e) s b (λ k l.
    let up : k ≤ r = omega (arith, post_size h) in
    let here : 0 + k ≡ k = omega arith in
    let good = post_good Positive h (post_acting Positive (λ j a q. (leaf_action s j a q).0) h) k (omega arith) up in
    rw (here, ← post_numbered h k (omega arith) up) (node_fields s k (good_is k (node s k) good)))
