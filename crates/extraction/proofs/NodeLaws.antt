-- A node is put in the table: it is there, those before it are kept, and an operator's node joins what stands before it.
use Prim.Native.Nat.{ℕ, suc, ◌+◌, ◌-◌, ◌*◌, ◌≤◌, ◌<◌}
use mathlib.Core.Path.{◌≡◌, refl, sym, ap, ◌∙◌, subst}
use mathlib.Core.Logic.{◌≢◌}
use mathlib.Core.List.{List, [], ◌∷◌, ◌++◌, append_assoc}
use mathlib.Core.Option.{Option, none, some}
use native.Mathlib.Omega.{arith}
use lib.ListN.{length, get_or, set, take, drop, length-append, length-drop, get_or-append}
use lib.Seq.{sets-eq, get_or-take, get_or-append-add, length-take-le}
use borrow.Author.Tests.{lt-ltb}
use Rattle.theory.specs.Expressions.{Expr, deadlock, act, sum, product}
use Rattle.theory.specs.Nodes.{Op, op_sum, op_product, op_star, Node, leaf, bin, grow}
use Rattle.theory.specs.PostOrders.{dead_at, leaf_at, bin_at, size}
use Rattle.theory.specs.Texts.{plus}
use Rattle.theory.proofs.TextTests.{size_some}
use Rattle.theory.proofs.PostOrders.{post_size, post_low_high, post_same}
use Rattle.expression.specs.NodeBytes.{op_byte}
use Rattle.expression.specs.Table.{parse, node}
use Rattle.extraction.specs.Writers.{KeptBelow, Put, NodesOf, no_node, nodes, followed, Timed, Added}

-- WHAT STANDS IN THE TABLE. How many nodes
abbrev pub size_of : Option Expr → ℕ
size_of none = 0
size_of (some e) = size e

pub nodes_end : {nd : ℕ → Node} {b e : ℕ} (x : Option Expr) → NodesOf nd b x e → e ≡ b + size_of x
nodes_end none no_node = omega arith
nodes_end (some e) (nodes p) = post_size p

-- in another table with the same nodes
pub nodes_same : {nd nd' : ℕ → Node} {b e : ℕ} (x : Option Expr) → ((k : ℕ) → k < e → nd' k ≡ nd k) → NodesOf nd b x e → NodesOf nd' b x e
nodes_same none f no_node = no_node
nodes_same (some d) f (nodes p) = nodes (post_same (λ k l h. sym (f k (omega arith))) p)

-- a table that is not changed keeps all
pub kept_all : {n : ℕ} {s : List ℕ} → KeptBelow n s s
kept_all = record { long = refl; same = λ j h. refl }

pub kept_both : {m n : ℕ} {s t u : List ℕ} → m ≤ n → KeptBelow m s t → KeptBelow n t u → KeptBelow m s u
kept_both l K L = record { long = L.long ∙ K.long; same = λ j h. L.same j (omega arith) ∙ K.same j h }

-- A NODE IS PUT: four bytes take the place of four
abbrev four_set : List ℕ → ℕ → ℕ → ℕ → ℕ → ℕ → List ℕ
four_set s p a b c d = set (set (set (set s p a) (p + 1) b) (p + 2) c) (p + 3) d

module _ (s : List ℕ) (p a b c d : ℕ) (room : p + 4 ≤ length s) where
  four_is : four_set s p a b c d ≡ take p s ++ a ∷ b ∷ c ∷ d ∷ drop (p + 4) s
  four_is =
      let second : p + 1 ≡ suc p = omega arith in
      let third : p + 2 ≡ suc (suc p) = omega arith in
      let last : p + 3 ≡ suc (suc (suc p)) = omega arith in
      rw (second, third, last)
      (sets-eq (a ∷ b ∷ c ∷ d ∷ []) s p room ∙ append_assoc (take p s) (a ∷ b ∷ c ∷ d ∷ []) (drop (p + 4) s))

  before : length (take p s) ≡ p
  before = length-take-le p s (omega arith)

  four_long : length (four_set s p a b c d) ≡ length s
  four_long =
      rw (four_is, length-append (take p s) (a ∷ b ∷ c ∷ d ∷ drop (p + 4) s)) (omega (arith, before, length-drop (p + 4) s))

  four_other : (i : ℕ) → i < p → get_or (four_set s p a b c d) i 0 ≡ get_or s i 0
  four_other i h =
      rw four_is (get_or-append (take p s) (a ∷ b ∷ c ∷ d ∷ drop (p + 4) s) 0 i (omega (arith, before)) ∙ get_or-take p s i 0 h)

  four_there : (k : ℕ) → get_or (four_set s p a b c d) (p + k) 0 ≡ get_or (a ∷ b ∷ c ∷ d ∷ drop (p + 4) s) k 0
  four_there k =
      ap (λ (n : ℕ). get_or (four_set s p a b c d) (n + k) 0) (sym before)
      ∙ rw four_is (get_or-append-add (take p s) (a ∷ b ∷ c ∷ d ∷ drop (p + 4) s) k 0)

pub put_four : (s : List ℕ) (at kind action left right : ℕ) → length s ≡ 508 → at < 127
    → Put at (parse at kind action left right) s (four_set s (4 * at) kind action left right)
unfolding node
put_four s at kind action left right l h =
    let p : ℕ = 4 * at in
    let t : List ℕ = four_set s p kind action left right in
    let room : p + 4 ≤ length s = omega arith in
    let other = four_other s p kind action left right room in
    let there = four_there s p kind action left right room in
    let first : get_or t p 0 ≡ kind = ap (λ (n : ℕ). get_or t n 0) (omega arith) ∙ there 0 in
    record {
      kept = record {
        long = four_long s p kind action left right room;
        same = λ j g. rw (
          other (4 * j) (omega arith),
          other (4 * j + 1) (omega arith),
          other (4 * j + 2) (omega arith),
          other (4 * j + 3) (omega arith),
        );
      };
      is = rw (first, there 1, there 2, there 3);
    }

-- WHAT THE NODE IS
is_leaf : (k a : ℕ) → 0 < a → parse k 1 a 0 0 ≡ leaf a
is_leaf k a h = rw (lt-ltb 0 a h)

is_operator : (o : Op) (k l r : ℕ) → l < k → r < k → parse k (op_byte o) 0 l r ≡ bin o l r
is_operator op_sum k l r p q = rw (lt-ltb l k p, lt-ltb r k q)
is_operator op_product k l r p q = rw (lt-ltb l k p, lt-ltb r k q)
is_operator op_star k l r p q = rw (lt-ltb l k p, lt-ltb r k q)

-- A NODE WITHOUT OPERANDS
pub leaf_put : {at a : ℕ} {s t : List ℕ} → 0 < a → Put at (parse at 1 a 0 0) s t → node t at ≡ leaf a
leaf_put {at} {a} h P = P.is ∙ is_leaf at a h

pub dead_put : {at : ℕ} {s t : List ℕ} → Put at (parse at 0 0 0 0) s t → NodesOf (node t) at (some deadlock) (suc at)
dead_put P = nodes (dead_at P.is)

-- AN OPERATOR'S NODE after its operands
pub join : (o : Op) {nd : ℕ → Node} {b m r : ℕ} {e f : Expr} → NodesOf nd b (some e) m → NodesOf nd m (some f) r
    → nd r ≡ parse r (op_byte o) 0 (m - 1) (r - 1) → NodesOf nd b (some (grow o e f)) (suc r)
join o (nodes {r = i} p) (nodes {r = j} q) h =
    let x : suc i - 1 ≡ i = omega arith in
    let y : suc j - 1 ≡ j = omega arith in
    nodes (bin_at o p q ((rw (x, y) at h) ∙ is_operator o (suc j) i j (omega (arith, post_low_high q)) (omega arith)))

-- an item is the action, or the action times the text after it
pub timed_alone : {l next : ℕ} {s : List ℕ} → l + 1 ≡ next → Timed l next s s next
timed_alone {l} {next} {s} g = record { kept = kept_all; item = item }
  where
    item : (a : ℕ) (y : Option Expr) → node s l ≡ leaf a → NodesOf (node s) (suc l) y next
        → NodesOf (node s) l (some (followed a y)) next
    item a none e n = let z : suc l ≡ next = omega arith in subst (NodesOf (node s) l (some (act a))) z (nodes (leaf_at e))
    item a (some f) e n = absurd (omega (arith, nodes_end (some f) n, size_some f))

pub timed_text : {l next : ℕ} {s t : List ℕ} → l < next → l + 1 ≢ next → Put next (parse next 3 0 l (next - 1)) s t
    → Timed l next s t (next + 1)
timed_text {l} {next} {s} {t} h g P = record { kept = P.kept; item = item }
  where
    item : (a : ℕ) (y : Option Expr) → node s l ≡ leaf a → NodesOf (node s) (suc l) y next
        → NodesOf (node t) l (some (followed a y)) (next + 1)
    item a none e n = absurd (g (omega (arith, nodes_end none n)))
    item a (some f) e n =
        let z : suc next ≡ next + 1 = omega arith in
        let y : suc l - 1 ≡ l = omega arith in
        let q : node t next ≡ parse next 3 0 (suc l - 1) (next - 1) = rw y P.is in
        subst (NodesOf (node t) l (some (product (act a) f))) z
        (join op_product (nodes (leaf_at (P.kept.same l h ∙ e))) (nodes_same (some f) P.kept.same n) q)

-- a sum is its first item, or what was there and the item after it
pub added_first : {count item next : ℕ} {s : List ℕ} → count ≡ item → Added count item next s s next
added_first {count} {item} {next} {s} z = record { kept = kept_all; sum = go }
  where
    go : (x : Option Expr) (e : Expr) → NodesOf (node s) count x item → NodesOf (node s) item (some e) next
        → NodesOf (node s) count (some (plus x e)) next
    go none e m n = subst (λ (k : ℕ). NodesOf (node s) k (some e) next) (sym z) n
    go (some d) e m n = absurd (omega (arith, nodes_end (some d) m, size_some d))

pub added_later : {count item next : ℕ} {s t : List ℕ} → count < item → Put next (parse next 2 0 (item - 1) (next - 1)) s t
    → item < next → Added count item next s t (next + 1)
added_later {count} {item} {next} {s} {t} h P l = record { kept = P.kept; sum = go }
  where
    go : (x : Option Expr) (e : Expr) → NodesOf (node s) count x item → NodesOf (node s) item (some e) next
        → NodesOf (node t) count (some (plus x e)) (next + 1)
    go none e m n = absurd (omega (arith, nodes_end none m))
    go (some d) e m n =
        let z : suc next ≡ next + 1 = omega arith in
        subst (NodesOf (node t) count (some (sum d e))) z
        (join op_sum (nodes_same (some d) (λ k g. P.kept.same k (omega arith)) m) (nodes_same (some e) P.kept.same n) P.is)
