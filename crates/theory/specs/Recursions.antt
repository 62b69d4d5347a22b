-- What an algebra may read for its fuel not to matter, in going down and in climbing.
use Rattle.std.specs.Prelude.{◌≡◌, ℕ}
use Rattle.theory.specs.Nodes.{Op, Node, bin, Up, top, on, over}

-- going down, an algebra reads nothing but a node's operands
unfoldable pub Local : {A : Type 0} → (ℕ → Node → (ℕ → A) → A) → Type 0
Local {A} alg = (k : ℕ) (v : Node) (x y : ℕ → A) → ((o : Op) (l r : ℕ) → v ≡ bin o l r → (x l ≡ y l) × (x r ≡ y r))
    → alg k v x ≡ alg k v y

-- q is the node to climb on from
abbrev pub Parent : Up → ℕ → Type 0
Parent top q = ⊥
Parent (on p) q = p ≡ q
Parent (over r p) q = p ≡ q

-- climbing, an algebra reads nothing but the parent
unfoldable pub LocalUp : {A : Type 0} → (ℕ → Up → (ℕ → A) → A) → Type 0
LocalUp {A} alg = (j : ℕ) (u : Up) (x y : ℕ → A) → ((q : ℕ) → Parent u q → x q ≡ y q) → alg j u x ≡ alg j u y
