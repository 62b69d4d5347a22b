-- What the writers of a text and of a sum are given, and what they leave in the table of nodes.
use Rattle.std.specs.Prelude as std
use Rattle.std.specs.Prelude.{ℕ, suc, ◌+◌, ◌<◌, ◌≤◌, ◌≡◌, ◌≢◌, List, length, MatchOption}
use Rattle.std.proofs.Math.Option.{Option, none, some}
use Rattle.theory.specs.Expressions.{Expr, act, product}
use Rattle.theory.specs.Nodes.{Node, leaf}
use Rattle.theory.specs.LabelledCharts.{LabelledChart, entries, branches}
use Rattle.theory.specs.LabelledCharts as half
use Rattle.theory.specs.PostOrders.{PostOrder, size}
use Rattle.theory.specs.Texts.{plus, total, Sum}
use Rattle.chart.specs.Systems.{drawn_of}
use Rattle.expression.specs.Table.{node}
use Rattle.witness.specs.declared.Labelling.{Labelling}
use Rattle.extraction.specs.declared.texts.Half.{Half}
use Rattle.extraction.specs.declared.texts.Half.TheVariants.{Entries, Branches}

-- the entries, or the branches
abbrev pub half_of : Half → half.Half
half_of Entries = entries
half_of Branches = branches

-- the chart with its labels
abbrev pub drawing : Labelling → LabelledChart
drawing l = drawn_of l.chart.now.body.now l.labels.now

-- which half a transition with this label is in
abbrev pub LabelIn : half.Half → ℕ → Type 0
LabelIn entries label = label ≢ 0
LabelIn branches label = label ≡ 0

-- the nodes that may be written: those below `limit`, from `count` on
pub record NodeRoom (count limit : ℕ) : Type 0 where
  pub few : count ≤ 127
  pub within : limit ≤ 127

-- the nodes below n are as they were
pub record KeptBelow (n : ℕ) (s t : List ℕ) : Type 0 where
  pub long : length t ≡ length s
  pub same : (j : ℕ) → j < n → node t j ≡ node s j

-- node `at` is x, and those before it are as they were
pub record Put (at : ℕ) (x : Node) (s t : List ℕ) : Type 0 where
  pub kept : KeptBelow at s t
  pub is : node t at ≡ x

-- the nodes of x, if anything, stand from b on, and the next is e
pub data NodesOf (nd : ℕ → Node) (b : ℕ) : Option Expr → ℕ → Type 0 where
  no_node : NodesOf nd b none b
  nodes : {e : Expr} {r : ℕ} → PostOrder nd b e r → NodesOf nd b (some e) (suc r)

-- the action by itself, or times what follows it
abbrev pub followed : ℕ → Option Expr → Expr
followed a none = act a
followed a (some e) = product (act a) e

-- an item's product is put, where a text follows its leaf: it ends before r
pub record Timed (leaf_at next : ℕ) (s t : List ℕ) (r : ℕ) : Type 0 where
  pub kept : KeptBelow next s t
  pub item : (a : ℕ) (y : Option Expr) → node s leaf_at ≡ leaf a → NodesOf (node s) (suc leaf_at) y next
      → NodesOf (node t) leaf_at (some (followed a y)) r

-- a sum's node is put, where there is something before the item: it ends before r
pub record Added (count item next : ℕ) (s t : List ℕ) (r : ℕ) : Type 0 where
  pub kept : KeptBelow next s t
  pub sum : (x : Option Expr) (e : Expr) → NodesOf (node s) count x item → NodesOf (node s) item (some e) next
      → NodesOf (node t) count (some (plus x e)) r

-- an expression with P is written from b on, and the next node is at most `limit`; or every one would need more. The
-- nodes below b are as they were
pub record Wrote (P : Expr → Type 0) (b limit : ℕ) (s t : List ℕ) (r : std.Option ℕ) : Type 0 where
  pub kept : KeptBelow b s t
  pub said : MatchOption r
      ((e : Expr) → P e → limit < b + size e)
      (λ next. (e : Expr) × P e × NodesOf (node t) b (some e) next × (next ≤ limit))

-- the sum of a vertex's entries or branches
abbrev pub WholeSum : LabelledChart → half.Half → ℕ → ℕ → Expr → Type 0
WholeSum c half w back e = (x : Option Expr) × Sum c half w back c.chart.count x × (e ≡ total x)
