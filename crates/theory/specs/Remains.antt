-- What remains to be done at a vertex: its text back to some vertex, that vertex's text back to another, and so on to
-- the end.
use Rattle.std.specs.Prelude.{List, [], ◌∷◌, ℕ, ◌<◌}
use Rattle.theory.specs.Expressions.{Expr, deadlock, act, sum, product, star, Target, end, to}
use Rattle.theory.specs.Nodes.{Node, Means}
use Rattle.theory.specs.LabelledCharts.{LabelledChart}
use Rattle.theory.specs.Texts.{Text}

-- Remains c vertices es v: es are such texts, in turn, that begin at v
pub data Remains (c : LabelledChart) (vertices : ℕ) : List Expr → ℕ → Type 0 where
  over : Remains c vertices [] 0
  next : {v back : ℕ} {e : Expr} {es : List Expr} → v < vertices → Text c v back e → Remains c vertices es back
      → Remains c vertices (e ∷ es) v

-- the factors of a product that is nested to the left
abbrev pub factors : Expr → List Expr → List Expr
factors deadlock es = deadlock ∷ es
factors (act a) es = act a ∷ es
factors (sum e f) es = sum e f ∷ es
factors (product e f) es = factors e (f ∷ es)
factors (star e f) es = star e f ∷ es

abbrev pub pieces : Target → List Expr
pieces end = []
pieces (to e) = factors e []

-- a target is related to v where its factors are what remains at v
abbrev pub AtVertex : LabelledChart → ℕ → Target → ℕ → Type 0
AtVertex c vertices ξ v = Remains c vertices (pieces ξ) v

-- vertex u of the chart of a table of n nodes stands for what remains at v
abbrev pub RemainsAt : LabelledChart → ℕ → (ℕ → Node) → ℕ → ℕ → ℕ → Type 0
RemainsAt c vertices nd n u v = (ξ : Target) × Means nd n u ξ × AtVertex c vertices ξ v
