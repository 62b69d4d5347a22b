-- The steps of an expression as a list.
use Rattle.std.specs.Prelude.{ℕ, List, [], ◌∷◌, ◌++◌, map}
use Rattle.theory.specs.Expressions.{Expr, deadlock, act, sum, product, star, Target, end, to}

-- an action and where it leads
abbrev pub Move : Type 0
Move = ℕ × Target

-- what a target becomes when f comes after it
abbrev pub onto : Expr → Target → Target
onto f end = to f
onto f (to g) = to (product g f)

abbrev pub moved : Expr → Move → Move
moved f m = (m.0, onto f m.1)

-- in the order of the expression's actions, from the left
abbrev pub derivatives : Expr → List Move
derivatives deadlock = []
derivatives (act a) = (a, end) ∷ []
derivatives (sum e f) = derivatives e ++ derivatives f
derivatives (product e f) = map (moved f) (derivatives e)
derivatives (star e f) = map (moved (star e f)) (derivatives e) ++ derivatives f
