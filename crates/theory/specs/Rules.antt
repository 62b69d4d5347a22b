-- The published rules as a transition system whose states are expressions and the end.
use Rattle.std.specs.Prelude.{◌≡◌, ℕ}
use Rattle.theory.specs.Expressions.{Expr, Target, end, to, Step}
use Rattle.theory.specs.Systems.{System}

-- an expression has the steps that the rules derive for it, the end none
pub data Derives : Target → ℕ → Target → Type 0 where
  by_rules : {e : Expr} {a : ℕ} {t : Target} → Step e a t → Derives (to e) a t

abbrev pub rules : Expr → System
rules e = record { State = Target; start = to e; End = λ t. t ≡ end; Step = Derives }
