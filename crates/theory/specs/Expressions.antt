-- Star expressions with binary star and no empty step, and the steps that the seven rules derive (001, section 2).
use Rattle.std.specs.Prelude.{ℕ}

pub data Expr : Type 0 where
  deadlock : Expr
  act : ℕ → Expr
  sum : Expr → Expr → Expr
  product : Expr → Expr → Expr
  -- the left part is repeated, the right one leaves
  star : Expr → Expr → Expr

-- 001's ξ: the end (001's tick) or an expression
pub data Target : Type 0 where
  end : Target
  to : Expr → Target

-- i = 1, 2 of the rule for sums
pub data Side : Type 0 where
  left right : Side

abbrev pub operand : Side → Expr → Expr → Expr
operand left e f = e
operand right e f = f

-- one constructor a rule, in the order of 001
pub data Step : Expr → ℕ → Target → Type 0 where
  action : {a : ℕ} → Step (act a) a end
  summand : {e f : Expr} {a : ℕ} {t : Target} (i : Side) → Step (operand i e f) a t → Step (sum e f) a t
  product_on : {e f g : Expr} {a : ℕ} → Step e a (to g) → Step (product e f) a (to (product g f))
  product_done : {e f : Expr} {a : ℕ} → Step e a end → Step (product e f) a (to f)
  star_on : {e f g : Expr} {a : ℕ} → Step e a (to g) → Step (star e f) a (to (product g (star e f)))
  star_again : {e f : Expr} {a : ℕ} → Step e a end → Step (star e f) a (to (star e f))
  star_leave : {e f : Expr} {a : ℕ} {t : Target} → Step f a t → Step (star e f) a t
