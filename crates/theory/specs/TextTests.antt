-- The text of a vertex as a function that runs, with a budget: each text that is written takes one of it.
use Rattle.std.specs.Prelude.{Bool, cond, ◌&&◌, not, ℕ, zero, suc, eqb, leb}
use Rattle.std.proofs.Math.Option.{Option, none, some}
use Rattle.theory.specs.Expressions.{Expr, act, product, star}
use Rattle.theory.specs.LabelledCharts.{LabelledChart, Half, entries, branches}
use Rattle.theory.specs.Texts.{plus, total}
use Rattle.theory.specs.PostOrders.{size}

-- transition i is one of w's entries, of w's branches
abbrev pub in_half : LabelledChart → Half → ℕ → ℕ → Bool
in_half c entries w i = eqb (c.chart.from i) w && not (eqb (c.label i) 0)
in_half c branches w i = eqb (c.chart.from i) w && eqb (c.label i) 0

abbrev pub times_all : ℕ → Option Expr → Option Expr
times_all a none = none
times_all a (some e) = some (product (act a) e)

abbrev pub plus_all : Option (Option Expr) → Option Expr → Option (Option Expr)
plus_all none e = none
plus_all (some x) none = none
plus_all (some x) (some e) = some (some (plus x e))

abbrev pub star_all : Option (Option Expr) → Option (Option Expr) → Option Expr
star_all none y = none
star_all (some x) none = none
star_all (some x) (some y) = some (star (total x) (total y))

-- by a function that writes texts: the item of transition i, and the sum of the items below n; none where a text is
-- not written
module _ (c : LabelledChart) (write : ℕ → ℕ → Option Expr) where
  unfoldable pub item : ℕ → ℕ → Option Expr
  item back i =
      cond (eqb (c.chart.to i) back) (some (act (c.chart.action i)))
      (times_all (c.chart.action i) (write (c.chart.to i) back))

  unfoldable pub sum_of : Half → ℕ → ℕ → ℕ → Option (Option Expr)
  sum_of half w back zero = some none
  sum_of half w back (suc n) =
      cond (in_half c half w n) (plus_all (sum_of half w back n) (item back n)) (sum_of half w back n)

  unfoldable pub star_of : ℕ → ℕ → Option Expr
  star_of w back =
      cond (eqb w 0) none
      (star_all (sum_of entries w w c.chart.count) (sum_of branches w back c.chart.count))

-- the text of w back to `back`; none where the budget does not suffice or there is no text. The budget bounds how deep
-- texts stand in texts
unfoldable pub written : LabelledChart → ℕ → ℕ → ℕ → Option Expr
written c zero w back = none
written c (suc f) w back = star_of c (written c f) w back

-- the text where it has no more than n nodes: 58 is refused where there is none for n = 127
abbrev pub up_to : ℕ → Option Expr → Option Expr
up_to n none = none
up_to n (some e) = cond (leb (size e) n) (some e) none

unfoldable pub fitting : LabelledChart → ℕ → ℕ → ℕ → Option Expr
fitting c n w back = up_to n (written c n w back)
