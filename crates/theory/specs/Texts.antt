-- The text of a vertex (document 02, C-14). The inner text of w back to v is one notion with the text of w, which is
-- the one back to the end, vertex 0.
use Rattle.std.specs.Prelude.{◌≡◌, ◌≢◌, ℕ, zero, suc}
use Rattle.std.proofs.Math.Option.{Option, none, some}
use Rattle.theory.specs.Expressions.{Expr, deadlock, act, sum, product, star}
use Rattle.theory.specs.LabelledCharts.{LabelledChart, Half, entries, branches, InHalf}

-- SUMS nest to the left: an item after what is summed so far, which may be nothing
abbrev pub plus : Option Expr → Expr → Expr
plus none e = e
plus (some d) e = sum d e

-- an empty sum is deadlock
abbrev pub total : Option Expr → Expr
total none = deadlock
total (some d) = d

mutual
  -- Text c w back e: e is the text of w back to `back`: a star, left the sum over w's entries, back to w, right the sum
  -- over its branches, back to `back`. The end has no text
  pub data Text (c : LabelledChart) : ℕ → ℕ → Expr → Type 0 where
    text : {w back : ℕ} {x y : Option Expr} → w ≢ 0
        → Sum c entries w w c.chart.count x → Sum c branches w back c.chart.count y
        → Text c w back (star (total x) (total y))

  -- Sum c half w back n x: x is the sum, so far, of the items of those of w's entries or branches that stand below n,
  -- in the order of transitions. An item is the action, times the target's text back to `back` unless the target is
  -- `back`
  pub data Sum (c : LabelledChart) : Half → ℕ → ℕ → ℕ → Option Expr → Type 0 where
    nothing : {half : Half} {w back : ℕ} → Sum c half w back zero none
    other : {half : Half} {w back n : ℕ} {x : Option Expr} → Sum c half w back n x
        → ¬ InHalf c half w n → Sum c half w back (suc n) x
    alone : {half : Half} {w back n : ℕ} {x : Option Expr} → Sum c half w back n x
        → InHalf c half w n → c.chart.to n ≡ back
        → Sum c half w back (suc n) (some (plus x (act (c.chart.action n))))
    times : {half : Half} {w back n : ℕ} {x : Option Expr} {e : Expr} → Sum c half w back n x
        → InHalf c half w n → c.chart.to n ≢ back → Text c (c.chart.to n) back e
        → Sum c half w back (suc n) (some (plus x (product (act (c.chart.action n)) e)))
