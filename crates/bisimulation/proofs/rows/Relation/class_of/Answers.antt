use native.Mathlib.Omega.{arith}
use mathlib.Core.Path.{refl}
use mathlib.Core.Logic.{inl, inr}
use Rattle.bisimulation.proofs.rows.Relation.class_of.Goals as goal

pub returns-then-c-eq0 : goal.returns-then-c-eq0
returns-then-c-eq0 c = (c.requires.1, inl refl)

pub returns-then-not-same : goal.returns-then-not-same
returns-then-not-same c = (c.requires.1, inl refl)

pub returns : goal.returns
returns c =
    (c.requires.0, inr (refl, omega (arith, c.if-c-eq0.false), c.same.ensures c.if-not-same.false))
