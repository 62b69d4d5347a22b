use mathlib.Core.Path.{◌≡◌}
use Rattle.chart.specs.Steps.{Kept, StandingOf}
use Rattle.elimination.specs.Together.{loops_of}
use Rattle.elimination.proofs.Rulings.{Carried, Gone}
use Rattle.elimination.proofs.opening.Standing.ruled_each.Given as goal

abbrev pub invariant-loop-i : goal.invariant-loop-i
invariant-loop-i l = (l.rows.chart.now.body.now ≡ l.self.chart.now)
    × (l.rows.standing.now ≡ l.self.standing.now)
    × Gone (StandingOf l.self.chart.now l.self.labels.now l.self.standing.now) (loops_of l.loops) l.i l.bodies
    × Carried (Kept l.self.chart.now l.self.standing.now) l.bodies l.stops
