use Rattle.chart.specs.Standing.{TakenOutOf}
use Rattle.elimination.specs.RemovalAnswers.{Fits}
use Rattle.elimination.proofs.LoopLists.{AmongFirst}
use Rattle.elimination.proofs.clear_all.Given as goal

abbrev pub invariant-loop-i : goal.invariant-loop-i
invariant-loop-i l =
    Fits l.chart l.labels l.standing × TakenOutOf l.chart l.labels (AmongFirst l.loops l.i) l.initial.standing l.standing
