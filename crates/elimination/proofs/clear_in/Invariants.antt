use Rattle.elimination.proofs.Entries.{Clearing}
use Rattle.elimination.proofs.clear_in.Given as goal

abbrev pub invariant-loop-i : goal.invariant-loop-i
invariant-loop-i l = Clearing l.labels l.level l.i l.initial.standing l.standing
