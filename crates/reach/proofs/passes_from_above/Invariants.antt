use Rattle.reach.proofs.Searches.{Turned}
use Rattle.reach.proofs.passes_from_above.Given as goal

abbrev pub invariant-loop-w : goal.invariant-loop-w
invariant-loop-w l = Turned l.next l.n l.initial.after l.w l.n l.past l.after
