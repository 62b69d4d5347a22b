use Rattle.reach.proofs.Searches.{Turned}
use Rattle.reach.proofs.cycle_from_below.Given as goal

abbrev pub invariant-loop-w : goal.invariant-loop-w
invariant-loop-w l = Turned l.next l.n l.initial.after 0 l.w l.past l.after
