use Rattle.bisimulation.proofs.PairChecks.{RowsJoined}
use Rattle.bisimulation.proofs.all_inside.Given as goal

abbrev pub invariant-loop-u : goal.invariant-loop-u
invariant-loop-u l = RowsJoined l.relation.bytes.now l.u l.all
