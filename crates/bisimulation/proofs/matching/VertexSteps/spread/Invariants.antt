use Rattle.bisimulation.specs.Classes.{Adds, Cuts}
use Rattle.bisimulation.proofs.SuspectLaws.{Past}
use Rattle.bisimulation.proofs.matching.VertexSteps.spread.Given as goal

abbrev pub invariant-loop-w : goal.invariant-loop-w
invariant-loop-w l = Adds (Past l.fn.vertices l.w-iterator.left) l.steps l.initial.self.into l.self.into
    × Cuts (Past l.fn.vertices l.w-iterator.left) l.every l.initial.self.all l.self.all
    × Adds (Past l.fn.vertices l.w-iterator.left) l.some l.initial.self.any l.self.any
