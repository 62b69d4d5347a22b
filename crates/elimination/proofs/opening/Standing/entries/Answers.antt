use Rattle.theory.proofs.Tests.{not_so}
use Rattle.elimination.proofs.Answers.{none_stands, some_stands}
use Rattle.elimination.proofs.opening.Standing.entries.Goals as goal

pub returns-then-is_empty : goal.returns-then-is_empty
returns-then-is_empty c =
    none_stands c.args.self.now.fits (c.entry_targets-targets.ensures _ c.requires) (c.is_empty.ensures.0 c.if-is_empty.true)

pub returns : goal.returns
returns c =
    some_stands c.args.self.now.fits (c.entry_targets-targets.ensures _ c.requires) (not_so c.is_empty.ensures c.if-is_empty.false)
