use mathlib.Core.Logic.{inl, inr, ⊎_elim}
use Rattle.theory.proofs.Tests.{decides_and, decides_eqb}
use Rattle.bisimulation.proofs.steps.Steps.with_fitting.Goals as goal

pub related-requires : goal.related-requires
related-requires c = let S = c.args.self.now.stepped in (S.targets _ c.requires.0, c.requires.1)

pub returns-then-fits : goal.returns-then-fits
returns-then-fits c =
    let (e, r) = (decides_and (decides_eqb _ _) c.related.ensures).0 c.if-fits.true in
    λ j on. ⊎_elim inl (λ f. inr (f, e, r)) ((c.with_bit.ensures.exactly j).0 on)

pub returns : goal.returns
returns c = λ j on. inl on
