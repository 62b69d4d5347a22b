use Rattle.bits.proofs.Members.{with_law}
use Rattle.bits.proofs.Words.{low_with_law, high_with_law}
use Rattle.bits.proofs.sets.Set.with.Goals as goal

pub returns : goal.returns
returns c = with_law c.args.self c.args.w _ c.requires (λ j. low_with_law c.args.self.lo c.args.w j c.requires) (λ j. high_with_law c.args.self.hi c.args.w j c.requires)
