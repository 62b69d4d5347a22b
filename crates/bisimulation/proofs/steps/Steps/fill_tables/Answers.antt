use borrow.Author.Rules.{rules}
use Rattle.bisimulation.proofs.ClassLaws.{sorted_none, classed}
use Rattle.bisimulation.proofs.SuspectLaws.{spread_none, into_all, all_joined}
use Rattle.bisimulation.proofs.steps.Steps.fill_tables.Goals as goal

pub classify-plural-requires : goal.classify-plural-requires
classify-plural-requires c =
    (classed c.args.self.now.stepped c.classes-class.ensures, sorted_none _ 128, c.requires.1)

pub invariant_of-classified : goal.invariant_of-classified
invariant_of-classified c = record {
  classed = classed c.args.self.now.stepped c.classes-class.ensures;
  leads = c.classify-plural.ensures.0;
  acts = c.classify-plural.ensures.1;
}

pub invariant_of-classes : goal.invariant_of-classes
invariant_of-classes c = record { few = c.classes-class.ensures.few }

pub spread-requires : goal.spread-requires
spread-requires c = (c.args.self.now.stepped.some, spread_none c.requires.0 (search rules) (search rules))

pub returns : goal.returns
returns c =
    let T = c.args.self.now.stepped in
    let C = c.classes-class.ensures in
    let L = c.classify-plural.ensures.0 in
    let S = c.spread.ensures in
    (into_all T C L S.0, c.classify-plural.ensures.1, all_joined T C L S.0 c.join_rows.ensures S.1)
