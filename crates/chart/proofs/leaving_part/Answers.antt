use Rattle.chart.proofs.leaving_part.Goals as goal

pub part_in-requires : goal.part_in-requires
part_in-requires c = (c.requires, (_, c.range_of.ensures))

pub returns : goal.returns
returns c = c.part_in.ensures _ c.range_of.ensures
