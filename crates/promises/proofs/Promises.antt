-- All that is promised, proved.
use Rattle.chart.proofs.Checks.{passes}
use Rattle.promises.specs.Promises.{Promises}
use Rattle.promises.proofs.Accepted.{accepted_iff_holds}
use Rattle.promises.proofs.Check.{check_numbers}
use Rattle.promises.proofs.ExpressionChart.{chart_numbers}
use Rattle.promises.proofs.Removal.{removal_numbers}
use Rattle.promises.proofs.Follower.{lent_numbers, call_numbers, restart_numbers}
use Rattle.report.proofs.NumberLaws.{one_verdict, one_length, one_removal, one_removal, one_followed, one_length}
use Rattle.report.proofs.NumberLaws.{one_length}
use Rattle.promises.proofs.VertexTransitions.{handed_back_lem}
use Rattle.promises.proofs.ShortestWay.{way_numbers_lem, of_shortest_ways}
use Rattle.promises.proofs.LoopsTogether.{together_numbers_lem, in_every_order, empty_done, over_accepted}
use Rattle.promises.proofs.Extraction.{extraction_numbers, of_start_texts, of_written, gives_G}
use Rattle.promises.proofs.Spoiling.{of_an_event, spoilt_until_restart}
use Rattle.promises.proofs.Demand2.{writes_the_chart, labelling_passes, relation_passes}
use Rattle.promises.proofs.Demand3.{demand_3}

pub promises : Promises
promises = record {
  check = check_numbers;
  expression_chart = chart_numbers;
  removal = removal_numbers;
  on_lent_bytes = lent_numbers;
  on_a_state = call_numbers;
  restart_by_value = restart_numbers;
  numbers_tell = (one_verdict, one_length, one_removal, one_removal, one_followed, one_length, one_length);
  vertex_transitions = handed_back_lem;
  accepted = accepted_iff_holds;
  writes_the_chart = writes_the_chart;
  labelling_passes = λ b labels W bytes. labelling_passes b labels (passes b W) bytes;
  relation_passes = relation_passes;
  over_accepted = λ f bytes v t l accepted. demand_3 f bytes accepted;
  shortest_way_lem = way_numbers_lem;
  shortest_ways = λ b s B D P. of_shortest_ways B D P;
  loops_together = together_numbers_lem;
  in_every_order = in_every_order;
  empty_done = λ b labels standing B F. empty_done B F;
  together_accepted = λ f bytes v t l accepted X of_file standing h. over_accepted f bytes accepted of_file h;
  expression_of_chart = extraction_numbers;
  start_texts = of_start_texts;
  written_tables = of_written;
  gives_G = gives_G;
  an_event = of_an_event;
  spoilt_until_restart = spoilt_until_restart;
}
