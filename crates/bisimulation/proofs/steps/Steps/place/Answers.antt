use Rattle.bisimulation.proofs.PlaceLaws.{place_step}
use Rattle.bisimulation.proofs.steps.Steps.place.Goals as goal

pub returns : goal.returns
returns c = λ e keys m W N l. place_step W N _ (c.first_place.ensures.1 e keys m W N) _ _ l c.count_bits_below.ensures.0
