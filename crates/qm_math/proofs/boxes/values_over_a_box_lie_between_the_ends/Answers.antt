use Rattle.qm_math.proofs.Ends.{total_of-least_multiple, total_of-greatest_multiple}
use Rattle.qm_math.proofs.boxes.values_over_a_box_lie_between_the_ends.Goals as goal

pub returns-clause-least : goal.returns-clause-least
returns-clause-least c = total_of-least_multiple

pub returns-clause-greatest : goal.returns-clause-greatest
returns-clause-greatest c = total_of-greatest_multiple
