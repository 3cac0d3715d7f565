use Rattle.qm_math.proofs.Ends.{least_multiple-at_most, at_most-greatest_multiple}
use Rattle.qm_math.proofs.boxes.multiples_lie_between_the_ends.Goals as goal

pub returns-clause-least : goal.returns-clause-least
returns-clause-least c = least_multiple-at_most

pub returns-clause-greatest : goal.returns-clause-greatest
returns-clause-greatest c = at_most-greatest_multiple
