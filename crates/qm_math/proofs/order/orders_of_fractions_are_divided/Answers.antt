use Rattle.qm_math.proofs.Quotients.{at_most-quotient_of, quotient_of-at_most, at_most-quotient_of_turned, quotient_of-at_most_turned}
use Rattle.qm_math.proofs.order.orders_of_fractions_are_divided.Goals as goal

pub returns-clause-above : goal.returns-clause-above
returns-clause-above c = at_most-quotient_of

pub returns-clause-below : goal.returns-clause-below
returns-clause-below c = quotient_of-at_most

pub returns-clause-above_turned : goal.returns-clause-above_turned
returns-clause-above_turned c = at_most-quotient_of_turned

pub returns-clause-below_turned : goal.returns-clause-below_turned
returns-clause-below_turned c = quotient_of-at_most_turned
