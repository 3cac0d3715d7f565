use Rattle.qm_math.proofs.FractionLaws.{product_of-inverse_of, quotient_of_den, product_of-quotient_of}
use Rattle.qm_math.proofs.field.fractions_divide.Goals as goal

pub returns-clause-inverse : goal.returns-clause-inverse
returns-clause-inverse c = λ a nonzero. product_of-inverse_of a

pub returns-clause-positive : goal.returns-clause-positive
returns-clause-positive c = quotient_of_den

pub returns-clause-quotient : goal.returns-clause-quotient
returns-clause-quotient c = product_of-quotient_of
