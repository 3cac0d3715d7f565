use Rattle.qm_certfile.proofs.LowestValues.{lowest_value, not_four_halves}
use Rattle.qm_certfile.proofs.endings.passing_values_are_in_lowest_terms.Goals as goal

pub returns : goal.returns
returns c = record { lowest = lowest_value; not_four_halves = not_four_halves }
