use Rattle.std.proofs.Common.{◌^◌}
use Rattle.qm_normal.proofs.TermCounts.{few_terms}
use Rattle.qm_normal.proofs.limits.terms_of.Goals as goal

pub returns-clause-few : goal.returns-clause-few
returns-clause-few c = few_terms (2 ^ 32) c.as_slice-terms.result.now _ c.as_slice-terms.ensures.ordered c.if-is_empty.element_fits.fits
