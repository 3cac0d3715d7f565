use Rattle.probe_journals.proofs.prefixes.+push_prefix.Given as goal

abbrev pub decreases-push_prefix : goal.decreases-push_prefix
decreases-push_prefix l = l.number
