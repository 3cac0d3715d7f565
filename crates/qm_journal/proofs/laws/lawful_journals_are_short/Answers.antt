-- Different entries of a journal have different numbers below what is claimed.
use Rattle.qm_journal.proofs.Counting.{lawful_below_enough, lawful_short, lawful_short_games}
use Rattle.qm_journal.proofs.laws.lawful_journals_are_short.Goals as goal

pub returns-clause-all : goal.returns-clause-all
returns-clause-all c = lawful_short

pub returns-clause-unrestricted : goal.returns-clause-unrestricted
returns-clause-unrestricted c = lawful_short_games

pub returns-clause-enough : goal.returns-clause-enough
returns-clause-enough c = lawful_below_enough
