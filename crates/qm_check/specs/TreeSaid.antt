-- What a line of an empty tree or of a refutation says, and where.
use Rattle.std.specs.Prelude.{◌≡◌, ◌<◌, ℕ, false, length}
use Rattle.qm_model.specs.declared.game.Problem.{Problem}
use Rattle.qm_model.specs.Plays.{whole_vars}
use Rattle.qm_certread.specs.declared.said.EmptySaid.{EmptySaid}
use Rattle.qm_certread.specs.declared.said.EmptySaid.TheVariants as empty
use Rattle.qm_certread.specs.declared.said.RefuteSaid.{RefuteSaid}
use Rattle.qm_certread.specs.declared.said.RefuteSaid.TheVariants as refute

-- a split of a whole variable, or a combination without the objective
abbrev pub CanSayEmpty : Problem → EmptySaid → Type 0
CanSayEmpty P (empty.Split var count) = var < length (whole_vars P)
CanSayEmpty P (empty.Close combo) = combo.objective ≡ false

-- where so many variables are set: a whole one is next, or a combination
abbrev pub CanSayRefute : Problem → ℕ → RefuteSaid → Type 0
CanSayRefute P depth (refute.Over count) = depth < length (whole_vars P)
CanSayRefute P depth (refute.Pick value completion) = depth < length (whole_vars P)
CanSayRefute P depth (refute.Close combo) = Unit {0}
