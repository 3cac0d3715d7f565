-- Steps of the search: where it begins and ends.
use Rattle.std.specs.Prelude.{◌≡◌, ℤ, List, [], None}
use Rattle.qm_game.specs.declared.goal.Goal.TheVariants as goal
use Rattle.qm_model.specs.declared.game.Problem.{Problem}
use Rattle.qm_model.specs.Boxes.{whole_box_of}
use Rattle.qm_model.specs.Plays.{IsPlay}
use Rattle.qm_model.specs.Sound.{IsSound}
use Rattle.qm_journal.specs.Questions.{WentOn}
use Rattle.qm_journal.specs.Lawful.{IsLawful}
use Rattle.qm_search.specs.declared.outcome.Outcome.{Outcome}
use Rattle.qm_search.specs.declared.outcome.Outcome.TheVariants.{Under, At, Over}
use Rattle.qm_search.specs.declared.state.Search.{Search}
use Rattle.qm_search.specs.declared.window.Window.{Window}

abbrev pub all_values : Window
all_values = record { floor = goal.Any; cap = None }

-- it is no value beyond the cap
abbrev pub IsInside : Outcome → Type 0
IsInside (Under tree) = Unit {0}
IsInside (At value policy tree) = Unit {0}
IsInside (Over value policy) = ⊥

-- the whole box, and a journal without entries
pub record IsFirst (P : Problem) (search : Search) : Type 0 where
  pub sound : IsSound P
  pub bx : search.bx ≡ whole_box_of P.vars
  pub entries : search.journal.entries ≡ []

-- the whole box and a universal play, once it was asked for
pub record IsPlayed (P : Problem) (search : Search) (values : List ℤ) : Type 0 where
  pub sound : IsSound P
  pub bx : search.bx ≡ whole_box_of P.vars
  pub play : IsPlay P values
  pub lawful : IsLawful P search.journal.entries
  pub asked : WentOn 0 None [] search.journal.entries
