-- Where the search begins, and what is told in the end.
use Rattle.std.proofs.Common.{◌≡◌, ◌∙◌, refl, sym, subst, ℕ, ◌+◌, ◌≤◌, arith, List, [], length, None, ℤ}
use Rattle.qm_model.specs.declared.game.Problem.{Problem}
use Rattle.qm_model.specs.Legal.{IsLegal}
use Rattle.qm_model.specs.Plays.{whole_vars}
use Rattle.qm_model.proofs.LegalMoves.{universal_part-none}
use Rattle.qm_model.proofs.Legality.{legal_of_play}
use Rattle.qm_journal.specs.Contents.{Contents}
use Rattle.qm_journal.specs.Lawful.{IsLawful}
use Rattle.qm_journal.specs.Questions.{WentOn}
use Rattle.qm_journal.proofs.Counting.{lawful_below_enough}
use Rattle.qm_search.specs.declared.state.Search.{Search}
use Rattle.qm_search.specs.Faults.{IsSpent, IsWithinBudget}
use Rattle.qm_search.specs.PlaceSteps.{AreEntered, IsJudgePlace, IsSearchBox}
use Rattle.qm_search.specs.RootSteps.{IsPlayed}
use Rattle.qm_search.specs.StopSteps.{IsFull}
use Rattle.qm_search.specs.VisitSteps.{IsVisitPlace}
use Rattle.qm_search.proofs.EnteredJournals.{first_lawful, first_stands, first_untried}
use Rattle.qm_search.proofs.SearchBoxes.{first_box}

-- no prefix is shorter than the first but the empty one
none_shorter : (P : Problem) (depth : ℕ) (search : Search) → depth ≤ 1 → AreEntered P depth search.bx
none_shorter P depth search few = λ n some less. absurd (omega (arith, few, some, less))

module _ (P : Problem) (search : Search) (values : List ℤ) (here : IsPlayed P search values) where
  root_box : IsSearchBox P 0 search.bx
  root_box = subst (IsSearchBox P 0) (sym here.bx) (first_box P here.sound)

  empty_legal : IsLegal P []
  empty_legal = legal_of_play P [] (record { rest = values; is_play = rw (universal_part-none (whole_vars P)) here.play })

  -- the whole box may be judged
  pub root_judged : IsJudgePlace P 0 search.bx
  root_judged = record { box = root_box; legal = empty_legal; entered = none_shorter P 0 search (omega arith) }

  -- and visited
  pub root_visited : IsVisitPlace P 0 search 0 values
  root_visited = record {
    place = record { box = root_box; completes = here.play };
    entered = none_shorter P (0 + 1) search (omega arith);
    lawful = first_lawful P search.journal.entries here.lawful here.asked;
    stands = first_stands search.journal.entries;
    untried = first_untried search.journal.entries here.asked;
  }

  -- the journal so far
  pub root_within : length search.journal.entries ≤ search.journal.limit → IsWithinBudget P search.journal.limit search.journal
  root_within few = record { limit = refl; few = few; lawful = first_lawful P search.journal.entries here.lawful here.asked }

-- the journal after the first question
pub asked_within : (P : Problem) (J K : Contents) → J.entries ≡ [] → IsLawful P K.entries → WentOn 0 None J.entries K.entries → K.limit ≡ J.limit → length K.entries ≤ K.limit → IsWithinBudget P J.limit K
asked_within P J K none lawful went limit few = record {
  limit = limit;
  few = omega (arith, limit, few);
  lawful = first_lawful P K.entries lawful (subst (λ es. WentOn 0 None es K.entries) none went);
}

-- ---- what is told in the end

-- a full journal spends the budget, which is less than what is always enough
pub spent_budget : (P : Problem) (budget : ℕ) (J : Contents) → IsWithinBudget P budget J → IsFull J → IsSpent P budget J
spent_budget P budget J within full = record {
  spends = record { spent = full ∙ within.limit; lawful = within.lawful };
  scarce = omega (arith, full, within.limit, lawful_below_enough P J.entries within.lawful.lawful);
}
