-- The prefixes of the boxes that the search goes through.
use Rattle.std.proofs.Common.{◌≡◌, ◌∙◌, sym, ap, subst, ℕ, zero, suc, ◌+◌, ◌<◌, List, [], ◌∷◌, ◌++◌, length, map, take, drop, set, ℤ}
use Rattle.std.specs.Prelude.{IsSomeAnd, slice_get}
use Rattle.std.proofs.lemmas.List.{map-append, take_more_set}
use Rattle.qm_model.specs.declared.range.Range.{Range}
use Rattle.qm_model.specs.declared.variable.Player.TheVariants.{All as Universal}
use Rattle.qm_model.specs.declared.variable.Var.{Var}
use Rattle.qm_model.specs.declared.game.Problem.{Problem}
use Rattle.qm_model.specs.Plays.{whole_vars}
use Rattle.qm_model.specs.Ranges.{single}
use Rattle.qm_journal.specs.Lawful.{IsUniversalTurn}
use Rattle.qm_legal.specs.Queries.{IsQuery, IsQueryOf, low_of, set_values}
use Rattle.qm_legal.specs.SearchSteps.{SetsNext}
use Rattle.qm_search.specs.PlaceSteps.{IsSearchBox, prefix_before}
use Rattle.qm_search.proofs.BoxPrefixes.{prefix_long, values_are}
use Rattle.qm_search.proofs.SearchBoxes.{query}

-- the prefix of the next box has a value more
pub prefix_more : (depth : ℕ) (bx : List Range) (v : ℤ) → depth < length bx → prefix_before (depth + 1) (set bx depth (single v)) ≡ prefix_before depth bx ++ v ∷ []
prefix_more depth bx v below = ap (map low_of) (take_more_set bx depth (single v) below) ∙ map-append low_of (take depth bx) (single v ∷ [])

-- ---- what may be asked of it

pub prefix_query : (P : Problem) (depth : ℕ) (bx : List Range) → IsSearchBox P depth bx → IsQueryOf P (prefix_before depth bx) bx
prefix_query P depth bx here =
    let long : depth ≡ length (prefix_before depth bx) = sym (prefix_long P depth bx here) in
    record {
      query = subst (λ n. IsQuery P n bx) long (query P depth bx here);
      values = ap (λ n. set_values P n bx) (sym long) ∙ sym (values_are P depth bx here);
    }

turn_at : (xs : List Var) (n : ℕ) → SetsNext Universal (drop n xs) → IsSomeAnd (slice_get xs n) (λ x. x.player ≡ Universal)
turn_at [] zero h = absurd h
turn_at [] (suc n) h = absurd h
turn_at (x ∷ xs) zero h = h
turn_at (x ∷ xs) (suc n) h = turn_at xs n h

-- the universal player is next
pub prefix_turn : (P : Problem) (depth : ℕ) (bx : List Range) (rest : List Var) → rest ≡ drop depth (whole_vars P) → IsSearchBox P depth bx → SetsNext Universal rest → IsUniversalTurn P (prefix_before depth bx)
prefix_turn P depth bx rest from_depth here player =
    subst (λ n. IsSomeAnd (slice_get (whole_vars P) n) (λ (x : Var). x.player ≡ Universal)) (sym (prefix_long P depth bx here))
    (turn_at (whole_vars P) depth (subst (SetsNext Universal) from_depth player))
