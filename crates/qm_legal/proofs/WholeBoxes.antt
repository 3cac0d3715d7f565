-- The box of the variables' own bounds is one that may be asked about.
use Rattle.std.proofs.Common.{◌≡◌, sym, subst, refl, ℕ, zero, suc, List, [], ◌∷◌, take, map, None, arith}
use Rattle.std.proofs.lemmas.List.Elements.{All-nil}
use Rattle.qm_model.specs.declared.range.Range.{Range}
use Rattle.qm_model.specs.declared.variable.Var.{Var}
use Rattle.qm_model.specs.declared.game.Problem.{Problem}
use Rattle.qm_model.specs.Boxes.{IsBox, bounds_of, whole_box_of}
use Rattle.qm_model.specs.Legal.{universal_part}
use Rattle.qm_model.specs.Plays.{whole_vars}
use Rattle.qm_journal.specs.Questions.{IsFirstStep, IsNewQuestion}
use Rattle.qm_legal.specs.Queries.{AreFree, IsQuery, IsQueryOf}

bounds_are_free : (n : ℕ) (xs : List Var) → AreFree (take n xs) (map bounds_of xs)
bounds_are_free zero xs = tt
bounds_are_free (suc n) [] = tt
bounds_are_free (suc n) (x ∷ xs) = (λ universal. refl, bounds_are_free n xs)

pub whole_box_query : (P : Problem) (bx : List Range) → IsBox P.vars bx → bx ≡ whole_box_of P.vars → IsQuery P 0 bx
whole_box_query P bx box whole = record {
  depth_in = omega arith;
  box = box;
  set = tt;
  free = subst (AreFree (whole_vars P)) (sym whole) (bounds_are_free P.wholes P.vars);
}

-- it is asked about behind the empty prefix
pub whole_box_asked : (P : Problem) (bx : List Range) → IsBox P.vars bx → bx ≡ whole_box_of P.vars → IsQueryOf P [] bx
whole_box_asked P bx box whole = record { query = whole_box_query P bx box whole; values = nothing (whole_vars P) }
  where
    nothing : (xs : List Var) → [] ≡ universal_part xs []
    nothing [] = refl
    nothing (x ∷ xs) = refl

-- by the first question of all
pub first_question : (P : Problem) → IsNewQuestion P [] 0 None
first_question P = (refl, All-nil (λ e. ¬ IsFirstStep e))
