-- When the prefix of a box may be entered, and which prefixes have been on the way to the next one.
use Rattle.std.proofs.Common.{◌≡◌, ℕ, ◌+◌, ◌<◌, List, [], ◌∷◌, ◌++◌, length, map, take, drop, set, arith, sym, ap, subst, ◌∙◌, below_more, ℤ, Option, Some, None, inl}
use Rattle.std.specs.Prelude.{IsSomeAnd}
use Rattle.std.proofs.lemmas.List.{length-drop, map-append, take-set-le, take_more_set}
use Rattle.qm_model.specs.declared.range.Range.{Range}
use Rattle.qm_model.specs.declared.variable.Var.{Var}
use Rattle.qm_model.specs.declared.game.Problem.{Problem}
use Rattle.qm_model.specs.Legal.{IsLegal}
use Rattle.qm_model.specs.Plays.{whole_vars}
use Rattle.qm_model.specs.Ranges.{single}
use Rattle.qm_journal.specs.Lawful.{AreAlive}
use Rattle.qm_legal.specs.Queries.{low_of}
use Rattle.qm_relax.specs.declared.answers.BestPoint.{BestPoint}
use Rattle.qm_trees.specs.BoxPoints.{IsInBox}
use Rattle.qm_search.specs.Entering.{IsEnterable, IsUnclosed}
use Rattle.qm_search.specs.JudgeSteps.{IsKnownPoint, MayBeVisited}
use Rattle.qm_search.specs.PlaceSteps.{AreEntered, IsJudgePlace, IsSearchBox, IsSearchPlace, prefix_before}
use Rattle.qm_search.proofs.BoxPrefixes.{box_is, journal_box_is, legal_at, prefix_long, prefix_within}

-- the prefix of a box that may be looked into may be entered, but for the empty one
pub enterable : (P : Problem) (rest : List Var) (depth : ℕ) (bx : List Range) → IsSearchBox P depth bx → IsLegal P (prefix_before depth bx) → 0 < depth → rest ≡ drop depth (whole_vars P)
    → MayBeVisited P rest bx → IsEnterable P (prefix_before depth bx)
enterable P rest depth bx here legal some from_depth may =
    let long = prefix_long P depth bx here in
    let same = sym (journal_box_is P depth bx here) in
    record {
      still_open = record {
        some = omega (arith, some, long);
        incomplete = omega (arith, long, may.some, ap length from_depth, length-drop depth (whole_vars P));
        within = prefix_within P depth bx here;
        legal = legal;
        rows = subst (λ (rs : List Range). AreAlive rs P.rows) same may.clear.alive.0;
        urows = subst (λ (rs : List Range). AreAlive rs P.urows) same may.clear.alive.1;
      };
      may_hold = subst (IsUnclosed P) (sym (box_is P depth bx here)) may.unclosed;
    }

-- what completes the values that are set shows that they are legal
pub legal_here : (P : Problem) (depth : ℕ) (bx : List Range) (completion : List ℤ) → IsSearchPlace P depth bx completion → IsLegal P (prefix_before depth bx)
legal_here P depth bx completion place = legal_at P depth bx place.box completion place.completes

pub judge_place : (P : Problem) (depth : ℕ) (bx : List Range) (completion : List ℤ) → IsSearchPlace P depth bx completion → AreEntered P depth bx → IsJudgePlace P depth bx
judge_place P depth bx completion place entered = record { box = place.box; legal = legal_here P depth bx completion place; entered = entered }

-- ---- one value more

pub prefix_push : (depth : ℕ) (bx : List Range) (v : ℤ) → depth < length bx → prefix_before (depth + 1) (set bx depth (single v)) ≡ prefix_before depth bx ++ v ∷ []
prefix_push depth bx v first = ap (map low_of) (take_more_set bx depth (single v) first) ∙ map-append low_of (take depth bx) (single v ∷ [])

-- the value changes no shorter prefix
pub entered_set : (P : Problem) (depth : ℕ) (bx : List Range) (v : ℤ) → AreEntered P (depth + 1) bx → AreEntered P (depth + 1) (set bx depth (single v))
entered_set P depth bx v entered n some less =
    let same : take n bx ≡ take n (set bx depth (single v)) = sym (take-set-le n bx depth (single v) (omega (arith, less))) in
    subst (λ rs. IsEnterable P (map low_of rs)) same (entered n some less)

-- the box's own prefix is on the way to the next one
pub entered_more : (P : Problem) (depth : ℕ) (bx : List Range) → AreEntered P depth bx → IsEnterable P (prefix_before depth bx) → AreEntered P (depth + 1) bx
entered_more P depth bx entered here n some less =
    below_more (λ (k : ℕ). 0 < k → IsEnterable P (prefix_before k bx)) depth (λ k below positive. entered k positive below) (λ positive. here) n less some

-- a point that is known and lies in the box shows that its relaxation has one
pub known_open : (P : Problem) (bx : List Range) (known : Option BestPoint) → IsKnownPoint P known → IsSomeAnd known (λ best. IsInBox bx best.point) → IsUnclosed P bx
known_open P bx None is inside = absurd inside
known_open P bx (Some best) is inside = inl (best.point, record { inside = inside; rows = is.1.rows; urows = is.1.urows; extra = is.1.extra })
