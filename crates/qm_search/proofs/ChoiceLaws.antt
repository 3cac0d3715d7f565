-- The choices of an existential variable: one more, and what all come to.
use Rattle.std.proofs.Common.{◌≡◌, ℕ, ◌+◌, List, [], ◌∷◌, ◌++◌, map, drop, get_or, All, arith, sym, ap, subst, ◌∙◌, ℤ, pos, ◌+ℤ◌, ◌≤ℤ◌, ◌<ℤ◌, Option, Some, None}
use Rattle.std.specs.Prelude.{slice_set}
use Rattle.std.proofs.lemmas.Int.{ints}
use Rattle.std.proofs.lemmas.List.Elements.{All-append, All-push}
use Rattle.qm_math.specs.Fraction.{Fraction}
use Rattle.qm_math.specs.Ranges.{IsBetween}
use Rattle.qm_game.specs.Goals.{goal_of}
use Rattle.qm_model.specs.declared.range.Range.{Range}
use Rattle.qm_model.specs.declared.row.Row.{Row}
use Rattle.qm_model.specs.declared.variable.Player.TheVariants.{Exists}
use Rattle.qm_model.specs.declared.variable.Var.{Var}
use Rattle.qm_model.specs.declared.game.Problem.{Problem}
use Rattle.qm_model.specs.Goals.{Goal, Above, IsProper, Reaches}
use Rattle.qm_model.specs.Ranges.{range_at, single}
use Rattle.qm_trees.specs.declared.policy.Policy.{Policy, Choose, out-Policy}
use Rattle.qm_trees.specs.declared.policy.Policy.TheVariants.{rolls-Choose}
use Rattle.qm_trees.specs.declared.policy.Below.TheViews.{out-roll-Policy}
use Rattle.qm_trees.specs.declared.policy.Below.TheOpen as policy_node
use Rattle.qm_trees.specs.declared.refutation.Refute.{Refute, Over, out-Refute}
use Rattle.qm_trees.specs.declared.refutation.Refute.TheVariants.{rolls-Over}
use Rattle.qm_trees.specs.declared.refutation.Refute.TheViews.{out-roll-Refute}
use Rattle.qm_trees.specs.declared.refutation.Refute.TheOpen as node
use Rattle.qm_trees.specs.declared.refutation.RefutePart.{RefutePart}
use Rattle.qm_trees.specs.PolicyRight as policy_right
use Rattle.qm_trees.specs.PolicyRight.{IsRightPolicy, IsPolicyInRange}
use Rattle.qm_trees.specs.RefuteJudgement.{Head, range_of, below_of}
use Rattle.qm_trees.specs.RefuteRight.{IsRightMove, IsRightRefutation, IsMoveInRange, IsRefutationInRange}
use Rattle.qm_legal.specs.SearchSteps.{SetsNext}
use Rattle.qm_search.specs.declared.choices.Best.{Best}
use Rattle.qm_search.specs.declared.choices.Choices.{Choices}
use Rattle.qm_search.specs.declared.window.Window.{Window}
use Rattle.qm_search.specs.ChoiceSteps.{AreChoices, IsBest, IsTried, choice_window, floor_beyond}
use Rattle.qm_search.specs.OutcomeSteps.{IsInWindow, Secures, Refutes}
use Rattle.qm_search.specs.PartSteps.{AreSingles, IsPast}
use Rattle.qm_search.specs.Windows.{IsProperWindow}
use Rattle.qm_search.proofs.HarderGoals.{no_harder_above, reaches_above, refutes_harder}
use Rattle.qm_search.proofs.SingleParts.{append_singles, push_singles, singles_below, singles_cover}

module _ (P : Problem) (cuts : List Row) (heads : List Head) (later : List Var) (depth : ℕ) (bx : List Range) (W : Window) (scale : pos 1 ≤ℤ P.scale) (proper : IsProperWindow W) where
  -- the goal is refuted below the part
  abbrev IsRefuted : Goal → RefutePart → Type 0
  IsRefuted G part = Refutes P cuts heads later (depth + 1) (slice_set bx depth (range_of part)) G (below_of part)

  abbrev beyond : Option Best → Goal
  beyond best = goal_of (floor_beyond W.floor best)

  beyond_proper : (low next : ℤ) (best : Option Best) → IsBest P later depth bx W low next best → IsProper (beyond best)
  beyond_proper low next None is = proper.floor
  beyond_proper low next (Some best) is = is.positive

  best_later : (low next : ℤ) (best : Option Best) → IsBest P later depth bx W low next best → IsBest P later depth bx W low (next +ℤ pos 1) best
  best_later low next None is = tt
  best_later low next (Some best) is =
      record { positive = is.positive; from = is.from; before = omega (arith, ints, is.before); secures = is.secures; reaches = is.reaches; uncapped = is.uncapped }

  -- what reaches the floor beyond the best reaches the window's
  reaches_first : (low next : ℤ) (best : Option Best) (value : Fraction) → IsBest P later depth bx W low next best → IsProper (Above value) → Reaches value (beyond best) → Reaches value (goal_of W.floor)
  reaches_first low next None value is positive reaches = reaches
  reaches_first low next (Some best) value is positive reaches = reaches_above W.floor best.value value is.positive positive proper.floor is.reaches reaches

  module _ (low next : ℤ) (choices : Choices) (are : AreChoices P cuts heads later depth bx W low next choices)
      (parts : List RefutePart) (part : RefutePart) (tree : Refute) (pushed : parts ≡ choices.parts ++ part ∷ []) (range : range_of part ≡ single next) (is : below_of part ≡ tree) where
    last_refuted : (H : Goal) → Refutes P cuts heads later (depth + 1) (slice_set bx depth (single next)) H tree → IsRefuted H part
    last_refuted H refutes =
        subst (λ r. Refutes P cuts heads later (depth + 1) (slice_set bx depth r) H (below_of part)) (sym range)
        (subst (Refutes P cuts heads later (depth + 1) (slice_set bx depth (single next)) H) (sym is) refutes)

    parts_push : (H : Goal) → All (IsRefuted H) choices.parts → Refutes P cuts heads later (depth + 1) (slice_set bx depth (single next)) H tree → All (IsRefuted H) parts
    parts_push H below refutes = subst (All (IsRefuted H)) (sym pushed) (All-push (IsRefuted H) choices.parts part below (last_refuted H refutes))

    singles_more : AreSingles low (next +ℤ pos 1) (map range_of parts)
    singles_more = subst (λ ps. AreSingles low (next +ℤ pos 1) (map range_of ps)) (sym pushed) (push_singles range_of low next choices.parts part range are.singles)

    -- one choice more below which the floor is refuted
    pub refuted_choice : Refutes P cuts heads later (depth + 1) (slice_set bx depth (single next)) (beyond choices.best) tree
        → AreChoices P cuts heads later depth bx W low (next +ℤ pos 1) (record { best = choices.best; parts = parts })
    refuted_choice refutes = record {
      singles = singles_more;
      below = parts_push (beyond choices.best) are.below refutes;
      best = best_later low next choices.best are.best;
    }

    -- or that is better than the best
    pub better_choice : (value : Fraction) (policy : Policy) → low ≤ℤ next
        → IsInWindow P cuts heads later (depth + 1) (slice_set bx depth (single next)) (choice_window W choices.best) value policy tree
        → AreChoices P cuts heads later depth bx W low (next +ℤ pos 1) (record { best = Some (record { value = value; choice = next; policy = policy }); parts = parts })
    better_choice value policy from within =
        let order = no_harder_above (floor_beyond W.floor choices.best) value within.reaches in
        let below : All (IsRefuted (Above value)) choices.parts =
        (λ k d h. refutes_harder P cuts heads later (depth + 1) (slice_set bx depth (range_of (get_or choices.parts k d))) (beyond choices.best) (Above value) (below_of (get_or choices.parts k d)) scale
        (beyond_proper low next choices.best are.best) within.reached.positive order (are.below k d h)) in
        record {
          singles = singles_more;
          below = parts_push (Above value) below within.reached.refutes;
          best = record {
            positive = within.reached.positive;
            from = from;
            before = omega (arith, ints);
            secures = within.reached.secures;
            reaches = reaches_first low next choices.best value are.best within.reached.positive within.reaches;
            uncapped = within.uncapped;
          };
        }

  -- choices, and those behind them that were tried before
  module _ (low middle next : ℤ) (lower upper : Choices) (behind : AreChoices P cuts heads later depth bx W middle next upper)
      (are : AreChoices P cuts heads later depth bx (choice_window W upper.best) low middle lower) where
    first : low ≤ℤ middle
    first = singles_below low middle (map range_of lower.parts) are.singles

    then : middle ≤ℤ next
    then = singles_below middle next (map range_of upper.parts) behind.singles

    all_singles : AreSingles low next (map range_of (lower.parts ++ upper.parts))
    all_singles = append_singles range_of low middle next lower.parts upper.parts are.singles behind.singles

    best_behind : (best : Option Best) → IsBest P later depth bx W middle next best → IsBest P later depth bx W low next best
    best_behind None is = tt
    best_behind (Some best) is =
        record { positive = is.positive; from = omega (arith, ints, is.from, first); before = is.before; secures = is.secures; reaches = is.reaches; uncapped = is.uncapped }

    pub none_better : lower.best ≡ None → AreChoices P cuts heads later depth bx W low next (record { best = upper.best; parts = lower.parts ++ upper.parts })
    none_better e = record {
      singles = all_singles;
      below = All-append (IsRefuted (beyond upper.best)) lower.parts upper.parts
          (subst (λ best. All (IsRefuted (goal_of (floor_beyond (floor_beyond W.floor upper.best) best))) lower.parts) e are.below) behind.below;
      best = best_behind upper.best behind.best;
    }

    pub one_better : (best : Best) → lower.best ≡ Some best → AreChoices P cuts heads later depth bx W low next (record { best = Some best; parts = lower.parts ++ upper.parts })
    one_better best e =
        let tried : IsTried P later depth bx (choice_window W upper.best) low middle best = subst (IsBest P later depth bx (choice_window W upper.best) low middle) e are.best in
        let order = no_harder_above (floor_beyond W.floor upper.best) best.value tried.reaches in
        let upper_below : All (IsRefuted (Above best.value)) upper.parts =
        (λ k d h. refutes_harder P cuts heads later (depth + 1) (slice_set bx depth (range_of (get_or upper.parts k d))) (beyond upper.best) (Above best.value) (below_of (get_or upper.parts k d)) scale
        (beyond_proper middle next upper.best behind.best) tried.positive order (behind.below k d h)) in
        record {
          singles = all_singles;
          below = All-append (IsRefuted (Above best.value)) lower.parts upper.parts
              (subst (λ best. All (IsRefuted (goal_of (floor_beyond (floor_beyond W.floor upper.best) best))) lower.parts) e are.below) upper_below;
          best = record {
            positive = tried.positive;
            from = tried.from;
            before = omega (arith, ints, tried.before, then);
            secures = tried.secures;
            reaches = reaches_first middle next upper.best best.value behind.best tried.positive tried.reaches;
            uncapped = tried.uncapped;
          };
        }

-- ---- what all choices come to

overs : (parts : List RefutePart) → out-Refute (Over parts) ≡ node.Over parts
overs parts = ap out-Refute (sym (rolls-Over parts)) ∙ out-roll-Refute (node.Over parts)

chooses : (value : ℤ) (below : Policy) → out-Policy (Choose value below) ≡ policy_node.Choose value below
chooses value below = ap out-Policy (sym (rolls-Choose value below)) ∙ out-roll-Policy (policy_node.Choose value below)

-- a choice in range secures what the policy behind it does
pub choice_secures : (P : Problem) (rest : List Var) (depth : ℕ) (bx : List Range) (choice : ℤ) (value : Fraction) (policy : Policy) → SetsNext Exists rest
    → IsBetween (range_at bx depth).low (range_at bx depth).high choice → Secures P (drop 1 rest) (depth + 1) (slice_set bx depth (single choice)) value policy
    → Secures P rest depth bx value (Choose choice policy)
choice_secures P [] depth bx choice value policy player within secures = absurd player
choice_secures P (x ∷ later) depth bx choice value policy player within secures = record {
  right = subst (policy_right.IsRightMove P x depth (IsRightPolicy P value later (depth + 1)) bx) (sym (chooses choice policy)) (player, (within.0, within.1), secures.right);
  in_range = subst (policy_right.IsMoveInRange P depth (IsPolicyInRange P value later (depth + 1)) bx) (sym (chooses choice policy)) secures.in_range;
}

pub over_refutes : (P : Problem) (cuts : List Row) (heads : List Head) (rest : List Var) (depth : ℕ) (bx : List Range) (W : Window) (choices : Choices) (next : ℤ) → SetsNext Exists rest
    → AreChoices P cuts heads (drop 1 rest) depth bx W (range_at bx depth).low next choices → IsPast (range_at bx depth) next
    → Refutes P cuts heads rest depth bx (goal_of (floor_beyond W.floor choices.best)) (Over choices.parts)
over_refutes P cuts heads [] depth bx W choices next player are past = absurd player
over_refutes P cuts heads (x ∷ later) depth bx W choices next player are past =
    let G = goal_of (floor_beyond W.floor choices.best) in
    record {
      right = subst (IsRightMove P cuts G x later depth (IsRightRefutation P cuts heads G later (depth + 1)) bx) (sym (overs choices.parts))
          (singles_cover (range_at bx depth) next (map range_of choices.parts) are.singles past, (λ universal. cc), (λ k d h. (are.below k d h).right));
      in_range = subst (IsMoveInRange P cuts G depth (IsRefutationInRange P cuts heads G later (depth + 1)) bx) (sym (overs choices.parts)) (λ k d h. (are.below k d h).in_range);
    }

pub best_in_window : (P : Problem) (cuts : List Row) (heads : List Head) (rest : List Var) (depth : ℕ) (bx : List Range) (W : Window) (choices : Choices) (next : ℤ) → SetsNext Exists rest
    → AreChoices P cuts heads (drop 1 rest) depth bx W (range_at bx depth).low next choices → IsPast (range_at bx depth) next → (best : Best) → choices.best ≡ Some best
    → IsInWindow P cuts heads rest depth bx W best.value (Choose best.choice best.policy) (Over choices.parts)
best_in_window P cuts heads rest depth bx W choices next player are past best e =
    let low = (range_at bx depth).low in
    let tried : IsBest P (drop 1 rest) depth bx W low next (Some best) = subst (IsBest P (drop 1 rest) depth bx W low next) e are.best in
    let some : low <ℤ next = omega (arith, ints, tried.from, tried.before) in
    record {
      reached = record {
        positive = tried.positive;
        secures = choice_secures P rest depth bx best.choice best.value best.policy player (tried.from, omega (arith, ints, tried.before, past.near some)) tried.secures;
        refutes = subst (λ b. Refutes P cuts heads rest depth bx (goal_of (floor_beyond W.floor b)) (Over choices.parts)) e (over_refutes P cuts heads rest depth bx W choices next player are past);
      };
      reaches = tried.reaches;
      uncapped = tried.uncapped;
    }

-- the window of the next choice is one of fractions
pub choice_window_proper : (P : Problem) (cuts : List Row) (heads : List Head) (later : List Var) (depth : ℕ) (bx : List Range) (W : Window) (low next : ℤ) (choices : Choices) → IsProperWindow W
    → AreChoices P cuts heads later depth bx W low next choices → IsProperWindow (choice_window W choices.best)
choice_window_proper P cuts heads later depth bx W low next choices proper are = record { floor = floor choices.best are.best; cap = proper.cap }
  where
    floor : (best : Option Best) → IsBest P later depth bx W low next best → IsProper (goal_of (floor_beyond W.floor best))
    floor None is = proper.floor
    floor (Some best) is = is.positive
