-- The values of a universal variable: one more, and what all come to.
use Rattle.std.proofs.Common.{◌≡◌, ℕ, ◌+◌, List, [], ◌∷◌, ◌++◌, map, drop, get_or, set, All, arith, refl, sym, ap, subst, ◌∙◌, ℤ, pos, ◌+ℤ◌, ◌≤ℤ◌, ◌<ℤ◌, Option, Some, None}
use Rattle.std.specs.Prelude.{slice_set, IsSome, IsSomeAnd}
use Rattle.std.proofs.lemmas.Int.{ints}
use Rattle.std.proofs.lemmas.List.Elements.{All-append, All-cons, All-nil, All-push}
use Rattle.std.proofs.lemmas.List.{set-get_or}
use Rattle.qm_math.specs.Fraction.{Fraction, HasPositiveDen, IsAtMost, IsBelow}
use Rattle.qm_math.proofs.Compare.{below_at_most, below_at_most_weak}
use Rattle.qm_model.specs.declared.range.Range.{Range}
use Rattle.qm_model.specs.declared.row.Row.{Row}
use Rattle.qm_model.specs.declared.variable.Player.TheVariants.{All as Universal}
use Rattle.qm_model.specs.declared.variable.Var.{Var}
use Rattle.qm_model.specs.declared.game.Problem.{Problem}
use Rattle.qm_model.specs.Plays.{whole_vars}
use Rattle.qm_model.specs.Ranges.{range_at, single}
use Rattle.qm_trees.specs.declared.empty.Empty.{Empty}
use Rattle.qm_trees.specs.declared.policy.Policy.{Policy, Answer, out-Policy}
use Rattle.qm_trees.specs.declared.policy.Policy.TheVariants.{rolls-Answer}
use Rattle.qm_trees.specs.declared.policy.Below.TheViews.{out-roll-Policy}
use Rattle.qm_trees.specs.declared.policy.Below.TheOpen as policy_node
use Rattle.qm_trees.specs.declared.policy.PolicyPart.{PolicyPart}
use Rattle.qm_trees.specs.declared.refutation.Refute.{Refute}
use Rattle.qm_trees.specs.PolicyJudgement.{BelowLayer, range_of, below_of}
use Rattle.qm_trees.specs.PolicyRight as policy_right
use Rattle.qm_trees.specs.PolicyRight.{IsRightPolicy, IsPolicyInRange}
use Rattle.qm_trees.specs.RefuteJudgement.{Head}
use Rattle.qm_trees.proofs.SmallerValues.{right_at_less, in_range_at}
use Rattle.qm_legal.specs.Queries.{Shows}
use Rattle.qm_legal.specs.SearchSteps.{SetsNext}
use Rattle.qm_search.specs.declared.answers.Answers.{Answers}
use Rattle.qm_search.specs.declared.answers.Worst.{Worst}
use Rattle.qm_search.specs.declared.window.Window.{Window}
use Rattle.qm_search.specs.declared.outcome.Outcome.{Outcome}
use Rattle.qm_search.specs.declared.outcome.Outcome.TheVariants.{At, Over, Under}
use Rattle.qm_search.specs.AnswerSteps.{AreAnswers, IsAnswered, IsLeast, IsOver, IsSecured, IsWorst, SecuresCap, answer_window, cap_below, at_worst}
use Rattle.qm_search.specs.OutcomeSteps.{IsAbove, IsInWindow, IsOutcome, Secures, SecuresBelow}
use Rattle.qm_search.specs.PartSteps.{AreSingles, IsPast}
use Rattle.qm_search.specs.RootSteps.{IsInside}
use Rattle.qm_search.specs.Windows.{IsCapped, IsProperCap, IsProperWindow, IsUncapped}
use Rattle.qm_search.proofs.HarderGoals.{not_below}
use Rattle.qm_search.proofs.SingleParts.{append_singles, push_singles, singles_cover}

-- a policy that reaches a value reaches each one that is no greater
pub secures_less : (P : Problem) (rest : List Var) (depth : ℕ) (bx : List Range) (v w : Fraction) (policy : Policy) → HasPositiveDen v → IsAtMost w v → Secures P rest depth bx v policy
    → Secures P rest depth bx w policy
secures_less P rest depth bx v w policy positive less secures = record {
  right = right_at_less P v w positive less rest depth bx policy secures.right;
  in_range = in_range_at P v w rest depth bx policy secures.in_range;
}

-- so does what stands below a range
below_less : (P : Problem) (rest : List Var) (depth : ℕ) (bx : List Range) (v w : Fraction) (layer : BelowLayer) → HasPositiveDen v → IsAtMost w v → SecuresBelow P rest depth bx v layer
    → SecuresBelow P rest depth bx w layer
below_less P rest depth bx v w (policy_node.On policy) positive less secures =
    let policy_secures = secures_less P rest depth bx v w policy positive less (record { right = secures.right; in_range = secures.in_range }) in
    record { right = policy_secures.right; in_range = policy_secures.in_range }
below_less P rest depth bx v w (policy_node.Illegal tree) positive less secures = record { right = secures.right; in_range = secures.in_range }

-- a policy that secures a value that isn't below the cap secures the cap
pub above_secured : (P : Problem) (rest : List Var) (depth : ℕ) (bx : List Range) (W : Window) (at : ℤ) (value : Fraction) (policy : Policy)
    → IsAbove P (drop 1 rest) (depth + 1) (slice_set bx depth (single at)) W value policy → IsSecured P rest depth bx W at policy
above_secured P rest depth bx W at value policy above = by W.cap above.capped
  where
    by : (cap : Option Fraction) → IsCapped cap value → IsSomeAnd cap (λ c. Secures P (drop 1 rest) (depth + 1) (slice_set bx depth (single at)) c policy)
    by None capped = absurd capped
    by (Some cap) capped = secures_less P (drop 1 rest) (depth + 1) (slice_set bx depth (single at)) value cap policy above.positive capped above.secures

module _ (P : Problem) (rest : List Var) (depth : ℕ) (bx : List Range) where
  -- what the policy has for the part is right at the cap
  abbrev IsKept : Option Fraction → PolicyPart → Type 0
  IsKept cap part = SecuresCap P (drop 1 rest) (depth + 1) (slice_set bx depth (range_of part)) cap (below_of part)

  module _ (at : ℤ) (part : PolicyPart) (range : range_of part ≡ single at) where
    -- an illegal value is right at every value
    illegal_below : (tree : Empty) → below_of part ≡ policy_node.Illegal tree → Shows P (whole_vars P) 0 (slice_set bx depth (single at)) tree
        → (v : Fraction) → SecuresBelow P (drop 1 rest) (depth + 1) (slice_set bx depth (range_of part)) v (below_of part)
    illegal_below tree is shows v =
        subst (λ r. SecuresBelow P (drop 1 rest) (depth + 1) (slice_set bx depth r) v (below_of part)) (sym range)
        (subst (SecuresBelow P (drop 1 rest) (depth + 1) (slice_set bx depth (single at)) v) (sym is) (record { right = shows.right; in_range = shows.in_range }))

    illegal_kept : (cap : Option Fraction) (tree : Empty) → below_of part ≡ policy_node.Illegal tree → Shows P (whole_vars P) 0 (slice_set bx depth (single at)) tree → IsKept cap part
    illegal_kept None tree is shows = illegal_below tree is shows
    illegal_kept (Some cap) tree is shows = illegal_below tree is shows cap

    policy_kept : (value : Fraction) (policy : Policy) → below_of part ≡ policy_node.On policy → Secures P (drop 1 rest) (depth + 1) (slice_set bx depth (single at)) value policy → IsKept (Some value) part
    policy_kept value policy is secures =
        subst (λ r. SecuresBelow P (drop 1 rest) (depth + 1) (slice_set bx depth r) value (below_of part)) (sym range)
        (subst (SecuresBelow P (drop 1 rest) (depth + 1) (slice_set bx depth (single at)) value) (sym is) (record { right = secures.right; in_range = secures.in_range }))

  -- parts that are right at the cap are right at a value below it
  parts_less : (cap : Option Fraction) (value : Fraction) (parts : List PolicyPart) → IsProperCap cap → IsUncapped cap value → All (IsKept cap) parts → All (IsKept (Some value)) parts
  parts_less None value parts proper below kept = λ k d h. kept k d h value
  parts_less (Some cap) value parts proper below kept =
      λ k d h. below_less P (drop 1 rest) (depth + 1) (slice_set bx depth (range_of (get_or parts k d))) cap value (below_of (get_or parts k d)) proper (below_at_most_weak value cap below) (kept k d h)

not_first : (first next : ℤ) → (next ≡ first → ⊥) → (first <ℤ next → ⊥) → first <ℤ (next +ℤ pos 1) → ⊥
not_first first next other before less = other (omega (arith, ints, before, less))

-- ---- the cap as values come

module _ (P : Problem) (cuts : List Row) (heads : List Head) (rest : List Var) (depth : ℕ) (bx : List Range) (W : Window) (first low next : ℤ) (proper : IsProperWindow W) where
  -- the cap of the next value is a fraction
  proper_cap : (worst : Option Worst) → IsWorst P cuts heads rest depth bx W first low next worst → IsProperCap (cap_below W.cap worst)
  proper_cap None before = proper.cap
  proper_cap (Some worst) is = is.positive

  below_first : (cap : Option Fraction) (value w : Fraction) → IsProperCap cap → HasPositiveDen w → IsBelow value w → IsUncapped cap w → IsUncapped cap value
  below_first None value w proper positive less below = tt
  below_first (Some cap) value w proper positive less below = below_at_most value w cap proper less (below_at_most_weak w cap below)

  -- a value below it is below the window's
  uncapped : (value : Fraction) (worst : Option Worst) → IsWorst P cuts heads rest depth bx W first low next worst → IsUncapped (cap_below W.cap worst) value → IsUncapped W.cap value
  uncapped value None before below = below
  uncapped value (Some worst) is below = below_first W.cap value worst.value proper.cap is.positive below is.uncapped

  -- an outcome in the window of the next value is one in the window
  pub wider_outcome : (worst : Option Worst) → IsWorst P cuts heads rest depth bx W first low next worst → (outcome : Outcome) → IsInside outcome → IsOutcome P cuts heads rest depth bx (answer_window W worst) outcome
      → IsOutcome P cuts heads rest depth bx W outcome
  wider_outcome worst is (Under tree) inside outcome = outcome
  wider_outcome worst is (At value policy tree) inside outcome =
      record { reached = outcome.reached; reaches = outcome.reaches; uncapped = uncapped value worst is outcome.uncapped }
  wider_outcome worst is (Over value policy) inside outcome = absurd inside

  pub worst_outcome : (worst : Option Worst) → IsWorst P cuts heads rest depth bx W first low next worst → (value : Fraction) (policy : Policy) → IsAbove P rest depth bx (answer_window W worst) value policy
      → IsOutcome P cuts heads rest depth bx W (at_worst worst value policy)
  worst_outcome None is value policy above = record { positive = above.positive; secures = above.secures; capped = above.capped }
  worst_outcome (Some worst) is value policy above = record {
    reached = record { positive = is.positive; secures = secures_less P rest depth bx value worst.value policy above.positive above.capped above.secures; refutes = is.refutes };
    reaches = is.reaches;
    uncapped = is.uncapped;
  }

module _ (P : Problem) (cuts : List Row) (heads : List Head) (rest : List Var) (depth : ℕ) (bx : List Range) (W : Window) (first low next : ℤ) (answers : Answers)
    (are : AreAnswers P cuts heads rest depth bx W first low next answers) (parts : List PolicyPart) (part : PolicyPart) (pushed : parts ≡ answers.parts ++ part ∷ []) (range : range_of part ≡ single next) where
  pushed_singles : AreSingles low (next +ℤ pos 1) (map range_of parts)
  pushed_singles = subst (λ ps. AreSingles low (next +ℤ pos 1) (map range_of ps)) (sym pushed) (push_singles range_of low next answers.parts part range are.singles)

  abbrev cap_now : Option Fraction
  cap_now = cap_below W.cap answers.worst

  pushed_kept : (cap : Option Fraction) → All (IsKept P rest depth bx cap) answers.parts → IsKept P rest depth bx cap part → All (IsKept P rest depth bx cap) parts
  pushed_kept cap kept last = subst (All (IsKept P rest depth bx cap)) (sym pushed) (All-push (IsKept P rest depth bx cap) answers.parts part kept last)

  -- one more behind which the cap is kept; where there is none, it isn't the first
  same_worst : (worst : Option Worst) → (cap_below W.cap worst ≡ None → next ≡ first → ⊥) → IsWorst P cuts heads rest depth bx W first low next worst → IsWorst P cuts heads rest depth bx W first low (next +ℤ pos 1) worst
  same_worst None other before = λ none from. not_first first next (other none) (before none from)
  same_worst (Some worst) other is = is

  kept_answer : (cap_now ≡ None → next ≡ first → ⊥) → IsKept P rest depth bx cap_now part → AreAnswers P cuts heads rest depth bx W first low (next +ℤ pos 1) (record { worst = answers.worst; parts = parts })
  kept_answer other kept = record {
    singles = pushed_singles;
    below = pushed_kept cap_now are.below kept;
    worst = same_worst answers.worst other are.worst;
  }

  -- one illegal value more
  pub illegal_answer : (tree : Empty) → below_of part ≡ policy_node.Illegal tree → Shows P (whole_vars P) 0 (slice_set bx depth (single next)) tree → (next ≡ first → ⊥)
      → AreAnswers P cuts heads rest depth bx W first low (next +ℤ pos 1) (record { worst = answers.worst; parts = parts })
  illegal_answer tree is shows other = kept_answer (λ none. other) (illegal_kept P rest depth bx next part range cap_now tree is shows)

  -- one value more behind which the cap is secured
  pub secured_answer : (cap : Fraction) (policy : Policy) → cap_now ≡ Some cap → below_of part ≡ policy_node.On policy
      → Secures P (drop 1 rest) (depth + 1) (slice_set bx depth (single next)) cap policy
      → AreAnswers P cuts heads rest depth bx W first low (next +ℤ pos 1) (record { worst = answers.worst; parts = parts })
  secured_answer cap policy e is secures =
      kept_answer (λ none. let no : None ≡ Some cap = sym none ∙ e in cc) (subst (λ c. IsKept P rest depth bx c part) (sym e) (policy_kept P rest depth bx next part range cap policy is secures))

  pub secured_reply : (policy : Policy) → below_of part ≡ policy_node.On policy → IsSecured P rest depth bx (answer_window W answers.worst) next policy
      → AreAnswers P cuts heads rest depth bx W first low (next +ℤ pos 1) (record { worst = answers.worst; parts = parts })
  secured_reply policy is reply = by cap_now refl reply
    where
      by : (cap : Option Fraction) → cap_now ≡ cap → IsSomeAnd cap (λ c. Secures P (drop 1 rest) (depth + 1) (slice_set bx depth (single next)) c policy)
          → AreAnswers P cuts heads rest depth bx W first low (next +ℤ pos 1) (record { worst = answers.worst; parts = parts })
      by None e h = absurd h
      by (Some cap) e h = secured_answer cap policy e is h

  -- one value more that leads to less
  module _ (proper : IsProperWindow W) (value : Fraction) (policy : Policy) (tree : Refute) (is : below_of part ≡ policy_node.On policy)
      (answered : IsAnswered P cuts heads rest depth bx (answer_window W answers.worst) next value policy tree) where
    pub reached_answer : AreAnswers P cuts heads rest depth bx W first low (next +ℤ pos 1) (record { worst = Some (record { value = value; refute = tree }); parts = parts })
    reached_answer = record {
      singles = pushed_singles;
      below = pushed_kept (Some value) (parts_less P rest depth bx cap_now value answers.parts (proper_cap P cuts heads rest depth bx W first low next proper answers.worst are.worst) answered.uncapped are.below)
          (policy_kept P rest depth bx next part range value policy is answered.secures);
      worst = record {
        positive = answered.positive;
        refutes = answered.refutes;
        reaches = answered.reaches;
        uncapped = uncapped P cuts heads rest depth bx W first low next proper value answers.worst are.worst answered.uncapped;
      };
    }

-- ---- what all values come to

answers_is : (parts : List PolicyPart) → out-Policy (Answer parts) ≡ policy_node.Answer parts
answers_is parts = ap out-Policy (sym (rolls-Answer parts)) ∙ out-roll-Policy (policy_node.Answer parts)

-- parts that are right at a value secure it
parts_secure : (P : Problem) (rest : List Var) (depth : ℕ) (bx : List Range) (next : ℤ) (value : Fraction) (parts : List PolicyPart) → SetsNext Universal rest
    → AreSingles (range_at bx depth).low next (map range_of parts) → IsPast (range_at bx depth) next → All (IsKept P rest depth bx (Some value)) parts → Secures P rest depth bx value (Answer parts)
parts_secure P [] depth bx next value parts player singles past below = absurd player
parts_secure P (x ∷ later) depth bx next value parts player singles past below = record {
  right = subst (policy_right.IsRightMove P x depth (IsRightPolicy P value later (depth + 1)) bx) (sym (answers_is parts))
      (player, singles_cover (range_at bx depth) next (map range_of parts) singles past, (λ k d h. (below k d h).right));
  in_range = subst (policy_right.IsMoveInRange P depth (IsPolicyInRange P value later (depth + 1)) bx) (sym (answers_is parts)) (λ k d h. (below k d h).in_range);
}

-- so does one part of the whole range
pub all_secure : (P : Problem) (rest : List Var) (depth : ℕ) (bx : List Range) (value : Fraction) (policy : Policy) (part : PolicyPart) → SetsNext Universal rest → range_of part ≡ range_at bx depth
    → (range_at bx depth).low ≤ℤ (range_at bx depth).high → below_of part ≡ policy_node.On policy → Secures P (drop 1 rest) (depth + 1) bx value policy → Secures P rest depth bx value (Answer (part ∷ []))
all_secure P [] depth bx value policy part player range some is secures = absurd player
all_secure P (x ∷ later) depth bx value policy part player range some is secures =
    let same : set bx depth (range_of part) ≡ bx = ap (set bx depth) range ∙ set-get_or bx depth (single (pos 0)) in
    let low = ap (λ (r : Range). r.low) range in
    let high = ap (λ (r : Range). r.high) range in
    let below : SecuresBelow P later (depth + 1) (set bx depth (range_of part)) value (below_of part) =
    subst (λ b. SecuresBelow P later (depth + 1) b value (below_of part)) (sym same)
    (subst (SecuresBelow P later (depth + 1) bx value) (sym is) (record { right = secures.right; in_range = secures.in_range })) in
    record {
      right = subst (policy_right.IsRightMove P x depth (IsRightPolicy P value later (depth + 1)) bx) (sym (answers_is (part ∷ []))) (
        player,
        (low, omega (arith, ints, some, high), ap (λ n. n +ℤ pos 1) high),
        All-cons (λ p. policy_right.IsRightBelow P (IsRightPolicy P value later (depth + 1)) (set bx depth (range_of p)) (below_of p)) part [] below.right
            (All-nil (λ p. policy_right.IsRightBelow P (IsRightPolicy P value later (depth + 1)) (set bx depth (range_of p)) (below_of p))),
      );
      in_range = subst (policy_right.IsMoveInRange P depth (IsPolicyInRange P value later (depth + 1)) bx) (sym (answers_is (part ∷ [])))
          (All-cons (λ p. policy_right.IsBelowInRange P (IsPolicyInRange P value later (depth + 1)) (set bx depth (range_of p)) (below_of p)) part [] below.in_range
          (All-nil (λ p. policy_right.IsBelowInRange P (IsPolicyInRange P value later (depth + 1)) (set bx depth (range_of p)) (below_of p))));
    }

module _ (P : Problem) (cuts : List Row) (heads : List Head) (rest : List Var) (depth : ℕ) (bx : List Range) (W : Window) (first next : ℤ) (answers : Answers)
    (player : SetsNext Universal rest) (are : AreAnswers P cuts heads rest depth bx W first (range_at bx depth).low next answers) (past : IsPast (range_at bx depth) next) where
  pub worst_in_window : (worst : Worst) → answers.worst ≡ Some worst → IsInWindow P cuts heads rest depth bx W worst.value (Answer answers.parts) worst.refute
  worst_in_window worst e =
      let least : IsLeast P cuts heads rest depth bx W worst = subst (IsWorst P cuts heads rest depth bx W first (range_at bx depth).low next) e are.worst in
      let below = subst (λ w. All (IsKept P rest depth bx (cap_below W.cap w)) answers.parts) e are.below in
      record {
        reached = record {
          positive = least.positive;
          secures = parts_secure P rest depth bx next worst.value answers.parts player are.singles past below;
          refutes = least.refutes;
        };
        reaches = least.reaches;
        uncapped = least.uncapped;
      }

  pub cap_secured : (cap : Fraction) → answers.worst ≡ None → W.cap ≡ Some cap → HasPositiveDen cap → IsAbove P rest depth bx W cap (Answer answers.parts)
  cap_secured cap e is positive =
      let below = subst (λ w. All (IsKept P rest depth bx (cap_below W.cap w)) answers.parts) e are.below in
      record {
        positive = positive;
        secures = parts_secure P rest depth bx next cap answers.parts player are.singles past (subst (λ c. All (IsKept P rest depth bx c) answers.parts) is below);
        capped = subst (λ c. IsCapped c cap) (sym is) (omega (arith, ints));
      }

  pub over_outcome : answers.worst ≡ None → (cap : Option Fraction) → cap ≡ W.cap → (outcome : Outcome) → IsOver cap (Answer answers.parts) outcome → IsOutcome P cuts heads rest depth bx W outcome
  over_outcome e None same outcome is = absurd is
  over_outcome e (Some cap) same outcome is = subst (IsOutcome P cuts heads rest depth bx W) (sym is.1) (cap_secured cap e (sym same) is.0)

-- where a legal value is one of them, there is a worst or a cap
some_cap : (P : Problem) (cuts : List Row) (heads : List Head) (rest : List Var) (depth : ℕ) (bx : List Range) (W : Window) (first low next : ℤ) (worst : Option Worst)
    → IsWorst P cuts heads rest depth bx W first low next worst → low ≤ℤ first → first <ℤ next → (cap : Option Fraction) → cap ≡ W.cap → IsSome (cap_below cap worst)
some_cap P cuts heads rest depth bx W first low next (Some w) is from above cap e = refl
some_cap P cuts heads rest depth bx W first low next None before from above (Some c) e = refl
some_cap P cuts heads rest depth bx W first low next None before from above None e = absurd (before (sym e) from above)

pub some_answered : (P : Problem) (cuts : List Row) (heads : List Head) (rest : List Var) (depth : ℕ) (bx : List Range) (W : Window) (first low next : ℤ) (answers : Answers)
    → AreAnswers P cuts heads rest depth bx W first low next answers → low ≤ℤ first → first <ℤ next → IsSome (cap_below W.cap answers.worst)
some_answered P cuts heads rest depth bx W first low next answers are from above = some_cap P cuts heads rest depth bx W first low next answers.worst are.worst from above W.cap refl

-- the window of the next value is one of fractions
pub answer_window_proper : (P : Problem) (cuts : List Row) (heads : List Head) (rest : List Var) (depth : ℕ) (bx : List Range) (W : Window) (first low next : ℤ) (answers : Answers) → IsProperWindow W
    → AreAnswers P cuts heads rest depth bx W first low next answers → IsProperWindow (answer_window W answers.worst)
answer_window_proper P cuts heads rest depth bx W first low next answers proper are = record { floor = proper.floor; cap = cap answers.worst are.worst }
  where
    cap : (worst : Option Worst) → IsWorst P cuts heads rest depth bx W first low next worst → IsProperCap (cap_below W.cap worst)
    cap None is = proper.cap
    cap (Some worst) is = is.positive

-- ---- values, and those behind them that were answered before

module _ (P : Problem) (cuts : List Row) (heads : List Head) (rest : List Var) (depth : ℕ) (bx : List Range) (W : Window) (first low middle next : ℤ) (proper : IsProperWindow W) (lower upper : Answers)
    (behind : AreAnswers P cuts heads rest depth bx W first middle next upper) (are : AreAnswers P cuts heads rest depth bx (answer_window W upper.worst) first low middle lower) where
  abbrev former : Option Fraction
  former = cap_below W.cap upper.worst

  all_singles : AreSingles low next (map range_of (lower.parts ++ upper.parts))
  all_singles = append_singles range_of low middle next lower.parts upper.parts are.singles behind.singles

  not_one : (first <ℤ middle → ⊥) → (middle ≤ℤ first → first <ℤ next → ⊥) → first <ℤ next → ⊥
  not_one before after less = after (not_below first middle before) less

  worst_behind : lower.worst ≡ None → (worst : Option Worst) → upper.worst ≡ worst → IsWorst P cuts heads rest depth bx W first low next worst
  worst_behind e None g = λ none from.
      let last = subst (IsWorst P cuts heads rest depth bx W first middle next) g behind.worst in
      let earlier = subst (IsWorst P cuts heads rest depth bx (answer_window W upper.worst) first low middle) e are.worst in
      not_one (earlier (ap (cap_below W.cap) g ∙ none) from) (last none)
  worst_behind e (Some worst) g = subst (IsWorst P cuts heads rest depth bx W first middle next) g behind.worst

  pub none_worse : lower.worst ≡ None → AreAnswers P cuts heads rest depth bx W first low next (record { worst = upper.worst; parts = lower.parts ++ upper.parts })
  none_worse e = record {
    singles = all_singles;
    below = All-append (IsKept P rest depth bx former) lower.parts upper.parts (subst (λ w. All (IsKept P rest depth bx (cap_below former w)) lower.parts) e are.below) behind.below;
    worst = worst_behind e upper.worst refl;
  }

  pub one_worse : (worst : Worst) → lower.worst ≡ Some worst → AreAnswers P cuts heads rest depth bx W first low next (record { worst = Some worst; parts = lower.parts ++ upper.parts })
  one_worse worst e =
      let least : IsLeast P cuts heads rest depth bx (answer_window W upper.worst) worst = subst (IsWorst P cuts heads rest depth bx (answer_window W upper.worst) first low middle) e are.worst in
      record {
        singles = all_singles;
        below = All-append (IsKept P rest depth bx (Some worst.value)) lower.parts upper.parts (subst (λ w. All (IsKept P rest depth bx (cap_below former w)) lower.parts) e are.below)
            (parts_less P rest depth bx former worst.value upper.parts (proper_cap P cuts heads rest depth bx W first middle next proper upper.worst behind.worst) least.uncapped behind.below);
        worst = record {
          positive = least.positive;
          refutes = least.refutes;
          reaches = least.reaches;
          uncapped = uncapped P cuts heads rest depth bx W first middle next proper worst.value upper.worst behind.worst least.uncapped;
        };
      }
