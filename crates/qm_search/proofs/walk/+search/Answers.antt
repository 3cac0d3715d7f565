use Rattle.std.proofs.Common.{rules, refl, sym, ◌≡◌, ◌+◌, arith, ap, drop, length, subst, pos, ◌+ℤ◌, ◌-ℤ◌, ◌≤ℤ◌, ◌<ℤ◌, to_z, set, [], ◌∙◌, true, false}
use Rattle.std.proofs.lemmas.Int.{ints, to_z-of_z}
use Rattle.std.proofs.lemmas.List.{length-drop}
use mir.Syntax.{w64}
use mir.Val.{SFits}
use Rattle.qm_game.specs.Goals.{goal_of}
use Rattle.qm_model.specs.declared.range.Range.{Range}
use Rattle.qm_model.specs.declared.variable.Player.TheVariants.{Exists, All as Universal}
use Rattle.qm_model.specs.Ranges.{range_at, single}
use Rattle.qm_trees.specs.RefuteRight.{IsRightPick}
use Rattle.qm_cover.proofs.Places.{put_back}
use Rattle.qm_legal.specs.Queries.{IsRightLegality}
use Rattle.qm_legal.proofs.Places.{some_next}
use Rattle.qm_journal.specs.Contents.{Contents}
use Rattle.qm_search.specs.AnswerSteps.{AreAllAnswered, AreAnswered, AreAnswers, IsRightAnswer, answer_window}
use Rattle.qm_search.specs.ChoiceSteps.{AreAllTried, AreChoices, AreTried, IsTrial, choice_window}
use Rattle.qm_search.specs.JudgeSteps.{IsJudged}
use Rattle.qm_search.specs.PartSteps.{IsStart}
use Rattle.qm_search.specs.PlaceSteps.{IsSearchPlace, next_value}
use Rattle.qm_search.specs.VisitSteps.{Moved, WentAmong}
use Rattle.qm_search.proofs.AnswerLaws.{answer_window_proper, some_answered}
use Rattle.qm_search.proofs.ChoiceLaws.{choice_window_proper}
use Rattle.qm_search.proofs.Completions.{begins_here, completes_answer, completes_choice}
use Rattle.qm_search.proofs.OpenBoxes.{judge_place}
use Rattle.qm_search.proofs.Runs.{past_all, past_before}
use Rattle.qm_search.proofs.RightPicks.{right_pick}
use Rattle.qm_search.proofs.Visits.{existential_next, universal_next, asked_moves, asked_place, box_then, entered_moves, moved_all, moved_below, moved_further, moved_nowhere, moved_on, moved_then, tried_one, new_place, run_before, run_place, value_place, visit_place}
use Rattle.qm_search.proofs.walk.+search.Goals as goal
use Rattle.qm_search.proofs.walk.+search.Goals.{choices_in-else-loop-choice-test, choices_in-then-loop-choice-test+in_ok-next+in_ok-more+in-More+else-choice-choice-end, answers_in-else-loop-value-test, answers_in-then-loop-value-test+in_ok-answer+in_ok-outcome+in-Kept+in_ok-answers-in-Kept+else-value-value-end}

pub look_into-judge-requires-clause-place : goal.look_into-judge-requires-clause-place
look_into-judge-requires-clause-place t c =
    judge_place c.args.here.game.now c.args.here.depth c.args.search.now.bx c.args.completion.now c.requires.place.place c.requires.place.entered

pub look_into-visit-requires : goal.look_into-visit-requires
look_into-visit-requires t c =
    let P = c.args.here.game.now in
    let rest = c.args.here.rest.now in
    let depth = c.args.here.depth in
    let start = c.args.search.now in
    let v = c.args.value in
    let same = to_z-of_z w64 v c.ranges.value in
    let judged = subst (IsJudged P rest depth start.bx c.args.window.now) c.in-Open.is c.in_ok-outcome.ensures.judged in
    let entered = rw same at c.in_ok-entered-in-Open.ensures.entered in
    let place = visit_place P rest depth start c.args.entry v c.args.completion.now c.args.here.from_depth c.requires.place judged.0 c.enter.new.self (ap (λ (J : Contents). J.entries) entered) in
    (omega (arith), (judged.0.some, (rw c.in_ok-entered-in-Open.ensures.number place, (c.latest.ensures P start.bx (goal_of c.args.window.now.floor) judged.1 c.requires.point, c.requires.window))))

pub look_into-returns-in_err-outcome-in-Open-clause-moved : goal.look_into-returns-in_err-outcome-in-Open-clause-moved
look_into-returns-in_err-outcome-in-Open-clause-moved t c =
    let P = c.args.here.game.now in
    let rest = c.args.here.rest.now in
    let depth = c.args.here.depth in
    let start = c.args.search.now in
    let v = c.args.value in
    let same = to_z-of_z w64 v c.ranges.value in
    let judged = subst (IsJudged P rest depth start.bx c.args.window.now) c.in-Open.is c.in_ok-outcome.ensures.judged in
    let entered = rw same at c.in_ok-entered-in-Open.ensures.entered in
    let moved = rw c.in_ok-entered-in-Open.ensures.number at c.visit.ensures.moved in
    entered_moves P rest depth start c.args.entry v c.args.completion.now c.args.here.from_depth c.requires.place judged.0 c.enter.new.self c.visit.new.search
    (ap (λ (J : Contents). J.limit) entered) (ap (λ (J : Contents). J.entries) entered) moved

pub look_into-returns-in_err-keep-in-Open-clause-moved : goal.look_into-returns-in_err-keep-in-Open-clause-moved
look_into-returns-in_err-keep-in-Open-clause-moved t c =
    let P = c.args.here.game.now in
    let rest = c.args.here.rest.now in
    let depth = c.args.here.depth in
    let start = c.args.search.now in
    let v = c.args.value in
    let same = to_z-of_z w64 v c.ranges.value in
    let judged = subst (IsJudged P rest depth start.bx c.args.window.now) c.in-Open.is c.in_ok-outcome.ensures.judged in
    let entered = rw same at c.in_ok-entered-in-Open.ensures.entered in
    let moved = rw c.in_ok-entered-in-Open.ensures.number at c.visit.ensures.moved in
    entered_moves P rest depth start c.args.entry v c.args.completion.now c.args.here.from_depth c.requires.place judged.0 c.enter.new.self c.visit.new.search
    (ap (λ (J : Contents). J.limit) entered) (ap (λ (J : Contents). J.entries) entered) moved

pub look_into-returns-in_ok-keep-in-Open-clause-moved : goal.look_into-returns-in_ok-keep-in-Open-clause-moved
look_into-returns-in_ok-keep-in-Open-clause-moved t c =
    let P = c.args.here.game.now in
    let rest = c.args.here.rest.now in
    let depth = c.args.here.depth in
    let start = c.args.search.now in
    let v = c.args.value in
    let same = to_z-of_z w64 v c.ranges.value in
    let judged = subst (IsJudged P rest depth start.bx c.args.window.now) c.in-Open.is c.in_ok-outcome.ensures.judged in
    let entered = rw same at c.in_ok-entered-in-Open.ensures.entered in
    let moved = rw c.in_ok-entered-in-Open.ensures.number at c.visit.ensures.moved in
    entered_moves P rest depth start c.args.entry v c.args.completion.now c.args.here.from_depth c.requires.place judged.0 c.enter.new.self c.visit.new.search
    (ap (λ (J : Contents). J.limit) entered) (ap (λ (J : Contents). J.entries) entered) moved

pub enter-returns-then-is_enough-clause-outcome : goal.enter-returns-then-is_enough-clause-outcome
enter-returns-then-is_enough-clause-outcome t c =
    let recalled = rw c.in-Some.is at c.in_ok-recalled.ensures.recalled in
    c.enough.ensures c.args.here.game.now [] [] c.args.here.rest.now c.args.here.depth c.args.search.now.bx c.args.window.now recalled (c.is_enough.ensures.0 c.if-is_enough.true)

pub enter-returns-in_ok-outcome-in-Some-clause-outcome : goal.enter-returns-in_ok-outcome-in-Some-clause-outcome
enter-returns-in_ok-outcome-in-Some-clause-outcome t c =
    let recalled = rw c.in-Some.is at c.in_ok-recalled.ensures.recalled in
    let outcome = rw (c.recalled.ensures.same, c.window-above.ensures) at c.in_ok-outcome-in-Some.ensures.outcome in
    c.or_better.ensures c.args.here.game.now [] [] c.args.here.rest.now c.args.here.depth c.args.search.now.bx c.args.window.now c.requires.window recalled
    (λ capped. let both : true ≡ false = sym (c.is_enough.ensures.1 capped) ∙ c.if-is_enough.false in cc) outcome

pub child-enter-outcome-requires : goal.child-enter-outcome-requires
child-enter-outcome-requires t c =
    let P = c.args.here.game.now in
    let rest = c.args.here.rest.now in
    let depth = c.args.here.depth in
    let start = c.args.search.now in
    let v = c.args.value in
    let same = to_z-of_z w64 v c.ranges.value in
    let place = new_place P rest depth start c.args.entry v c.args.completion.now c.args.here.from_depth c.requires.some c.requires.place c.requires.completes in (
      omega (arith, c.requires.some, ap length c.behind.ensures.rest, length-drop 1 rest),
      (rw (c.behind.ensures.game, c.behind.ensures.depth, c.put.ensures, c.single.ensures, same) place, (rw c.behind.ensures.game c.requires.point, c.requires.window)),
    )

pub child-put-requires-2-clause-bx : goal.child-put-requires-2-clause-bx
child-put-requires-2-clause-bx t c =
    let P = c.args.here.game.now in
    let rest = c.args.here.rest.now in
    let depth = c.args.here.depth in
    let start = c.args.search.now in
    let v = c.args.value in
    let same = to_z-of_z w64 v c.ranges.value in
    let here = box_then P rest depth start c.args.entry v c.args.completion.now c.args.here.from_depth c.requires.some c.requires.place c.requires.completes in
    rw (c.enter-outcome.ensures.moved.same, c.put.ensures, c.single.ensures, same) here.box

pub child-returns-clause-moved : goal.child-returns-clause-moved
child-returns-clause-moved t c =
    let moved = rw (c.behind.ensures.game, to_z-of_z w64 c.args.value c.ranges.value) at c.enter-outcome.ensures.moved in
    record {
      same = put_back c.args.search.now.bx c.put.new.bx c.enter-outcome.new.search.bx c.put-2.new.bx c.args.here.depth c.single.result c.range-before.result
          c.put.ensures moved.same c.put-2.ensures c.range-before.ensures;
      limit = moved.limit;
      lawful = moved.lawful;
      went = moved.went;
    }

-- ---- the choices of an existential variable

pub visit-best_choice-requires : goal.visit-best_choice-requires
visit-best_choice-requires t c =
    let next = existential_next c.args.here.rest.now c.index-here-0.result c.requires.some (sym c.if-is_for_all.ensures) in
    (omega (arith), (next, (c.requires.place, (c.requires.point, c.requires.window))))

pub choices_in-loop-choice-init : goal.choices_in-loop-choice-init
choices_in-loop-choice-init t c =
    let P = c.args.here.game.now in
    let rest = c.args.here.rest.now in
    let depth = c.args.here.depth in
    let start = c.args.search.now in
    let values = c.args.values in
    let low : SFits w64 values.low = search rules in
    rw (to_z-of_z w64 values.low low)
    (record {
      from = omega (arith, ints);
      to = λ some. absurd (omega (arith, ints, some));
      moved = moved_nowhere P depth start c.args.entry c.args.completion.now values c.requires.place;
      choices = c.new-choices.ensures P [] [] (drop 1 rest) depth start.bx c.args.window.now values.low;
    })

pub choices_in-child-requires : goal.choices_in-child-requires
choices_in-child-requires t c =
    let P = c.args.here.game.now in
    let rest = c.args.here.rest.now in
    let depth = c.args.here.depth in
    let start = c.args.search.now in
    let now = c.loop-choice.search in
    let W = c.args.window.now in
    let values = c.args.values in
    let v = to_z w64 c.loop-choice.choice-bits in
    let before = c.loop-choice.invariant in
    let most : v ≤ℤ values.high = omega (arith, ints) in
    let some = some_next Exists rest c.requires.player in
    let place = value_place P depth start now c.args.entry c.args.completion.now values c.requires.place v before.moved (before.from, most) in
    let completes = completes_choice c.args.here.rest.now c.args.here.from_depth c.requires.player c.requires.place.place v in
    let window = choice_window_proper P [] [] (drop 1 rest) depth start.bx W values.low v c.loop-choice.choices c.requires.window before.choices in
    (omega (arith), (some, (place.value, (rw before.moved.same completes, (c.requires.point, rw c.window-within.ensures window)))))

pub choices_in-returns-in_err-next-clause-moved : goal.choices_in-returns-in_err-next-clause-moved
choices_in-returns-in_err-next-clause-moved t c =
    let P = c.args.here.game.now in
    let rest = c.args.here.rest.now in
    let depth = c.args.here.depth in
    let start = c.args.search.now in
    let now = c.loop-choice.search in
    let W = c.args.window.now in
    let values = c.args.values in
    let v = to_z w64 c.loop-choice.choice-bits in
    let before = c.loop-choice.invariant in
    let most : v ≤ℤ values.high = omega (arith, ints) in
    tried_one P depth start now c.args.entry c.args.completion.now values c.requires.place v before.moved c.child.new.search (before.from, most) c.child.ensures.moved

pub choices_in-returns-in_err-more-clause-moved : goal.choices_in-returns-in_err-more-clause-moved
choices_in-returns-in_err-more-clause-moved t c =
    let P = c.args.here.game.now in
    let rest = c.args.here.rest.now in
    let depth = c.args.here.depth in
    let start = c.args.search.now in
    let now = c.loop-choice.search in
    let W = c.args.window.now in
    let values = c.args.values in
    let v = to_z w64 c.loop-choice.choice-bits in
    let before = c.loop-choice.invariant in
    let most : v ≤ℤ values.high = omega (arith, ints) in
    tried_one P depth start now c.args.entry c.args.completion.now values c.requires.place v before.moved c.child.new.search (before.from, most) c.child.ensures.moved

pub choices_in-returns-in-Enough-clause-moved : goal.choices_in-returns-in-Enough-clause-moved
choices_in-returns-in-Enough-clause-moved t c =
    let P = c.args.here.game.now in
    let rest = c.args.here.rest.now in
    let depth = c.args.here.depth in
    let start = c.args.search.now in
    let now = c.loop-choice.search in
    let W = c.args.window.now in
    let values = c.args.values in
    let v = to_z w64 c.loop-choice.choice-bits in
    let before = c.loop-choice.invariant in
    let most : v ≤ℤ values.high = omega (arith, ints) in
    tried_one P depth start now c.args.entry c.args.completion.now values c.requires.place v before.moved c.child.new.search (before.from, most) c.child.ensures.moved

pub choices_in-returns-in-Enough-clause-tried : goal.choices_in-returns-in-Enough-clause-tried
choices_in-returns-in-Enough-clause-tried t c =
    let P = c.args.here.game.now in
    let rest = c.args.here.rest.now in
    let depth = c.args.here.depth in
    let start = c.args.search.now in
    let now = c.loop-choice.search in
    let W = c.args.window.now in
    let values = c.args.values in
    let v = to_z w64 c.loop-choice.choice-bits in
    let before = c.loop-choice.invariant in
    let most : v ≤ℤ values.high = omega (arith, ints) in
    let outcome = rw (before.moved.same, c.window-within.ensures) at c.in_ok-next.ensures.outcome in
    let within = c.requires.place.within v (before.from, most) in
    let trial = c.in_ok-more.ensures P [] [] rest depth start.bx W values.low c.requires.place.place.box.sound.scale_positive c.requires.window c.requires.player before.from within before.choices outcome in
    subst (IsTrial P [] [] rest (drop 1 rest) depth start.bx W values.low (v +ℤ pos 1)) c.in-Enough.is trial

pub choices_in-loop-choice-preserved : goal.choices_in-loop-choice-preserved
choices_in-loop-choice-preserved t c =
    let P = c.args.here.game.now in
    let rest = c.args.here.rest.now in
    let depth = c.args.here.depth in
    let start = c.args.search.now in
    let now = c.loop-choice.search in
    let W = c.args.window.now in
    let values = c.args.values in
    let v = to_z w64 c.loop-choice.choice-bits in
    let before = c.loop-choice.invariant in
    let fitting : SFits w64 values.high = search rules in
    let less : v <ℤ values.high = omega (arith, ints) in
    let fits : SFits w64 (v +ℤ pos 1) = omega (arith, ints) in
    let most : v ≤ℤ values.high = omega (arith, ints) in
    let outcome = rw (before.moved.same, c.window-within.ensures) at c.in_ok-next.ensures.outcome in
    let within = c.requires.place.within v (before.from, most) in
    let trial = c.in_ok-more.ensures P [] [] rest depth start.bx W values.low c.requires.place.place.box.sound.scale_positive c.requires.window c.requires.player before.from within before.choices outcome in
    simp (to_z-of_z w64 (v +ℤ pos 1) fits)
    (record {
      from = omega (arith, ints, before.from);
      to = λ some. omega (arith, ints, less);
      moved = moved_on P depth start now c.args.entry c.args.completion.now values c.requires.place v before.moved c.child.new.search before.from c.child.ensures.moved;
      choices = subst (IsTrial P [] [] rest (drop 1 rest) depth start.bx W values.low (v +ℤ pos 1)) c.in-More.is trial;
    })

pub choices_in-returns-clause-tried : goal.choices_in-returns-clause-tried
choices_in-returns-clause-tried t c =
    let P = c.args.here.game.now in
    let rest = c.args.here.rest.now in
    let depth = c.args.here.depth in
    let start = c.args.search.now in
    let now = c.loop-choice.search in
    let W = c.args.window.now in
    let values = c.args.values in
    let v = to_z w64 c.loop-choice.choice-bits in
    let before = c.loop-choice.invariant in
    let fitting : SFits w64 values.high = search rules in
    elim c.loop-choice-test.branch [
      | choices_in-else-loop-choice-test w ↦
          let above : values.high <ℤ v = omega (arith, ints) in
          record { next = v; past = record { above = above; near = before.to }; choices = subst (AreChoices P [] [] (drop 1 rest) depth start.bx W values.low v) (sym w.choices-is) before.choices }
      | choices_in-then-loop-choice-test+in_ok-next+in_ok-more+in-More+else-choice-choice-end w ↦
          let last : v ≡ values.high = omega (arith, ints) in
          let most : v ≤ℤ values.high = omega (arith, ints, last) in
          let outcome = rw (before.moved.same, w.window-within.ensures) at w.in_ok-next.ensures.outcome in
          let within = c.requires.place.within v (before.from, most) in
          let trial = w.in_ok-more.ensures P [] [] rest depth start.bx W values.low c.requires.place.place.box.sound.scale_positive c.requires.window c.requires.player before.from within before.choices outcome in
          let all = subst (IsTrial P [] [] rest (drop 1 rest) depth start.bx W values.low (v +ℤ pos 1)) w.in-More.is trial in
          record {
            next = v +ℤ pos 1;
            past = record { above = omega (arith, ints, last); near = λ some. omega (arith, ints, last) };
            choices = subst (AreChoices P [] [] (drop 1 rest) depth start.bx W values.low (v +ℤ pos 1)) (sym w.choices-is) all;
          }
    ]

pub choices_in-returns-clause-moved : goal.choices_in-returns-clause-moved
choices_in-returns-clause-moved t c =
    let P = c.args.here.game.now in
    let rest = c.args.here.rest.now in
    let depth = c.args.here.depth in
    let start = c.args.search.now in
    let now = c.loop-choice.search in
    let W = c.args.window.now in
    let values = c.args.values in
    let v = to_z w64 c.loop-choice.choice-bits in
    let before = c.loop-choice.invariant in
    let fitting : SFits w64 values.high = search rules in
    elim c.loop-choice-test.branch [
      | choices_in-else-loop-choice-test w ↦
          let above : values.high <ℤ v = omega (arith, ints) in
          subst (Moved P (WentAmong c.args.entry values.low (values.high +ℤ pos 1)) start) (sym w.search-is)
          (moved_all P depth start now c.args.entry c.requires.place.stands values.low v before.moved (values.high +ℤ pos 1) (λ u from less. omega (arith, ints, less, before.to (omega (arith, ints, from, less)))))
      | choices_in-then-loop-choice-test+in_ok-next+in_ok-more+in-More+else-choice-choice-end w ↦
          let last : v ≡ values.high = omega (arith, ints) in
          let most : v ≤ℤ values.high = omega (arith, ints, last) in
          subst (Moved P (WentAmong c.args.entry values.low (values.high +ℤ pos 1)) start) (sym w.search-is)
          (tried_one P depth start now c.args.entry c.args.completion.now values c.requires.place v before.moved w.child.new.search (before.from, most) w.child.ensures.moved)
    ]

pub best_before-returns-then-start-low-clause-outcome : goal.best_before-returns-then-start-low-clause-outcome
best_before-returns-then-start-low-clause-outcome t c =
    let P = c.args.here.game.now in
    let rest = c.args.here.rest.now in
    let depth = c.args.here.depth in
    let start = c.args.search.now in
    let W = c.args.window.now in
    let from = c.args.start in
    let later = c.args.later in
    let range = range_at start.bx depth in
    let low : c.range-low.result.low ≡ range.low = ap (λ (r : Range). r.low) c.range-low.ensures in
    let first_one : from ≡ range.low = omega (arith, ints, low, c.requires.start.from) in
    let are = subst (λ n. AreChoices P [] [] (drop 1 rest) depth start.bx W n c.requires.later.next later) first_one c.requires.later.choices in
    c.in_ok-outcome.ensures P [] [] rest depth start.bx W c.requires.later.next c.requires.player are (past_all range from c.requires.later.next c.requires.start c.requires.later.past)

pub best_before-returns-then-start-low-clause-moved : goal.best_before-returns-then-start-low-clause-moved
best_before-returns-then-start-low-clause-moved t c =
    let P = c.args.here.game.now in
    let rest = c.args.here.rest.now in
    let depth = c.args.here.depth in
    let start = c.args.search.now in
    let values : Range = record { low = (range_at start.bx depth).low; high = c.args.start -ℤ pos 1 } in
    moved_below P depth start start c.args.entry c.requires.place.stands values.low values.low (moved_nowhere P depth start c.args.entry c.args.completion.now values c.requires.place)

pub best_before-choices_in-requires : goal.best_before-choices_in-requires
best_before-choices_in-requires t c =
    let P = c.args.here.game.now in
    let rest = c.args.here.rest.now in
    let depth = c.args.here.depth in
    let start = c.args.search.now in
    let W = c.args.window.now in
    let from = c.args.start in
    let later = c.args.later in
    let range = range_at start.bx depth in
    let low : c.range-low.result.low ≡ range.low = ap (λ (r : Range). r.low) c.range-low.ensures in
    let fits_low : SFits w64 c.range-low.result.low = search rules in
    let less : range.low <ℤ from = omega (arith, ints, low) in
    let fits : SFits w64 (from -ℤ pos 1) = omega (arith, ints, low, less) in
    let is_low = to_z-of_z w64 c.range-low.result.low fits_low in
    let is_from = to_z-of_z w64 from c.ranges.start in
    let is_high = to_z-of_z w64 (from -ℤ pos 1) fits in
    let window = choice_window_proper P [] [] (drop 1 rest) depth start.bx W from c.requires.later.next later c.requires.window c.requires.later.choices in
    (omega (arith), rw (is_from, is_high, is_low, c.range-low.ensures) (c.requires.player, (c.requires.place, (c.requires.point, rw c.window-within.ensures window))))

pub best_before-returns-in_err-value-clause-moved : goal.best_before-returns-in_err-value-clause-moved
best_before-returns-in_err-value-clause-moved t c =
    moved_below c.args.here.game.now c.args.here.depth c.args.search.now c.choices_in.new.search c.args.entry c.requires.place.stands _ _ c.choices_in.ensures.moved

pub best_before-returns-in_err-before-in-More-clause-moved : goal.best_before-returns-in_err-before-in-More-clause-moved
best_before-returns-in_err-before-in-More-clause-moved t c =
    moved_below c.args.here.game.now c.args.here.depth c.args.search.now c.choices_in.new.search c.args.entry c.requires.place.stands _ _ c.choices_in.ensures.moved

pub best_before-returns-in_err-outcome-in-More-clause-moved : goal.best_before-returns-in_err-outcome-in-More-clause-moved
best_before-returns-in_err-outcome-in-More-clause-moved t c =
    moved_below c.args.here.game.now c.args.here.depth c.args.search.now c.choices_in.new.search c.args.entry c.requires.place.stands _ _ c.choices_in.ensures.moved

pub best_before-returns-in-Enough-clause-moved : goal.best_before-returns-in-Enough-clause-moved
best_before-returns-in-Enough-clause-moved t c =
    moved_below c.args.here.game.now c.args.here.depth c.args.search.now c.choices_in.new.search c.args.entry c.requires.place.stands _ _ c.choices_in.ensures.moved

pub best_before-returns-in_ok-outcome-in-More-clause-outcome : goal.best_before-returns-in_ok-outcome-in-More-clause-outcome
best_before-returns-in_ok-outcome-in-More-clause-outcome t c =
    let P = c.args.here.game.now in
    let rest = c.args.here.rest.now in
    let depth = c.args.here.depth in
    let start = c.args.search.now in
    let W = c.args.window.now in
    let from = c.args.start in
    let later = c.args.later in
    let range = range_at start.bx depth in
    let low : c.range-low.result.low ≡ range.low = ap (λ (r : Range). r.low) c.range-low.ensures in
    let fits_low : SFits w64 c.range-low.result.low = search rules in
    let less : range.low <ℤ from = omega (arith, ints, low) in
    let fits : SFits w64 (from -ℤ pos 1) = omega (arith, ints, low, less) in
    let is_low = to_z-of_z w64 c.range-low.result.low fits_low in
    let is_from = to_z-of_z w64 from c.ranges.start in
    let is_high = to_z-of_z w64 (from -ℤ pos 1) fits in
    let values : Range = record { low = range.low; high = from -ℤ pos 1 } in
    let told = rw (is_from, is_high, is_low, c.range-low.ensures, c.window-within.ensures) at c.in_ok-value.ensures.tried in
    let all : AreAllTried P [] [] rest depth start.bx (choice_window W later.best) values c.in-More.choices = subst (AreTried P [] [] rest depth start.bx (choice_window W later.best) values) c.in-More.is told in
    let meets = past_before range.low from all.next less all.past in
    let lower = subst (λ n. AreChoices P [] [] (drop 1 rest) depth start.bx (choice_window W later.best) range.low n c.in-More.choices) meets all.choices in
    let both = c.in_ok-before-in-More.ensures P [] [] (drop 1 rest) depth start.bx W range.low from c.requires.later.next c.requires.place.place.box.sound.scale_positive c.requires.window c.requires.later.choices lower in
    c.in_ok-outcome-in-More.ensures P [] [] rest depth start.bx W c.requires.later.next c.requires.player both (past_all range from c.requires.later.next c.requires.start c.requires.later.past)

pub best_before-returns-in_ok-outcome-in-More-clause-moved : goal.best_before-returns-in_ok-outcome-in-More-clause-moved
best_before-returns-in_ok-outcome-in-More-clause-moved t c =
    moved_below c.args.here.game.now c.args.here.depth c.args.search.now c.choices_in.new.search c.args.entry c.requires.place.stands _ _ c.choices_in.ensures.moved

pub best_choice-choices_in-requires : goal.best_choice-choices_in-requires
best_choice-choices_in-requires t c =
    let P = c.args.here.game.now in
    let rest = c.args.here.rest.now in
    let depth = c.args.here.depth in
    let start = c.args.search.now in
    let W = c.args.window.now in
    let range = range_at start.bx depth in
    let from = c.likeliest-start.result in
    let fits_high : SFits w64 c.range-covered.result.high = search rules in
    let fits : SFits w64 from = search rules in
    let is_from = to_z-of_z w64 from fits in
    let is_high = to_z-of_z w64 c.range-covered.result.high fits_high in
    let is : IsStart range from = subst (λ r. IsStart r from) c.range-covered.ensures c.likeliest-start.ensures in
    let place = run_place P depth start c.args.entry c.args.completion.now from c.requires.place is in
    (omega (arith), rw (is_from, is_high, c.range-covered.ensures) (c.requires.player, (place, (c.requires.point, c.requires.window))))

pub best_choice-best_before-requires : goal.best_choice-best_before-requires
best_choice-best_before-requires t c =
    let P = c.args.here.game.now in
    let rest = c.args.here.rest.now in
    let depth = c.args.here.depth in
    let start = c.args.search.now in
    let W = c.args.window.now in
    let range = range_at start.bx depth in
    let from = c.likeliest-start.result in
    let fits_high : SFits w64 c.range-covered.result.high = search rules in
    let fits : SFits w64 from = search rules in
    let is_from = to_z-of_z w64 from fits in
    let is_high = to_z-of_z w64 c.range-covered.result.high fits_high in
    let is : IsStart range from = subst (λ r. IsStart r from) c.range-covered.ensures c.likeliest-start.ensures in
    let next = c.choices_in.new.search in
    let moved = rw (is_from, is_high, c.range-covered.ensures) at c.choices_in.ensures.moved in
    let told = rw (is_from, is_high, c.range-covered.ensures) at c.in_ok-value.ensures.tried in
    let all = subst (AreTried P [] [] rest depth start.bx W (record { low = from; high = range.high })) c.in-More.is told in
    let place = run_before P depth start next c.args.entry c.args.completion.now from _ c.requires.place is moved in
    (omega (arith), rw is_from (c.requires.player, (place, (rw moved.same is, (rw moved.same all, (c.requires.point, c.requires.window))))))

pub best_choice-returns-in-Enough-clause-moved : goal.best_choice-returns-in-Enough-clause-moved
best_choice-returns-in-Enough-clause-moved t c =
    moved_below c.args.here.game.now c.args.here.depth c.args.search.now c.choices_in.new.search c.args.entry c.requires.place.stands _ _ c.choices_in.ensures.moved

pub best_choice-returns-in-More-clause-moved : goal.best_choice-returns-in-More-clause-moved
best_choice-returns-in-More-clause-moved t c =
    let P = c.args.here.game.now in
    let rest = c.args.here.rest.now in
    let depth = c.args.here.depth in
    let start = c.args.search.now in
    let W = c.args.window.now in
    let range = range_at start.bx depth in
    let from = c.likeliest-start.result in
    let fits_high : SFits w64 c.range-covered.result.high = search rules in
    let fits : SFits w64 from = search rules in
    let is_from = to_z-of_z w64 from fits in
    let is_high = to_z-of_z w64 c.range-covered.result.high fits_high in
    let is : IsStart range from = subst (λ r. IsStart r from) c.range-covered.ensures c.likeliest-start.ensures in
    let next = c.choices_in.new.search in
    let moved = rw (is_from, is_high, c.range-covered.ensures) at c.choices_in.ensures.moved in
    moved_further P c.args.entry start next c.best_before.new.search (moved_below P depth start next c.args.entry c.requires.place.stands _ _ moved) c.best_before.ensures.moved

-- ---- the values of a universal variable

pub visit-worst_answer-requires : goal.visit-worst_answer-requires
visit-worst_answer-requires t c =
    let next = universal_next c.args.here.rest.now c.index-here-0.result c.requires.some (sym c.if-is_for_all.ensures) in
    (omega (arith), (next, (c.requires.place, (c.requires.point, c.requires.window))))

pub answer_to-is_known-requires : goal.answer_to-is_known-requires
answer_to-is_known-requires t c =
    let place : IsSearchPlace c.args.here.game.now c.args.here.depth c.args.search.now.bx c.args.completion.now = record { box = c.requires.place.value.box; completes = c.requires.completes } in
    (begins_here c.args.here.rest.now c.args.here.from_depth c.requires.player place).some

pub answer_to-later_values-later-requires : goal.answer_to-later_values-later-requires
answer_to-later_values-later-requires t c =
    let place : IsSearchPlace c.args.here.game.now c.args.here.depth c.args.search.now.bx c.args.completion.now = record { box = c.requires.place.value.box; completes = c.requires.completes } in
    (begins_here c.args.here.rest.now c.args.here.from_depth c.requires.player place).some

pub answer_to-child-requires : goal.answer_to-child-requires
answer_to-child-requires t c =
    let P = c.args.here.game.now in
    let rest = c.args.here.rest.now in
    let depth = c.args.here.depth in
    let start = c.args.search.now in
    let v = c.args.value in
    let same = to_z-of_z w64 v c.ranges.value in
    let value = c.requires.place.value in
    let place : IsSearchPlace P depth start.bx c.args.completion.now = record { box = value.box; completes = c.requires.completes } in
    let known = (rw same at c.is_known.ensures).0 c.if-is_known.true in
    let completes = completes_answer c.args.here.rest.now c.args.here.from_depth c.requires.player place v value.within known in
    (omega (arith), rw (same, c.later_values-later.ensures) (some_next Universal rest c.requires.player, (value, (completes, (c.requires.point, c.requires.window)))))

pub answer_to-returns-then-is_known-clause-answer : goal.answer_to-returns-then-is_known-clause-answer
answer_to-returns-then-is_known-clause-answer t c =
    let P = c.args.here.game.now in
    let rest = c.args.here.rest.now in
    let depth = c.args.here.depth in
    let start = c.args.search.now in
    let v = c.args.value in
    let same = to_z-of_z w64 v c.ranges.value in
    let value = c.requires.place.value in
    let place : IsSearchPlace P depth start.bx c.args.completion.now = record { box = value.box; completes = c.requires.completes } in
    let known = (rw same at c.is_known.ensures).0 c.if-is_known.true in
    let completes = completes_answer c.args.here.rest.now c.args.here.from_depth c.requires.player place v value.within known in
    let right : IsRightPick P (drop 1 rest) depth start.bx v c.in_ok-list_of.field-0 =
    rw (c.in_ok-list_of.ensures, c.later_values-later.ensures) (right_pick c.args.here.rest.now c.args.here.from_depth c.requires.player value.box v value.within (drop 1 c.args.completion.now) completes) in
    let outcome = rw same at c.in_ok-outcome.ensures.outcome in
    (rw same at c.in_ok-legal_answer.ensures) P [] [] rest depth start.bx c.args.window.now (next_value c.args.completion.now) c.requires.window c.requires.player right outcome

pub answer_to-child-requires-in-Completion : goal.answer_to-child-requires-in-Completion
answer_to-child-requires-in-Completion t c =
    let P = c.args.here.game.now in
    let rest = c.args.here.rest.now in
    let depth = c.args.here.depth in
    let start = c.args.search.now in
    let v = c.args.value in
    let same = to_z-of_z w64 v c.ranges.value in
    let value = c.requires.place.value in
    let place : IsSearchPlace P depth start.bx c.args.completion.now = record { box = value.box; completes = c.requires.completes } in
    let asked = rw same at c.legality.ensures.moved in
    let then = asked_place P depth start c.legality.new.search c.args.entry v c.requires.place asked in
    let completes = subst (IsRightLegality P (depth + 1) (set start.bx depth (single v))) c.in-Completion.is (rw same at c.in_ok-tree.ensures.legality) in
    (omega (arith), rw (same, c.as_slice-later.ensures) (some_next Universal rest c.requires.player, (then, (rw asked.same completes, (c.requires.point, c.requires.window)))))

pub answer_to-returns-in_err-outcome-in-Completion-clause-moved : goal.answer_to-returns-in_err-outcome-in-Completion-clause-moved
answer_to-returns-in_err-outcome-in-Completion-clause-moved t c =
    let P = c.args.here.game.now in
    let depth = c.args.here.depth in
    let start = c.args.search.now in
    let v = c.args.value in
    let same = to_z-of_z w64 v c.ranges.value in
    let asked = rw same at c.legality.ensures.moved in
    let then = rw same at c.child-in-Completion.ensures.moved in
    moved_then P c.args.entry v start c.legality.new.search c.child-in-Completion.new.search (asked_moves P depth start c.legality.new.search c.args.entry v c.requires.place asked) then

pub answer_to-returns-in_err-legal_answer-in-Completion-clause-moved : goal.answer_to-returns-in_err-legal_answer-in-Completion-clause-moved
answer_to-returns-in_err-legal_answer-in-Completion-clause-moved t c =
    let P = c.args.here.game.now in
    let depth = c.args.here.depth in
    let start = c.args.search.now in
    let v = c.args.value in
    let same = to_z-of_z w64 v c.ranges.value in
    let asked = rw same at c.legality.ensures.moved in
    let then = rw same at c.child-in-Completion.ensures.moved in
    moved_then P c.args.entry v start c.legality.new.search c.child-in-Completion.new.search (asked_moves P depth start c.legality.new.search c.args.entry v c.requires.place asked) then

pub answer_to-returns-in_ok-legal_answer-in-Completion-clause-moved : goal.answer_to-returns-in_ok-legal_answer-in-Completion-clause-moved
answer_to-returns-in_ok-legal_answer-in-Completion-clause-moved t c =
    let P = c.args.here.game.now in
    let depth = c.args.here.depth in
    let start = c.args.search.now in
    let v = c.args.value in
    let same = to_z-of_z w64 v c.ranges.value in
    let asked = rw same at c.legality.ensures.moved in
    let then = rw same at c.child-in-Completion.ensures.moved in
    moved_then P c.args.entry v start c.legality.new.search c.child-in-Completion.new.search (asked_moves P depth start c.legality.new.search c.args.entry v c.requires.place asked) then

pub answer_to-returns-in_ok-legal_answer-in-Completion-clause-answer : goal.answer_to-returns-in_ok-legal_answer-in-Completion-clause-answer
answer_to-returns-in_ok-legal_answer-in-Completion-clause-answer t c =
    let P = c.args.here.game.now in
    let rest = c.args.here.rest.now in
    let depth = c.args.here.depth in
    let start = c.args.search.now in
    let v = c.args.value in
    let same = to_z-of_z w64 v c.ranges.value in
    let value = c.requires.place.value in
    let place : IsSearchPlace P depth start.bx c.args.completion.now = record { box = value.box; completes = c.requires.completes } in
    let completes = subst (IsRightLegality P (depth + 1) (set start.bx depth (single v))) c.in-Completion.is (rw same at c.in_ok-tree.ensures.legality) in
    let right = right_pick c.args.here.rest.now c.args.here.from_depth c.requires.player value.box v value.within c.in-Completion.values completes in
    let outcome = rw (same, c.legality.ensures.moved.same) at c.in_ok-outcome-in-Completion.ensures.outcome in
    (rw same at c.in_ok-legal_answer-in-Completion.ensures) P [] [] rest depth start.bx c.args.window.now (next_value c.args.completion.now) c.requires.window c.requires.player right outcome

pub answers_in-loop-value-init : goal.answers_in-loop-value-init
answers_in-loop-value-init t c =
    let P = c.args.here.game.now in
    let rest = c.args.here.rest.now in
    let depth = c.args.here.depth in
    let start = c.args.search.now in
    let values = c.args.values in
    let low : SFits w64 values.low = search rules in
    rw (to_z-of_z w64 values.low low)
    (record {
      from = omega (arith, ints);
      to = λ some. absurd (omega (arith, ints, some));
      moved = moved_nowhere P depth start c.args.entry c.args.completion.now values c.requires.place;
      answers = c.new-answers.ensures P [] [] rest depth start.bx c.args.window.now (next_value c.args.completion.now) values.low;
    })

pub answers_in-answer_to-requires : goal.answers_in-answer_to-requires
answers_in-answer_to-requires t c =
    let P = c.args.here.game.now in
    let rest = c.args.here.rest.now in
    let depth = c.args.here.depth in
    let start = c.args.search.now in
    let now = c.loop-value.search in
    let W = c.args.window.now in
    let values = c.args.values in
    let v = to_z w64 c.loop-value.value-bits in
    let before = c.loop-value.invariant in
    let most : v ≤ℤ values.high = omega (arith, ints) in
    let first = next_value c.args.completion.now in
    let place = value_place P depth start now c.args.entry c.args.completion.now values c.requires.place v before.moved (before.from, most) in
    let window = answer_window_proper P [] [] rest depth start.bx W first values.low v c.loop-value.answers c.requires.window before.answers in
    (omega (arith), (c.requires.player, (place, (rw before.moved.same c.requires.place.place.completes, (c.point_at-known.ensures P c.requires.lowest c.requires.point, rw c.window-within.ensures window)))))

pub answers_in-returns-in_err-answer-clause-moved : goal.answers_in-returns-in_err-answer-clause-moved
answers_in-returns-in_err-answer-clause-moved t c =
    let P = c.args.here.game.now in
    let rest = c.args.here.rest.now in
    let depth = c.args.here.depth in
    let start = c.args.search.now in
    let now = c.loop-value.search in
    let W = c.args.window.now in
    let values = c.args.values in
    let v = to_z w64 c.loop-value.value-bits in
    let before = c.loop-value.invariant in
    let most : v ≤ℤ values.high = omega (arith, ints) in
    tried_one P depth start now c.args.entry c.args.completion.now values c.requires.place v before.moved c.answer_to.new.search (before.from, most) c.answer_to.ensures.moved

pub answers_in-returns-in_err-outcome-clause-moved : goal.answers_in-returns-in_err-outcome-clause-moved
answers_in-returns-in_err-outcome-clause-moved t c =
    let P = c.args.here.game.now in
    let rest = c.args.here.rest.now in
    let depth = c.args.here.depth in
    let start = c.args.search.now in
    let now = c.loop-value.search in
    let W = c.args.window.now in
    let values = c.args.values in
    let v = to_z w64 c.loop-value.value-bits in
    let before = c.loop-value.invariant in
    let most : v ≤ℤ values.high = omega (arith, ints) in
    let moved = tried_one P depth start now c.args.entry c.args.completion.now values c.requires.place v before.moved c.answer_to.new.search (before.from, most) c.answer_to.ensures.moved in
    rw c.settled.ensures.same moved

pub answers_in-returns-in-Ended-clause-answered : goal.answers_in-returns-in-Ended-clause-answered
answers_in-returns-in-Ended-clause-answered t c =
    let P = c.args.here.game.now in
    let rest = c.args.here.rest.now in
    let depth = c.args.here.depth in
    let start = c.args.search.now in
    let now = c.loop-value.search in
    let W = c.args.window.now in
    let values = c.args.values in
    let v = to_z w64 c.loop-value.value-bits in
    let before = c.loop-value.invariant in
    let most : v ≤ℤ values.high = omega (arith, ints) in
    let first = next_value c.args.completion.now in
    let window = answer_window_proper P [] [] rest depth start.bx W first values.low v c.loop-value.answers c.requires.window before.answers in
    let told = rw (before.moved.same, c.window-within.ensures) at c.in_ok-answer.ensures.answer in
    let box : c.answer_to.new.search.bx ≡ start.bx = c.answer_to.ensures.moved.same ∙ before.moved.same in
    let settled = rw (box, c.window-within.ensures) at c.in_ok-outcome.ensures.answer in
    let answer = settled [] [] first v window told in
    let ended = subst (IsRightAnswer P [] [] rest depth start.bx (answer_window W c.loop-value.answers.worst) first v) c.in-Ended.is answer in
    c.widened.ensures P [] [] rest depth start.bx W first values.low v c.requires.window before.answers ended

pub answers_in-returns-in-Ended-clause-moved : goal.answers_in-returns-in-Ended-clause-moved
answers_in-returns-in-Ended-clause-moved t c =
    let P = c.args.here.game.now in
    let rest = c.args.here.rest.now in
    let depth = c.args.here.depth in
    let start = c.args.search.now in
    let now = c.loop-value.search in
    let W = c.args.window.now in
    let values = c.args.values in
    let v = to_z w64 c.loop-value.value-bits in
    let before = c.loop-value.invariant in
    let most : v ≤ℤ values.high = omega (arith, ints) in
    let moved = tried_one P depth start now c.args.entry c.args.completion.now values c.requires.place v before.moved c.answer_to.new.search (before.from, most) c.answer_to.ensures.moved in
    rw c.settled.ensures.same moved

pub answers_in-returns-in_err-answers-in-Kept-clause-moved : goal.answers_in-returns-in_err-answers-in-Kept-clause-moved
answers_in-returns-in_err-answers-in-Kept-clause-moved t c =
    let P = c.args.here.game.now in
    let rest = c.args.here.rest.now in
    let depth = c.args.here.depth in
    let start = c.args.search.now in
    let now = c.loop-value.search in
    let W = c.args.window.now in
    let values = c.args.values in
    let v = to_z w64 c.loop-value.value-bits in
    let before = c.loop-value.invariant in
    let most : v ≤ℤ values.high = omega (arith, ints) in
    let moved = tried_one P depth start now c.args.entry c.args.completion.now values c.requires.place v before.moved c.answer_to.new.search (before.from, most) c.answer_to.ensures.moved in
    rw c.settled.ensures.same moved

pub answers_in-loop-value-preserved : goal.answers_in-loop-value-preserved
answers_in-loop-value-preserved t c =
    let P = c.args.here.game.now in
    let rest = c.args.here.rest.now in
    let depth = c.args.here.depth in
    let start = c.args.search.now in
    let now = c.loop-value.search in
    let W = c.args.window.now in
    let values = c.args.values in
    let v = to_z w64 c.loop-value.value-bits in
    let before = c.loop-value.invariant in
    let fitting : SFits w64 values.high = search rules in
    let less : v <ℤ values.high = omega (arith, ints) in
    let fits : SFits w64 (v +ℤ pos 1) = omega (arith, ints) in
    let most : v ≤ℤ values.high = omega (arith, ints) in
    let first = next_value c.args.completion.now in
    let window = answer_window_proper P [] [] rest depth start.bx W first values.low v c.loop-value.answers c.requires.window before.answers in
    let told = rw (before.moved.same, c.window-within.ensures) at c.in_ok-answer.ensures.answer in
    let box : c.answer_to.new.search.bx ≡ start.bx = c.answer_to.ensures.moved.same ∙ before.moved.same in
    let settled = rw (box, c.window-within.ensures) at c.in_ok-outcome.ensures.answer in
    let answer = settled [] [] first v window told in
    let reply = subst (IsRightAnswer P [] [] rest depth start.bx (answer_window W c.loop-value.answers.worst) first v) c.in-Kept.is answer in
    let moved = moved_on P depth start now c.args.entry c.args.completion.now values c.requires.place v before.moved c.answer_to.new.search before.from c.answer_to.ensures.moved in
    simp (to_z-of_z w64 (v +ℤ pos 1) fits)
    (record {
      from = omega (arith, ints, before.from);
      to = λ some. omega (arith, ints, less);
      moved = rw c.settled.ensures.same moved;
      answers = c.in_ok-answers-in-Kept.ensures P [] [] rest depth start.bx W first values.low c.requires.window before.answers reply;
    })

pub answers_in-returns-clause-answered : goal.answers_in-returns-clause-answered
answers_in-returns-clause-answered t c =
    let P = c.args.here.game.now in
    let rest = c.args.here.rest.now in
    let depth = c.args.here.depth in
    let start = c.args.search.now in
    let now = c.loop-value.search in
    let W = c.args.window.now in
    let values = c.args.values in
    let v = to_z w64 c.loop-value.value-bits in
    let before = c.loop-value.invariant in
    let fitting : SFits w64 values.high = search rules in
    elim c.loop-value-test.branch [
      | answers_in-else-loop-value-test w ↦
          let first = next_value c.args.completion.now in
          let above : values.high <ℤ v = omega (arith, ints) in
          record { next = v; past = record { above = above; near = before.to }; answers = subst (AreAnswers P [] [] rest depth start.bx W first values.low v) (sym w.answers-is) before.answers }
      | answers_in-then-loop-value-test+in_ok-answer+in_ok-outcome+in-Kept+in_ok-answers-in-Kept+else-value-value-end w ↦
          let last : v ≡ values.high = omega (arith, ints) in
          let first = next_value c.args.completion.now in
          let window = answer_window_proper P [] [] rest depth start.bx W first values.low v c.loop-value.answers c.requires.window before.answers in
          let told = rw (before.moved.same, w.window-within.ensures) at w.in_ok-answer.ensures.answer in
          let box : w.answer_to.new.search.bx ≡ start.bx = w.answer_to.ensures.moved.same ∙ before.moved.same in
          let settled = rw (box, w.window-within.ensures) at w.in_ok-outcome.ensures.answer in
          let answer = settled [] [] first v window told in
          let reply = subst (IsRightAnswer P [] [] rest depth start.bx (answer_window W c.loop-value.answers.worst) first v) w.in-Kept.is answer in
          let all = w.in_ok-answers-in-Kept.ensures P [] [] rest depth start.bx W first values.low c.requires.window before.answers reply in
          record {
            next = v +ℤ pos 1;
            past = record { above = omega (arith, ints, last); near = λ some. omega (arith, ints, last) };
            answers = subst (AreAnswers P [] [] rest depth start.bx W first values.low (v +ℤ pos 1)) (sym w.answers-is) all;
          }
    ]

pub answers_in-returns-clause-moved : goal.answers_in-returns-clause-moved
answers_in-returns-clause-moved t c =
    let P = c.args.here.game.now in
    let rest = c.args.here.rest.now in
    let depth = c.args.here.depth in
    let start = c.args.search.now in
    let now = c.loop-value.search in
    let W = c.args.window.now in
    let values = c.args.values in
    let v = to_z w64 c.loop-value.value-bits in
    let before = c.loop-value.invariant in
    let fitting : SFits w64 values.high = search rules in
    elim c.loop-value-test.branch [
      | answers_in-else-loop-value-test w ↦
          let above : values.high <ℤ v = omega (arith, ints) in
          subst (Moved P (WentAmong c.args.entry values.low (values.high +ℤ pos 1)) start) (sym w.search-is)
          (moved_all P depth start now c.args.entry c.requires.place.stands values.low v before.moved (values.high +ℤ pos 1) (λ u from less. omega (arith, ints, less, before.to (omega (arith, ints, from, less)))))
      | answers_in-then-loop-value-test+in_ok-answer+in_ok-outcome+in-Kept+in_ok-answers-in-Kept+else-value-value-end w ↦
          let last : v ≡ values.high = omega (arith, ints) in
          let most : v ≤ℤ values.high = omega (arith, ints, last) in
          let moved = tried_one P depth start now c.args.entry c.args.completion.now values c.requires.place v before.moved w.answer_to.new.search (before.from, most) w.answer_to.ensures.moved in
          subst (Moved P (WentAmong c.args.entry values.low (values.high +ℤ pos 1)) start) (sym w.search-is) (rw w.settled.ensures.same moved)
    ]

pub worst_from-answers_in-requires : goal.worst_from-answers_in-requires
worst_from-answers_in-requires t c =
    let P = c.args.here.game.now in
    let rest = c.args.here.rest.now in
    let depth = c.args.here.depth in
    let start = c.args.search.now in
    let W = c.args.window.now in
    let range = range_at start.bx depth in
    let from = c.args.lowest.now.value in
    let fits : SFits w64 from = search rules in
    let fits_high : SFits w64 c.range-covered.result.high = search rules in
    let is_from = to_z-of_z w64 from fits in
    let is_high = to_z-of_z w64 c.range-covered.result.high fits_high in
    let is = c.requires.start in
    let place = run_place P depth start c.args.entry c.args.completion.now from c.requires.place is in
    (omega (arith), rw (is_from, is_high, c.range-covered.ensures) (c.requires.player, (place, (c.requires.lowest, (c.requires.point, c.requires.window)))))

pub worst_from-worst_before-requires : goal.worst_from-worst_before-requires
worst_from-worst_before-requires t c =
    let P = c.args.here.game.now in
    let rest = c.args.here.rest.now in
    let depth = c.args.here.depth in
    let start = c.args.search.now in
    let W = c.args.window.now in
    let range = range_at start.bx depth in
    let from = c.args.lowest.now.value in
    let fits : SFits w64 from = search rules in
    let fits_high : SFits w64 c.range-covered.result.high = search rules in
    let is_from = to_z-of_z w64 from fits in
    let is_high = to_z-of_z w64 c.range-covered.result.high fits_high in
    let is = c.requires.start in
    let next = c.answers_in.new.search in
    let moved = rw (is_from, is_high, c.range-covered.ensures) at c.answers_in.ensures.moved in
    let told = rw (is_from, is_high, c.range-covered.ensures) at c.in_ok-outcome.ensures.answered in
    let all = subst (AreAnswered P [] [] rest depth start.bx W (next_value c.args.completion.now) (record { low = from; high = range.high })) c.in-More.is told in
    let place = run_before P depth start next c.args.entry c.args.completion.now from _ c.requires.place is moved in
    (omega (arith), rw is_from (c.requires.player, (place, (rw moved.same is, (rw moved.same all, (c.requires.lowest, (c.requires.point, c.requires.window)))))))

pub worst_from-returns-in-More-clause-moved : goal.worst_from-returns-in-More-clause-moved
worst_from-returns-in-More-clause-moved t c =
    let P = c.args.here.game.now in
    let rest = c.args.here.rest.now in
    let depth = c.args.here.depth in
    let start = c.args.search.now in
    let W = c.args.window.now in
    let range = range_at start.bx depth in
    let from = c.args.lowest.now.value in
    let fits : SFits w64 from = search rules in
    let fits_high : SFits w64 c.range-covered.result.high = search rules in
    let is_from = to_z-of_z w64 from fits in
    let is_high = to_z-of_z w64 c.range-covered.result.high fits_high in
    let is = c.requires.start in
    let next = c.answers_in.new.search in
    let moved = rw (is_from, is_high, c.range-covered.ensures) at c.answers_in.ensures.moved in
    moved_further P c.args.entry start next c.worst_before.new.search (moved_below P depth start next c.args.entry c.requires.place.stands _ _ moved) c.worst_before.ensures.moved

pub worst_before-outcome-requires : goal.worst_before-outcome-requires
worst_before-outcome-requires t c =
    let P = c.args.here.game.now in
    let rest = c.args.here.rest.now in
    let depth = c.args.here.depth in
    let start = c.args.search.now in
    let W = c.args.window.now in
    let from = c.args.start in
    let later = c.args.later in
    let range = range_at start.bx depth in
    let low : c.range-low.result.low ≡ range.low = ap (λ (r : Range). r.low) c.range-low.ensures in
    let first_one : from ≡ range.low = omega (arith, ints, low, c.requires.start.from) in
    let first = next_value c.args.completion.now in
    let begins = begins_here c.args.here.rest.now c.args.here.from_depth c.requires.player c.requires.place.place in
    some_answered P [] [] rest depth start.bx W first from c.requires.later.next later c.requires.later.answers (omega (arith, ints, first_one, begins.within.0)) (omega (arith, ints, begins.within.1, c.requires.later.past.above))

pub worst_before-returns-then-start-low-clause-outcome : goal.worst_before-returns-then-start-low-clause-outcome
worst_before-returns-then-start-low-clause-outcome t c =
    let P = c.args.here.game.now in
    let rest = c.args.here.rest.now in
    let depth = c.args.here.depth in
    let start = c.args.search.now in
    let W = c.args.window.now in
    let from = c.args.start in
    let later = c.args.later in
    let range = range_at start.bx depth in
    let low : c.range-low.result.low ≡ range.low = ap (λ (r : Range). r.low) c.range-low.ensures in
    let first_one : from ≡ range.low = omega (arith, ints, low, c.requires.start.from) in
    let first = next_value c.args.completion.now in
    let are = subst (λ n. AreAnswers P [] [] rest depth start.bx W first n c.requires.later.next later) first_one c.requires.later.answers in
    c.outcome.ensures P [] [] rest depth start.bx W first c.requires.later.next refl c.requires.window c.requires.player are (past_all range from c.requires.later.next c.requires.start c.requires.later.past)

pub worst_before-returns-then-start-low-clause-moved : goal.worst_before-returns-then-start-low-clause-moved
worst_before-returns-then-start-low-clause-moved t c =
    let P = c.args.here.game.now in
    let rest = c.args.here.rest.now in
    let depth = c.args.here.depth in
    let start = c.args.search.now in
    let values : Range = record { low = (range_at start.bx depth).low; high = c.args.start -ℤ pos 1 } in
    moved_below P depth start start c.args.entry c.requires.place.stands values.low values.low (moved_nowhere P depth start c.args.entry c.args.completion.now values c.requires.place)

pub worst_before-answers_in-requires : goal.worst_before-answers_in-requires
worst_before-answers_in-requires t c =
    let P = c.args.here.game.now in
    let rest = c.args.here.rest.now in
    let depth = c.args.here.depth in
    let start = c.args.search.now in
    let W = c.args.window.now in
    let from = c.args.start in
    let later = c.args.later in
    let range = range_at start.bx depth in
    let low : c.range-low.result.low ≡ range.low = ap (λ (r : Range). r.low) c.range-low.ensures in
    let fits_low : SFits w64 c.range-low.result.low = search rules in
    let less : range.low <ℤ from = omega (arith, ints, low) in
    let fits : SFits w64 (from -ℤ pos 1) = omega (arith, ints, low, less) in
    let is_low = to_z-of_z w64 c.range-low.result.low fits_low in
    let is_from = to_z-of_z w64 from c.ranges.start in
    let is_high = to_z-of_z w64 (from -ℤ pos 1) fits in
    let first = next_value c.args.completion.now in
    let window = answer_window_proper P [] [] rest depth start.bx W first from c.requires.later.next later c.requires.window c.requires.later.answers in
    (omega (arith), rw (is_from, is_high, is_low, c.range-low.ensures) (c.requires.player, (c.requires.place, (c.requires.lowest, (c.requires.point, rw c.window-within.ensures window)))))

pub worst_before-returns-in_err-outcome-clause-moved : goal.worst_before-returns-in_err-outcome-clause-moved
worst_before-returns-in_err-outcome-clause-moved t c =
    moved_below c.args.here.game.now c.args.here.depth c.args.search.now c.answers_in.new.search c.args.entry c.requires.place.stands _ _ c.answers_in.ensures.moved

pub worst_before-returns-in_err-before-in-More-clause-moved : goal.worst_before-returns-in_err-before-in-More-clause-moved
worst_before-returns-in_err-before-in-More-clause-moved t c =
    moved_below c.args.here.game.now c.args.here.depth c.args.search.now c.answers_in.new.search c.args.entry c.requires.place.stands _ _ c.answers_in.ensures.moved

pub worst_before-outcome-requires-in-More : goal.worst_before-outcome-requires-in-More
worst_before-outcome-requires-in-More t c =
    let P = c.args.here.game.now in
    let rest = c.args.here.rest.now in
    let depth = c.args.here.depth in
    let start = c.args.search.now in
    let W = c.args.window.now in
    let from = c.args.start in
    let later = c.args.later in
    let range = range_at start.bx depth in
    let low : c.range-low.result.low ≡ range.low = ap (λ (r : Range). r.low) c.range-low.ensures in
    let fits_low : SFits w64 c.range-low.result.low = search rules in
    let less : range.low <ℤ from = omega (arith, ints, low) in
    let fits : SFits w64 (from -ℤ pos 1) = omega (arith, ints, low, less) in
    let is_low = to_z-of_z w64 c.range-low.result.low fits_low in
    let is_from = to_z-of_z w64 from c.ranges.start in
    let is_high = to_z-of_z w64 (from -ℤ pos 1) fits in
    let first = next_value c.args.completion.now in
    let values : Range = record { low = range.low; high = from -ℤ pos 1 } in
    let told = rw (is_from, is_high, is_low, c.range-low.ensures, c.window-within.ensures) at c.in_ok-outcome.ensures.answered in
    let all : AreAllAnswered P [] [] rest depth start.bx (answer_window W later.worst) first values c.in-More.answers = subst (AreAnswered P [] [] rest depth start.bx (answer_window W later.worst) first values) c.in-More.is told in
    let meets = past_before range.low from all.next less all.past in
    let lower = subst (λ n. AreAnswers P [] [] rest depth start.bx (answer_window W later.worst) first range.low n c.in-More.answers) meets all.answers in
    let both = c.in_ok-before-in-More.ensures P [] [] rest depth start.bx W first range.low from c.requires.later.next c.requires.window c.requires.later.answers lower in
    let begins = begins_here c.args.here.rest.now c.args.here.from_depth c.requires.player c.requires.place.place in
    some_answered P [] [] rest depth start.bx W first range.low c.requires.later.next c.in_ok-before-in-More.field-0 both begins.within.0 (omega (arith, ints, begins.within.1, c.requires.later.past.above))

pub worst_before-returns-in-Enough-clause-outcome : goal.worst_before-returns-in-Enough-clause-outcome
worst_before-returns-in-Enough-clause-outcome t c =
    let P = c.args.here.game.now in
    let rest = c.args.here.rest.now in
    let depth = c.args.here.depth in
    let start = c.args.search.now in
    let W = c.args.window.now in
    let from = c.args.start in
    let later = c.args.later in
    let range = range_at start.bx depth in
    let low : c.range-low.result.low ≡ range.low = ap (λ (r : Range). r.low) c.range-low.ensures in
    let fits_low : SFits w64 c.range-low.result.low = search rules in
    let less : range.low <ℤ from = omega (arith, ints, low) in
    let fits : SFits w64 (from -ℤ pos 1) = omega (arith, ints, low, less) in
    let is_low = to_z-of_z w64 c.range-low.result.low fits_low in
    let is_from = to_z-of_z w64 from c.ranges.start in
    let is_high = to_z-of_z w64 (from -ℤ pos 1) fits in
    let first = next_value c.args.completion.now in
    let values : Range = record { low = range.low; high = from -ℤ pos 1 } in
    let told = rw (is_from, is_high, is_low, c.range-low.ensures, c.window-within.ensures) at c.in_ok-outcome.ensures.answered in
    let outcome = subst (AreAnswered P [] [] rest depth start.bx (answer_window W later.worst) first values) c.in-Enough.is told in
    c.widened.ensures P [] [] rest depth start.bx W first from c.requires.later.next c.requires.window c.requires.later.answers outcome

pub worst_before-returns-in-Enough-clause-moved : goal.worst_before-returns-in-Enough-clause-moved
worst_before-returns-in-Enough-clause-moved t c =
    moved_below c.args.here.game.now c.args.here.depth c.args.search.now c.answers_in.new.search c.args.entry c.requires.place.stands _ _ c.answers_in.ensures.moved

pub worst_before-returns-in_ok-before-in-More-clause-outcome : goal.worst_before-returns-in_ok-before-in-More-clause-outcome
worst_before-returns-in_ok-before-in-More-clause-outcome t c =
    let P = c.args.here.game.now in
    let rest = c.args.here.rest.now in
    let depth = c.args.here.depth in
    let start = c.args.search.now in
    let W = c.args.window.now in
    let from = c.args.start in
    let later = c.args.later in
    let range = range_at start.bx depth in
    let low : c.range-low.result.low ≡ range.low = ap (λ (r : Range). r.low) c.range-low.ensures in
    let fits_low : SFits w64 c.range-low.result.low = search rules in
    let less : range.low <ℤ from = omega (arith, ints, low) in
    let fits : SFits w64 (from -ℤ pos 1) = omega (arith, ints, low, less) in
    let is_low = to_z-of_z w64 c.range-low.result.low fits_low in
    let is_from = to_z-of_z w64 from c.ranges.start in
    let is_high = to_z-of_z w64 (from -ℤ pos 1) fits in
    let first = next_value c.args.completion.now in
    let values : Range = record { low = range.low; high = from -ℤ pos 1 } in
    let told = rw (is_from, is_high, is_low, c.range-low.ensures, c.window-within.ensures) at c.in_ok-outcome.ensures.answered in
    let all : AreAllAnswered P [] [] rest depth start.bx (answer_window W later.worst) first values c.in-More.answers = subst (AreAnswered P [] [] rest depth start.bx (answer_window W later.worst) first values) c.in-More.is told in
    let meets = past_before range.low from all.next less all.past in
    let lower = subst (λ n. AreAnswers P [] [] rest depth start.bx (answer_window W later.worst) first range.low n c.in-More.answers) meets all.answers in
    let both = c.in_ok-before-in-More.ensures P [] [] rest depth start.bx W first range.low from c.requires.later.next c.requires.window c.requires.later.answers lower in
    c.outcome-in-More.ensures P [] [] rest depth start.bx W first c.requires.later.next refl c.requires.window c.requires.player both (past_all range from c.requires.later.next c.requires.start c.requires.later.past)

pub worst_before-returns-in_ok-before-in-More-clause-moved : goal.worst_before-returns-in_ok-before-in-More-clause-moved
worst_before-returns-in_ok-before-in-More-clause-moved t c =
    moved_below c.args.here.game.now c.args.here.depth c.args.search.now c.answers_in.new.search c.args.entry c.requires.place.stands _ _ c.answers_in.ensures.moved
