use Rattle.std.proofs.Common.{◌≡◌, ◌+◌, ◌∙◌, ◌++◌, ◌∷◌, [], length, length-append, arith, refl, sym, ap, subst, set}
use Rattle.std.proofs.lemmas.Int.{to_z-of_z}
use mir.Syntax.{w64}
use Rattle.qm_model.specs.declared.variable.Player.TheVariants.{All as Universal}
use Rattle.qm_model.specs.Ranges.{single}
use Rattle.qm_cover.proofs.Places.{put_back}
use Rattle.qm_game.proofs.NextVariables.{next_in_box}
use Rattle.qm_journal.specs.Positions.{Position, position_of}
use Rattle.qm_legal.specs.Queries.{IsQueryOf, IsRightLegality}
use Rattle.qm_legal.proofs.Places.{some_next}
use Rattle.qm_search.proofs.EnteredJournals.{moved_asked, new_question}
use Rattle.qm_search.proofs.SearchBoxes.{next_box}
use Rattle.qm_search.proofs.BoxPrefixes.{prefix_long}
use Rattle.qm_search.proofs.SearchPrefixes.{prefix_more, prefix_query, prefix_turn}
use Rattle.qm_search.specs.PlaceSteps.{prefix_before}
use Rattle.qm_search.proofs.legality.legality.Goals as goal

pub legal-answer-requires-clause-new : goal.legal-answer-requires-clause-new
legal-answer-requires-clause-new c =
    let P = c.args.here.game.now in
    let depth = c.args.here.depth in
    let bx = c.args.search.now.bx in
    let place = c.requires.place.value in
    let turn = prefix_turn P depth bx c.args.here.rest.now c.args.here.from_depth place.box c.requires.player in
    rw (to_z-of_z w64 c.args.value c.ranges.value)
    (new_question P c.args.search.now.journal.entries c.args.entry (prefix_before depth bx) c.args.value place.stands turn c.requires.place.query)

pub legal-answer-requires-clause-bx : goal.legal-answer-requires-clause-bx
legal-answer-requires-clause-bx c =
    let P = c.args.here.game.now in
    let rest = c.args.here.rest.now in
    let depth = c.args.here.depth in
    let bx = c.args.search.now.bx in
    let v = c.args.value in
    let place = c.requires.place.value in
    let some = some_next Universal rest c.requires.player in
    let next = next_box P rest depth bx c.args.here.from_depth some place.box v place.within in
    let below = next_in_box P rest depth bx c.args.here.from_depth some place.box.box in
    let named : prefix_before (depth + 1) (set bx depth (single v)) ≡ (position_of c.args.search.now.journal.entries c.args.entry).prefix ++ v ∷ [] =
    prefix_more depth bx v below ∙ ap (λ (p : Position). p.prefix ++ v ∷ []) (sym place.stands.is) in
    rw (c.put.ensures, c.single.ensures, to_z-of_z w64 v c.ranges.value)
    (subst (λ prefix. IsQueryOf P prefix (set bx depth (single v))) named (prefix_query P (depth + 1) (set bx depth (single v)) next))

pub put-requires-2-clause-bx : goal.put-requires-2-clause-bx
put-requires-2-clause-bx c =
    let rest = c.args.here.rest.now in
    let place = c.requires.place.value in
    let next = next_box c.args.here.game.now rest c.args.here.depth c.args.search.now.bx c.args.here.from_depth (some_next Universal rest c.requires.player) place.box c.args.value place.within in
    rw (c.put.ensures, c.single.ensures, to_z-of_z w64 c.args.value c.ranges.value) next.box

pub returns-in_err-answer-clause-moved : goal.returns-in_err-answer-clause-moved
returns-in_err-answer-clause-moved c =
    let back = put_back c.args.search.now.bx c.put.new.bx c.put.new.bx c.put-2.new.bx c.args.here.depth c.single.result c.range-before.result
    c.put.ensures refl c.put-2.ensures c.range-before.ensures in
    let went = rw (to_z-of_z w64 c.args.value c.ranges.value) at c.legal-answer.ensures.went_on in
    moved_asked c.args.here.game.now c.args.entry c.args.value c.args.search.now (record { bx = c.put-2.new.bx; journal = c.legal-answer.new.journal })
    c.requires.place.value.lawful back c.legal-answer.ensures.limit c.legal-answer.ensures.lawful went

pub returns-clause-legality : goal.returns-clause-legality
returns-clause-legality c =
    let P = c.args.here.game.now in
    let depth = c.args.here.depth in
    let bx = c.args.search.now.bx in
    let v = c.args.value in
    let place = c.requires.place.value in
    let prefix = (position_of c.args.search.now.journal.entries c.args.entry).prefix in
    let same : prefix ≡ prefix_before depth bx = ap (λ (p : Position). p.prefix) place.stands.is in
    let long : length (prefix ++ v ∷ []) ≡ depth + 1 = omega (arith, length-append prefix (v ∷ []), ap length same, prefix_long P depth bx place.box) in
    let right = rw (to_z-of_z w64 v c.ranges.value) at c.in_ok-answer.ensures.answer in
    let ranges = c.put.ensures ∙ ap (λ r. set bx depth r) (c.single.ensures ∙ ap single (to_z-of_z w64 v c.ranges.value)) in
    subst (λ rs. IsRightLegality P (depth + 1) rs c.in_ok-answer.field-0) ranges
    (subst (λ n. IsRightLegality P n c.put.new.bx c.in_ok-answer.field-0) long right)

pub returns-clause-moved : goal.returns-clause-moved
returns-clause-moved c =
    let back = put_back c.args.search.now.bx c.put.new.bx c.put.new.bx c.put-2.new.bx c.args.here.depth c.single.result c.range-before.result
    c.put.ensures refl c.put-2.ensures c.range-before.ensures in
    let went = rw (to_z-of_z w64 c.args.value c.ranges.value) at c.legal-answer.ensures.went_on in
    moved_asked c.args.here.game.now c.args.entry c.args.value c.args.search.now (record { bx = c.put-2.new.bx; journal = c.legal-answer.new.journal })
    c.requires.place.value.lawful back c.legal-answer.ensures.limit c.legal-answer.ensures.lawful went
