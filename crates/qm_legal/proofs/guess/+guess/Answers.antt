use Rattle.std.proofs.Common.{◌≡◌, ◌∙◌, true, false, ap, sym, length, arith}
use Rattle.std.proofs.lemmas.List.{length-drop}
use Rattle.qm_model.specs.declared.variable.Player.TheVariants.{Exists, All as Universal}
use Rattle.qm_model.proofs.Players.{exists_of}
use Rattle.qm_legal.proofs.OpenBoxes.{open_behind, open_behind_value}
use Rattle.qm_legal.proofs.Places.{completed_at_end, completed_behind, completed_behind_value, sets_next, some_next}
use Rattle.qm_legal.proofs.guess.+guess.Goals as goal

pub guess-returns-in-None-clause-guessed : goal.guess-returns-in-None-clause-guessed
guess-returns-in-None-clause-guessed t c =
    λ yes. completed_at_end c.args.here.game.now c.args.here.depth c.args.bx.now c.args.here.rest.now c.args.here.from_depth c.in-None.ensures.cases c.requires.alive

pub guess-returns-in-None-clause-restricted : goal.guess-returns-in-None-clause-restricted
guess-returns-in-None-clause-restricted t c = λ no. absurd (let e : true ≡ false = no in cc)

pub guess-guess-requires : goal.guess-guess-requires
guess-guess-requires t c =
    let other = sets_next Exists c.args.here.rest.now c.in-Some.var.now c.in-Some._later.now c.in-Some.ensures.cases.0 (exists_of c.in-Some.var.now (sym c.is_for_all.ensures ∙ c.if-is_for_all.false)) in (
      omega (arith, some_next Exists c.args.here.rest.now other, ap length c.behind.ensures.rest, length-drop 1 c.args.here.rest.now),
      rw (c.behind.ensures.game, c.behind.ensures.depth) (open_behind c.args.here.game.now c.args.here.depth c.args.bx.now c.args.here.rest.now c.args.here.from_depth other c.requires),
    )

pub guess-returns-else-is_for_all-clause-guessed : goal.guess-returns-else-is_for_all-clause-guessed
guess-returns-else-is_for_all-clause-guessed t c =
    λ yes. let done = rw (c.behind.ensures.game, c.behind.ensures.depth) at (c.guess.ensures.guessed yes) in
    completed_behind c.args.here.game.now c.args.here.depth c.args.bx.now c.guess.new.bx done

pub guess-returns-else-is_for_all-clause-restricted : goal.guess-returns-else-is_for_all-clause-restricted
guess-returns-else-is_for_all-clause-restricted t c = λ no. rw c.behind.ensures.game at (c.guess.ensures.restricted no)

pub guess_value-put-requires-clause-bx : goal.guess_value-put-requires-clause-bx
guess_value-put-requires-clause-bx t c = rw c.first_alive.ensures.same c.requires.bx.alive.box

pub guess_value-guess-requires : goal.guess_value-guess-requires
guess_value-guess-requires t c =
    let alive = c.in-Some.ensures.first in
    let some = some_next Universal c.args.here.rest.now c.requires.player in (
      omega (arith, some, ap length c.behind.ensures.rest, length-drop 1 c.args.here.rest.now),
      rw (c.put.ensures, c.first_alive.ensures.same, c.behind.ensures.game, c.behind.ensures.depth)
          (open_behind_value c.args.here.game.now c.args.here.depth c.args.bx.now c.args.here.rest.now c.args.here.from_depth c.requires.player c.in-Some.run' alive.one alive.alive c.requires.bx),
    )

pub guess_value-returns-in-None-clause-guessed : goal.guess_value-returns-in-None-clause-guessed
guess_value-returns-in-None-clause-guessed t c = λ yes. absurd (let e : false ≡ true = yes in cc)

pub guess_value-returns-in-None-clause-restricted : goal.guess_value-returns-in-None-clause-restricted
guess_value-returns-in-None-clause-restricted t c = λ no. c.in-None.ensures.first

pub guess_value-returns-in-Some-clause-guessed : goal.guess_value-returns-in-Some-clause-guessed
guess_value-returns-in-Some-clause-guessed t c =
    λ yes. let done = rw (c.behind.ensures.game, c.behind.ensures.depth, c.put.ensures, c.first_alive.ensures.same) at (c.guess.ensures.guessed yes) in
    completed_behind_value c.args.here.game.now c.args.here.depth c.args.bx.now c.in-Some.run' c.guess.new.bx done

pub guess_value-returns-in-Some-clause-restricted : goal.guess_value-returns-in-Some-clause-restricted
guess_value-returns-in-Some-clause-restricted t c = λ no. rw c.behind.ensures.game at (c.guess.ensures.restricted no)
