use Rattle.std.proofs.Common.{◌≡◌, ℕ, ◌∷◌, [], List, ◌++◌, sym, subst, ◌∙◌, arith, rules}
use Rattle.std.proofs.lemmas.Grind.{common_steps}
use Rattle.qm_lex.specs.declared.token.Token.{Token}
use Rattle.qm_lex.specs.Texts.{Reaches}
use Rattle.qm_lex.proofs.Blanks.{reached_stop, no_comment}
use Rattle.qm_lex.proofs.Reached.{reaches_more}
use Rattle.qm_lex.proofs.lexer.tokens.Goals as goal

pub loop-at-preserved : goal.loop-at-preserved
loop-at-preserved c =
    let text = c.args.text.now in
    let token = c.in-Some.token in
    let pushed : c.push.new.self ≡ c.loop-at.found ++ token ∷ [] = first_of (search rules, grind (arith, common_steps)) in
    let P : List Token → Type 0 = λ ts. Reaches text 0 ts c.behind_blanks-at-in-Some.result in
    let Q : ℕ → Type 0 = λ at. Reaches text 0 (c.loop-at.found ++ token ∷ []) at in
    record {
      reached = subst P (sym pushed) (subst Q (sym c.behind_blanks-at-in-Some.ensures.value) (reaches_more text 0 c.loop-at.found c.loop-at.at token c.loop-at.invariant.reached c.in-Some.ensures.0 c.in-Some.ensures.3));
      inside = c.behind_blanks-at-in-Some.ensures.inside;
    }

pub returns-in-None-clause-bad : goal.returns-in-None-clause-bad
returns-in-None-clause-bad c =
    let text = c.args.text.now in
    let at = c.loop-at.at in
    let stop = reached_stop text 0 c.loop-at.found at c.loop-at.invariant.reached c.loop-at-test.true in
    λ place is.
    let same : place ≡ c.place_at.result = cc in
    (at, (c.loop-at.found, c.loop-at.invariant.reached, record { inside = c.loop-at-test.true; no_blank = stop.no_blank; no_comment = no_comment _ stop; no_token = c.in-None.ensures }), same ∙ c.place_at.ensures)
