use Rattle.std.proofs.Common.{rules, ◌≡◌, ◌+◌, ◌<◌, ◌≤◌, ◌-◌, ℕ, not, List, [], ◌∷◌, ◌++◌, take, drop, length, get_or, nat_eq, refl, Some, ap, sym, subst, ◌∙◌, arith}
use Rattle.std.specs.Prelude.{slice_get}
use Rattle.std.proofs.lemmas.List.{take_rest}
use Rattle.std.proofs.lemmas.Grind.{common_steps}
use Rattle.qm_lex.specs.Places.{column_behind, line_behind}
use Rattle.qm_lex.specs.declared.token.Token.{Token}
use Rattle.qm_lex.specs.declared.token.Kind.TheVariants as kind
use Rattle.qm_parse.specs.declared.word.Symbol.{Symbol}
use Rattle.qm_parse.specs.Symbols.{IsWordOf, bytes_of, is_before_colon, names_of}
use Rattle.qm_parse.proofs.SymbolPlaces.{column-through, line-through}
use Rattle.qm_parse.proofs.SymbolNames.{get-names_behind}
use Rattle.qm_parse.proofs.SymbolSteps.{named-all, few-bytes, named-step, ordered-step, spelled-all, spelled-step, word-kept}
use Rattle.qm_parse.proofs.symbols.symbols.Goals as goal

abbrev no_token : Token
no_token = record { kind = kind.Name; start = 0; end = 0 }

pub slice_bounds-bytes-end : goal.slice_bounds-bytes-end
slice_bounds-bytes-end c =
    let step = ordered-step c.args.tokens.now c.loop-i.i c.loop-i.behind.at (length c.args.text.now) no_token c.loop-i-test.true c.loop-i.invariant.ordered in
    let ends : (get_or c.args.tokens.now c.loop-i.i no_token).end ≤ length c.args.text.now = step.ends in
    search (rules, ends)

pub loop-i-preserved : goal.loop-i-preserved
loop-i-preserved c =
    let text = c.args.text.now in
    let tokens = c.args.tokens.now in
    let i = c.loop-i.i in
    let token = get_or tokens i no_token in
    let behind = drop (i + 1) tokens in
    let all = names_of text tokens in
    let step = ordered-step tokens i c.loop-i.behind.at (length text) no_token c.loop-i-test.true c.loop-i.invariant.ordered in
    let place = c.place_behind-place.result in
    let symbol : Symbol = record { word = c.in_ok-word.word; place = place; begins_line = not (nat_eq place.line c.loop-i.behind.line) } in
    let begins : c.loop-i.behind.at ≤ token.start = step.begins in
    let takes : token.start < token.end = step.takes in
    let ends : token.end ≤ length text = step.ends in
    let line : place.line ≡ line_behind 1 (take token.start text) =
    c.place_behind-place.ensures.line ∙ ap (λ n. line_behind n (take (token.start - c.loop-i.behind.at) (drop c.loop-i.behind.at text))) c.loop-i.invariant.line ∙ sym (line-through c.loop-i.behind.at token.start text begins) in
    let column : place.column ≡ column_behind 1 (take token.start text) =
    c.place_behind-place.ensures.column ∙ ap (λ n. column_behind n (take (token.start - c.loop-i.behind.at) (drop c.loop-i.behind.at text))) c.loop-i.invariant.column ∙ sym (column-through c.loop-i.behind.at token.start text begins) in
    let starts : token.start ≤ token.end = omega arith in
    let named = named-step text c.loop-i.names c.word.new.names all tokens i no_token c.loop-i-test.true c.loop-i.invariant.named c.in_ok-word.ensures.names in
    let kept : (n : ℕ) (x : List ℕ) → slice_get c.word.new.names n ≡ Some x → slice_get all n ≡ Some x =
    λ n x is. subst (λ (ns : List (List ℕ)). slice_get ns n ≡ Some x) named (get-names_behind text c.word.new.names behind n x is) in
    let said = word-kept c.word.new.names all (bytes_of text token) c.is_before_colon-labels.result token.kind c.in_ok-word.word kept c.in_ok-word.ensures.word in
    let labels : c.is_before_colon-labels.result ≡ is_before_colon behind = c.is_before_colon-labels.ensures ∙ ap is_before_colon (take_rest tokens (i + 1)) in
    let word : IsWordOf all (bytes_of text token) (is_before_colon behind) token.kind c.in_ok-word.word =
    subst (λ b. IsWordOf all (bytes_of text token) b token.kind c.in_ok-word.word) labels said in
    let counted : i ≤ c.loop-i.behind.at = c.loop-i.invariant.counted in
    let few : length c.loop-i.names ≤ i = c.loop-i.invariant.few in
    let fewer : length c.word.new.names ≤ length c.loop-i.names + 1 = c.in_ok-word.ensures.few in
    let gap = few-bytes (token.start - c.loop-i.behind.at) (drop c.loop-i.behind.at text) in
    let taken = few-bytes (token.end - token.start) (drop token.start text) in
    let lines : c.loop-i.behind.place.line ≤ 1 + c.loop-i.behind.at = c.loop-i.invariant.few_lines in
    let columns : c.loop-i.behind.place.column ≤ 1 + c.loop-i.behind.at = c.loop-i.invariant.few_columns in
    let gap_lines : place.line ≤ c.loop-i.behind.place.line + length (take (token.start - c.loop-i.behind.at) (drop c.loop-i.behind.at text)) = c.place_behind-place.ensures.few_lines in
    let gap_columns : place.column ≤ c.loop-i.behind.place.column + length (take (token.start - c.loop-i.behind.at) (drop c.loop-i.behind.at text)) = c.place_behind-place.ensures.few_columns in
    let end_lines : c.place_behind.result.line ≤ place.line + length (take (token.end - token.start) (drop token.start text)) = c.place_behind.ensures.few_lines in
    let end_columns : c.place_behind.result.column ≤ place.column + length (take (token.end - token.start) (drop token.start text)) = c.place_behind.ensures.few_columns in
    let pushed : c.push.new.self ≡ c.loop-i.symbols ++ symbol ∷ [] = first_of (search rules, grind (arith, common_steps)) in
    record {
      inside = ends;
      counted = omega arith;
      few = omega arith;
      line = c.place_behind.ensures.line ∙ ap (λ n. line_behind n (bytes_of text token)) line ∙ sym (line-through token.start token.end text starts);
      column = c.place_behind.ensures.column ∙ ap (λ n. column_behind n (bytes_of text token)) column ∙ sym (column-through token.start token.end text starts);
      few_lines = omega arith;
      few_columns = omega arith;
      ordered = step.ordered;
      named = named;
      spelled = spelled-step text all c.loop-i.behind.line c.loop-i.symbols c.push.new.self tokens i no_token symbol c.loop-i-test.true c.loop-i.invariant.spelled
          (record { word = word; place = λ j. record { line = line j; column = column j }; line_begins = refl }) pushed;
    }

pub returns-clause-names : goal.returns-clause-names
returns-clause-names c = named-all c.args.text.now c.loop-i.names _ c.args.tokens.now c.loop-i.i c.loop-i-test.false c.loop-i.invariant.named

pub returns-clause-symbols : goal.returns-clause-symbols
returns-clause-symbols c = spelled-all c.args.text.now _ _ c.loop-i.symbols c.args.tokens.now c.loop-i.i c.loop-i-test.false c.loop-i.invariant.spelled

pub returns-clause-end : goal.returns-clause-end
returns-clause-end c =
    let text = c.args.text.now in
    let at = c.loop-i.behind.at in
    let rest = take (length text - at) (drop at text) in
    let inside : at ≤ length text = c.loop-i.invariant.inside in
    let line = c.place_behind-end.ensures.line ∙ ap (λ n. line_behind n rest) c.loop-i.invariant.line ∙ sym (line-through at (length text) text inside) in
    let column = c.place_behind-end.ensures.column ∙ ap (λ n. column_behind n rest) c.loop-i.invariant.column ∙ sym (column-through at (length text) text inside) in
    λ j. record { line = line j; column = column j }
