use Rattle.std.proofs.Common.{◌≡◌, ℕ, ◌<◌, List, ◌∷◌, take, sym, ap, subst, ◌∙◌}
use Rattle.qm_lex.specs.declared.token.Kind.TheVariants.{Number}
use Rattle.qm_lex.specs.Marks.{mark_at}
use Rattle.qm_lex.specs.Names.{kind_of_name}
use Rattle.qm_lex.specs.Reading.{number_at}
use Rattle.qm_lex.specs.Texts.{IsLongest}
use Rattle.qm_lex.proofs.Longest.{longest_name, longest_number, longest_other}
use Rattle.qm_lex.proofs.MarkFronts.{Longest}
use Rattle.qm_lex.proofs.lexer.longest.Goals as goal

pub returns-in-Some : goal.returns-in-Some
returns-in-Some c =
    let text = c.args.text.now in
    let byte = c.in-Some.byte.now in
    let rest = c.in-Some.rest.now in
    let kind = c.name.result.kind in
    let n = c.name.result.len in
    let e : text ≡ byte ∷ rest = c.in-Some.ensures.cases.0 in
    let P : List ℕ → Type 0 = λ t. (0 < n) × IsLongest t kind n in
    let named : kind ≡ kind_of_name (take n (byte ∷ rest)) = c.name.ensures.kind ∙ ap (λ (t : List ℕ). kind_of_name (take n t)) e in
    subst P (sym e) (longest_name byte rest kind n (sym c.begins_name.ensures ∙ c.if-begins_name.true) c.name.ensures.len named)

pub returns-in-Some-number_bytes : goal.returns-in-Some-number_bytes
returns-in-Some-number_bytes c =
    let text = c.args.text.now in
    let byte = c.in-Some.byte.now in
    let rest = c.in-Some.rest.now in
    let n = c.in-Some-number_bytes.len in
    let e : text ≡ byte ∷ rest = c.in-Some.ensures.cases.0 in
    let P : List ℕ → Type 0 = λ t. (0 < n) × IsLongest t Number n in
    subst P (sym e) (longest_number byte rest n (sym c.begins_name.ensures ∙ c.if-begins_name.false) (c.in-Some-number_bytes.ensures.value ∙ ap number_at e))

pub returns-in-None-number_bytes : goal.returns-in-None-number_bytes
returns-in-None-number_bytes c =
    let text = c.args.text.now in
    let byte = c.in-Some.byte.now in
    let rest = c.in-Some.rest.now in
    let e : text ≡ byte ∷ rest = c.in-Some.ensures.cases.0 in
    let P : List ℕ → Type 0 = λ t. Longest t c.mark.result in
    subst P (sym e) (longest_other byte rest c.mark.result (sym c.begins_name.ensures ∙ c.if-begins_name.false) (c.in-None-number_bytes.ensures.value ∙ ap number_at e) (c.mark.ensures ∙ ap mark_at e))
