-- The whole text is that of the draws.
use Rattle.std.proofs.Common.{◌≡◌, ℕ, ◌+◌, ◌/◌, ◌≤◌, List, [], ◌∷◌, ◌++◌, length, map, ap, sym, subst, ◌∙◌}
use Rattle.std.specs.Prelude.{codes}
use Rattle.qm_small.specs.Lines.{lines_text, row_words, rows_heading, terms_words, uncertain_lines}
use Rattle.qm_small.specs.Small.{IsSmallText}
use Rattle.qm_small.proofs.WrittenLines.{written_small}
use Rattle.qm_gen.specs.Draws.{draw, from_place, state_behind}
use Rattle.qm_gen.specs.Generated.{drawn_rows, existential_variables, generated, generated_problem, generated_text, objective_terms, rows_of, sum_terms, universal_variables, variables, written_term}
use Rattle.qm_gen.specs.WritingSteps.{lists_of}
use Rattle.qm_gen.proofs.Appended.{text_wrote}
use Rattle.qm_gen.proofs.Drawn.{draw_behind}
use Rattle.qm_gen.proofs.Short.{writable}

abbrev pub objective_text : ℕ → ℕ → List ℕ
objective_text state size = lines_text ((codes "MAXIMIZE" ∷ []) ∷ terms_words (map written_term (objective_terms (draw state) size)) ∷ [])

abbrev pub rows_part : (ℕ → ℕ) → ℕ → List ℕ
rows_part draws size = lines_text (rows_heading ∷ map row_words (drawn_rows draws size size))

abbrev pub uncertain_part : List ℕ → List ℕ
uncertain_part universal = lines_text (uncertain_lines (rows_of (sum_terms universal) ((length universal + 1) / 2)))

-- the parts, as they are written one behind the other
pub record WroteParts (number size first behind : ℕ) (nothing one two three new everyone existential universal : List ℕ) : Type 0 where
  pub from_nothing : nothing ≡ []
  pub from_number : first ≡ number
  pub objective : one ≡ nothing ++ objective_text first size
  pub drawn : behind ≡ state_behind first size
  pub rows : two ≡ one ++ rows_part (draw behind) size
  pub everyone_is : everyone ≡ variables size
  pub existential_is : existential ≡ existential_variables size
  pub universal_is : universal ≡ universal_variables size
  pub uncertain : three ≡ two ++ uncertain_part universal
  pub lists : new ≡ three ++ lines_text (lists_of everyone existential universal)

pub made : (number size first behind : ℕ) (nothing one two three new everyone existential universal : List ℕ) → WroteParts number size first behind nothing one two three new everyone existential universal → new ≡ generated_text number size
made number size first behind nothing one two three new everyone existential universal wrote =
    let draws : draw behind ≡ from_place size (draw number) = ap draw (wrote.drawn ∙ ap (λ s. state_behind s size) wrote.from_number) ∙ draw_behind number size in
    text_wrote one two three new (generated number size)
    (wrote.objective ∙ ap (λ (t : List ℕ). t ++ objective_text first size) wrote.from_nothing ∙ ap (λ s. objective_text s size) wrote.from_number)
    (wrote.rows ∙ ap (λ (d : ℕ → ℕ). one ++ rows_part d size) draws)
    (wrote.uncertain ∙ ap (λ (us : List ℕ). two ++ uncertain_part us) wrote.universal_is)
    (wrote.lists
    ∙ ap (λ (vs : List ℕ). three ++ lines_text (lists_of vs existential universal)) wrote.everyone_is
    ∙ ap (λ (vs : List ℕ). three ++ lines_text (lists_of (variables size) vs universal)) wrote.existential_is
    ∙ ap (λ (vs : List ℕ). three ++ lines_text (lists_of (variables size) (existential_variables size) vs)) wrote.universal_is)

pub made_small : (number size : ℕ) (text : List ℕ) → size ≤ 100 → text ≡ generated_text number size → IsSmallText text (generated_problem number size)
made_small number size text few is = subst (λ (t : List ℕ). IsSmallText t (generated_problem number size)) (sym is) (written_small (generated number size) (writable number size few))
