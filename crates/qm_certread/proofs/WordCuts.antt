-- The first word of a line, and those behind it.
use Rattle.std.proofs.Common.{◌≡◌, ℕ, ◌+◌, Bool, true, false, List, [], ◌∷◌, length, take, drop, get_or, refl, sym, ap, ap₂, ◌∙◌, arith, Option, None, Some, Err}
use Rattle.std.specs.Prelude.{◌==◌}
use Rattle.std.specs.Option.{unwrap_or}
use Rattle.std.specs.List.{slice_split, onto_first}
use Rattle.std.proofs.lemmas.List.{take_all, drop_all, drop_more}
use Rattle.std.proofs.lemmas.List.Splits.{slice_split-cons_yes, slice_split-cons_no}
use Rattle.memchr.specs.Find.{is_byte, IsFirstByte}
use Rattle.qm_certfile.specs.Lines.{Line}
use Rattle.qm_certread.specs.Pieces.{words_of}
use Rattle.qm_model.specs.declared.game.Problem.{Problem}
use Rattle.qm_certread.specs.Spelling.{Said, one, value_word, count_word, with_both}
use Rattle.qm_certread.specs.declared.fault.Misread.TheVariants as rule
use Rattle.qm_certread.specs.Nodes.{Split}
use Rattle.qm_certread.specs.Forms.{is_line, position_said, range_of, range_said, split_said}
use Rattle.qm_certread.specs.WordSteps.{words_behind}
use Rattle.qm_certread.proofs.Cuts.{split_there, split_nowhere}

pub word_cut : (line : List ℕ) (found : Option ℕ) (at : ℕ) (front back : List ℕ) → IsFirstByte (is_byte 32) line found → at ≡ unwrap_or found (length line)
    → front ≡ take at line → back ≡ drop at line → words_of line ≡ front ∷ words_behind back
word_cut line None at front back first is e f =
    let whole : take at line ≡ line = take_all at line (omega arith) in
    let none : drop at line ≡ [] = drop_all at line (omega arith) in
    split_nowhere 32 line first ∙ ap₂ (λ (w : List ℕ) (r : List ℕ). w ∷ words_behind r) (sym whole ∙ sym e) (sym none ∙ sym f)
word_cut line (Some k) at front back first is e f =
    let high = first.0.high in
    let there : drop k line ≡ get_or line k 0 ∷ drop (k + 1) line = drop_more line k 0 high in
    let parts : words_of line ≡ take k line ∷ words_behind (drop k line) = split_there 32 line k first ∙ ap (λ (r : List ℕ). take k line ∷ words_behind r) (sym there) in
    parts ∙ ap₂ (λ (w : List ℕ) (r : List ℕ). w ∷ words_behind r) (sym (e ∙ ap (λ n. take n line) is)) (sym (f ∙ ap (λ n. drop n line) is))

-- there is a piece, and others
pub some_piece : (test : ℕ → Bool) (bytes : List ℕ) → (x : List ℕ) × (xs : List (List ℕ)) × (slice_split test bytes ≡ x ∷ xs)
some_piece test [] = ([], [], refl)
some_piece test (b ∷ bytes) =
    let rest = some_piece test bytes in
    elim (test b) as (λ t. test b ≡ t → (x : List ℕ) × (xs : List (List ℕ)) × (slice_split test (b ∷ bytes) ≡ x ∷ xs)) [
      | true ↦ λ e. ([], slice_split test bytes, slice_split-cons_yes test b bytes e)
      | false ↦ λ e. (b ∷ rest.0, rest.1, slice_split-cons_no test b bytes e ∙ ap (onto_first b) rest.2)
    ] refl

pub none_behind : (rest : List ℕ) → is_line [] (words_behind rest) ≡ (length rest == 0)
none_behind [] = refl
none_behind (b ∷ line) =
    let piece = some_piece (is_byte 32) line in
    ap (is_line []) piece.2 ∙ grind arith

-- ---- the last word

ends : (rest : List ℕ) → (length rest == 0) ≡ true → rest ≡ []
ends [] e = refl
ends (b ∷ rest) e = absurd (grind arith)

goes_on : (rest : List ℕ) → (length rest == 0) ≡ false → (x : List ℕ) × (xs : Line) × (words_behind rest ≡ x ∷ xs)
goes_on [] e = absurd (grind arith)
goes_on (b ∷ line) e = some_piece (is_byte 32) line

pub one_end : {A : Type 0} (f : List ℕ → Said A) (word rest : List ℕ) → (length rest == 0) ≡ true → one f (word ∷ words_behind rest) ≡ f word
one_end f word rest e = ap (λ r. one f (word ∷ words_behind r)) (ends rest e)

pub one_more : {A : Type 0} (f : List ℕ → Said A) (word rest : List ℕ) → (length rest == 0) ≡ false → one f (word ∷ words_behind rest) ≡ Err rule.Text
one_more f word rest e = let more = goes_on rest e in ap (λ ws. one f (word ∷ ws)) more.2

pub range_end : (low high rest : List ℕ) → (length rest == 0) ≡ true → range_said (low ∷ high ∷ words_behind rest) ≡ with_both range_of (value_word low) (value_word high)
range_end low high rest e = ap (λ r. range_said (low ∷ high ∷ words_behind r)) (ends rest e)

pub range_more : (low high rest : List ℕ) → (length rest == 0) ≡ false → range_said (low ∷ high ∷ words_behind rest) ≡ Err rule.Text
range_more low high rest e = let more = goes_on rest e in ap (λ ws. range_said (low ∷ high ∷ ws)) more.2

pub split_end : (P : Problem) (least : ℕ) (var count rest : List ℕ) → (length rest == 0) ≡ true
    → split_said P least (var ∷ count ∷ words_behind rest) ≡ with_both Split (position_said P least var) (count_word count)
split_end P least var count rest e = ap (λ r. split_said P least (var ∷ count ∷ words_behind r)) (ends rest e)

pub split_more : (P : Problem) (least : ℕ) (var count rest : List ℕ) → (length rest == 0) ≡ false → split_said P least (var ∷ count ∷ words_behind rest) ≡ Err rule.Text
split_more P least var count rest e = let more = goes_on rest e in ap (λ ws. split_said P least (var ∷ count ∷ ws)) more.2
