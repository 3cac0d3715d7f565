-- The text whose lines say a certificate is the certificate's text.
use Rattle.std.proofs.Common.{◌≡◌, ℕ, ◌<◌, ◌^◌, true, false, List, [], ◌∷◌, ◌++◌, append_assoc, length, map, refl, sym, ap, ap₂, ◌∙◌, arith}
use Rattle.std.specs.Prelude.{codes}
use Rattle.std.specs.List.{slice_split, onto_first}
use Rattle.std.proofs.lemmas.Bool.Decides.{nat_tests}
use Rattle.std.proofs.lemmas.List.{map-append}
use Rattle.std.proofs.lemmas.List.Splits.{slice_split-cons_yes, slice_split-cons_no}
use Rattle.memchr.specs.Find.{is_byte}
use Rattle.qm_model.specs.declared.game.Problem.{Problem}
use Rattle.qm_model.specs.Plays.{whole_vars}
use Rattle.qm_text.specs.Numbers.{number_word}
use Rattle.qm_certfile.specs.declared.certificate.Certificate.{Certificate}
use Rattle.qm_certfile.specs.declared.certificate.Certificate.TheVariants as ending
use Rattle.qm_certfile.specs.Lines.{Line, line_text, text_of}
use Rattle.qm_certfile.specs.Styles.{first_style}
use Rattle.qm_certfile.specs.CertificateLines.{alone, certificate_lines, certificate_text, claimed, legal_line, version_line}
use Rattle.qm_certread.specs.Pieces.{lines_of, words_of}
use Rattle.qm_certread.specs.Nodes.{Node, Fixed, Infeasible, Legal, NoPlay, Optimal}
use Rattle.qm_certread.specs.Dues.{Due, Claimed, after, end_line, illegal_line, policy_line, refute_line}
use Rattle.qm_certread.specs.NodesOf.{empty_nodes, nodes_of, policy_nodes, refute_nodes}
use Rattle.qm_certread.specs.Reading.{AreSaid}
use Rattle.qm_certread.specs.Fits.{AreFit, Fits, line_of}
use Rattle.qm_certread.proofs.WordCuts.{some_piece}
use Rattle.qm_certread.proofs.LinesFit.{node_told}
use Rattle.qm_certread.proofs.TreeNodes.{empty_same, policy_same, refute_same}

-- pieces with a mark between two
abbrev pub joined : ℕ → List (List ℕ) → List ℕ
joined mark [] = []
joined mark (piece ∷ []) = piece
joined mark (piece ∷ next ∷ pieces) = piece ++ mark ∷ joined mark (next ∷ pieces)

with_first : (mark b : ℕ) (x : List ℕ) (xs : List (List ℕ)) → joined mark ((b ∷ x) ∷ xs) ≡ b ∷ joined mark (x ∷ xs)
with_first mark b x [] = refl
with_first mark b x (y ∷ ys) = refl

pub joined_again : (mark : ℕ) (bytes : List ℕ) → joined mark (slice_split (is_byte mark) bytes) ≡ bytes
joined_again mark [] = refl
joined_again mark (b ∷ bytes) =
    let more = some_piece (is_byte mark) bytes in
    let rest : joined mark (more.0 ∷ more.1) ≡ bytes = ap (joined mark) (sym more.2) ∙ joined_again mark bytes in
    elim (is_byte mark b) as (λ t. is_byte mark b ≡ t → joined mark (slice_split (is_byte mark) (b ∷ bytes)) ≡ b ∷ bytes) [
      | true ↦ λ e.
          let same : mark ≡ b = grind (arith, nat_tests) in
          ap (joined mark) (slice_split-cons_yes (is_byte mark) b bytes e ∙ ap (λ ls. [] ∷ ls) more.2) ∙ ap₂ (λ (m : ℕ) (t : List ℕ). m ∷ t) same rest
      | false ↦ λ e.
          ap (joined mark) (slice_split-cons_no (is_byte mark) b bytes e ∙ ap (onto_first b) more.2) ∙ with_first mark b more.0 more.1 ∙ ap (λ t. b ∷ t) rest
    ] refl

-- a line is its words with a space between two, and LF
pub line_joined : (words : Line) → line_text words ≡ joined 32 words ++ 10 ∷ []
line_joined [] = refl
line_joined (word ∷ []) = refl
line_joined (word ∷ next ∷ words) = ap (λ t. word ++ 32 ∷ t) (line_joined (next ∷ words)) ∙ sym (append_assoc word (32 ∷ joined 32 (next ∷ words)) (10 ∷ []))

line_again : (line : List ℕ) → line_text (words_of line) ≡ line ++ 10 ∷ []
line_again line = line_joined (words_of line) ∙ ap (λ t. t ++ 10 ∷ []) (joined_again 32 line)

module _ (P : Problem) (few : length (whole_vars P) < 2 ^ 32) where
  said_text : (dues : List Due) (nodes : List Node) (lines : List (List ℕ)) → AreSaid first_style P dues nodes lines → joined 10 lines ≡ text_of (map line_of nodes)
  said_text dues nodes [] h = absurd h
  said_text [] [] (rest ∷ []) h = h
  said_text [] [] (line ∷ next ∷ lines) h = absurd h
  said_text [] (node ∷ nodes) (line ∷ lines) h = absurd h
  said_text (d ∷ dues) [] (line ∷ lines) h = absurd h
  said_text (d ∷ dues) (node ∷ nodes) (line ∷ []) h = absurd h
  said_text (d ∷ dues) (node ∷ nodes) (line ∷ next ∷ lines) (says, rest) =
      let told = node_told P few d (words_of line) node says in
      sym (append_assoc line (10 ∷ []) (joined 10 (next ∷ lines)))
      ∙ ap₂ (λ (l : List ℕ) (t : List ℕ). l ++ t) (sym (line_again line) ∙ ap line_text told.0) (said_text (after first_style d node ++ dues) nodes (next ∷ lines) rest)

  pub said_fit : (dues : List Due) (nodes : List Node) (lines : List (List ℕ)) → AreSaid first_style P dues nodes lines → AreFit P dues nodes
  said_fit dues nodes [] h = absurd h
  said_fit [] [] (rest ∷ []) h = tt
  said_fit [] [] (line ∷ next ∷ lines) h = absurd h
  said_fit [] (node ∷ nodes) (line ∷ lines) h = absurd h
  said_fit (d ∷ dues) [] (line ∷ lines) h = absurd h
  said_fit (d ∷ dues) (node ∷ nodes) (line ∷ []) h = absurd h
  said_fit (d ∷ dues) (node ∷ nodes) (line ∷ next ∷ lines) (says, rest) =
      ((node_told P few d (words_of line) node says).1, said_fit (after first_style d node ++ dues) nodes (next ∷ lines) rest)

-- ---- the lines of a certificate

pub lines_same : (P : Problem) (c : Certificate) → certificate_lines first_style P c ≡ map line_of (nodes_of first_style P c)
lines_same P (ending.Optimal value legal policy refute) =
    let first = Optimal (claimed P.sense value) ∷ Fixed (version_line first_style) ∷ Legal legal ∷ Fixed policy_line ∷ policy_nodes policy in
    let last = Fixed refute_line ∷ refute_nodes refute in
    ap₂ (λ (ps : List Line) (rs : List Line). ((codes "optimal" ∷ number_word (claimed P.sense value) ∷ []) ∷ version_line first_style ∷ legal_line first_style legal
    ∷ alone (codes "policy") ∷ ps ++ alone (codes "refute") ∷ rs) ++ alone (codes "end") ∷ []) (policy_same policy 0) (refute_same refute 0)
    ∙ ap (λ ls. ls ++ alone (codes "end") ∷ []) (sym (map-append line_of first last))
    ∙ sym (map-append line_of (first ++ last) (Fixed end_line ∷ []))
lines_same P (ending.Infeasible legal refute) =
    let all = Infeasible ∷ Fixed (version_line first_style) ∷ Legal legal ∷ Fixed refute_line ∷ refute_nodes refute in
    ap (λ (rs : List Line). (alone (codes "infeasible") ∷ version_line first_style ∷ legal_line first_style legal ∷ alone (codes "refute") ∷ rs) ++ alone (codes "end") ∷ []) (refute_same refute 0)
    ∙ sym (map-append line_of all (Fixed end_line ∷ []))
lines_same P (ending.Empty tree) =
    let all = NoPlay ∷ Fixed (version_line first_style) ∷ Fixed illegal_line ∷ empty_nodes tree in
    ap (λ (ls : List Line). (alone (codes "empty") ∷ version_line first_style ∷ (codes "illegal" ∷ []) ∷ ls) ++ alone (codes "end") ∷ []) (empty_same tree 0)
    ∙ sym (map-append line_of all (Fixed end_line ∷ []))

pub text_same : (P : Problem) (c : Certificate) → certificate_text P c ≡ text_of (map line_of (nodes_of first_style P c))
unfolding certificate_text
text_same P c = ap text_of (lines_same P c)

-- the text whose lines say the certificate's nodes is its text
pub whole_text : (P : Problem) → length (whole_vars P) < 2 ^ 32 → (text : List ℕ) (c : Certificate) → AreSaid first_style P (Claimed ∷ []) (nodes_of first_style P c) (lines_of text) → certificate_text P c ≡ text
whole_text P few text c h = text_same P c ∙ sym (said_text P few (Claimed ∷ []) (nodes_of first_style P c) (lines_of text) h) ∙ joined_again 10 text

pub whole_fits : (P : Problem) → length (whole_vars P) < 2 ^ 32 → (text : List ℕ) (c : Certificate) → AreSaid first_style P (Claimed ∷ []) (nodes_of first_style P c) (lines_of text) → Fits P c
whole_fits P few text c h = said_fit P few (Claimed ∷ []) (nodes_of first_style P c) (lines_of text) h
