-- Each word of a small text is a token.
use Rattle.std.proofs.Common.{◌≡◌, ℕ, Bool, true, false, List, [], ◌∷◌, refl, ap, sym, subst, ◌∙◌, inl, inr, ℤ}
use Rattle.std.specs.Prelude.{codes}
use Rattle.qm_lex.specs.declared.token.Keyword.TheVariants as keyword
use Rattle.qm_small.specs.Written.{Word, Written, WrittenRow, WrittenTerm}
use Rattle.qm_small.specs.Grammar.{Each, Factor, Literal, Name, Names, NewLine, Number, OptionalNames, Right, Row, Rows, Sign, SmallText, Term, Terms, UncertainRows}
use Rattle.qm_small.specs.Spelling.{is_identifier, is_name}
use Rattle.qm_small.proofs.PieceTokens.{AreTokenWords}
use Rattle.qm_small.proofs.WordTokens.{IsTokenWord, heading_token, kind_of-all, kind_of-binaries, kind_of-end, kind_of-exists, kind_of-maximize, kind_of-order, kind_of-subject, kind_of-to, kind_of-uncertainty, minus_token, most_token, name_token, number_token, plus_token}

-- the words of a part are tokens where those behind it are
abbrev Tokens : List Word → List Word → Type 0
Tokens ws rest = AreTokenWords rest → AreTokenWords ws

same_words : (ws rest : List Word) → ws ≡ rest → Tokens ws rest
same_words ws rest same behind = subst AreTokenWords (sym same) behind

literal : (spelling : List ℕ) → IsTokenWord spelling → (ws rest : List Word) → Literal spelling ws rest → Tokens ws rest
literal spelling token [] rest p behind = absurd p
literal spelling token (w ∷ ws) rest p behind = (subst IsTokenWord (sym p.0) token, same_words ws rest p.1 behind)

name : (spelling : List ℕ) (ws rest : List Word) → Name spelling ws rest → Tokens ws rest
name spelling [] rest p behind = absurd p
name spelling (w ∷ ws) rest p behind = (name_token w.bytes (ap is_name p.0 ∙ p.1), same_words ws rest p.2 behind)

number : (n : ℕ) (ws rest : List Word) → Number n ws rest → Tokens ws rest
number n [] rest p behind = absurd p
number n (w ∷ ws) rest p behind = (number_token w.bytes p.0.0, same_words ws rest p.1 behind)

new_line : (ws rest : List Word) → NewLine ws rest → Tokens ws rest
new_line [] rest p behind = absurd p
new_line (w ∷ ws) rest p behind = same_words (w ∷ ws) rest p.1 behind

sign : (is_first negative : Bool) (ws rest : List Word) → Sign is_first negative ws rest → Tokens ws rest
sign is_first true ws rest p = literal (codes "-") minus_token ws rest p
sign true false ws rest (inl p) = literal (codes "+") plus_token ws rest p
sign true false ws rest (inr none) = same_words ws rest none
sign false false ws rest p = literal (codes "+") plus_token ws rest p

factor : (n : ℕ) (ws rest : List Word) → Factor n ws rest → Tokens ws rest
factor n ws rest (inl p) = number n ws rest p
factor n ws rest (inr none) = same_words ws rest none.1

term : (is_first : Bool) (written : WrittenTerm) (ws rest : List Word) → Term is_first written ws rest → Tokens ws rest
term is_first written ws rest p behind =
    sign is_first written.negative ws p.0 p.1 (factor written.factor p.0 p.2.0 p.2.1 (name written.name p.2.0 rest p.2.2 behind))

each : {A : Type 0} (Item : A → List Word → List Word → Type 0) → ((x : A) (ws rest : List Word) → Item x ws rest → Tokens ws rest) → (xs : List A) (ws rest : List Word) → Each Item xs ws rest → Tokens ws rest
each Item item [] ws rest p behind = same_words ws rest p behind
each Item item (x ∷ xs) ws rest p behind = item x ws p.0 p.1 (each Item item xs p.0 rest p.2 behind)

terms : (written : List WrittenTerm) (ws rest : List Word) → Terms written ws rest → Tokens ws rest
terms [] ws rest p behind = same_words ws rest p behind
terms (first ∷ written) ws rest p behind = term true first ws p.0 p.1 (each (Term false) (term false) written p.0 rest p.2 behind)

right : (value : ℤ) (ws rest : List Word) → Right value ws rest → Tokens ws rest
right value ws rest (n, inl p) behind = number n ws rest p.1 behind
right value ws rest (n, inr p) behind = literal (codes "-") minus_token ws p.1.0 p.1.1 (number n p.1.0 rest p.1.2 behind)

row : (written : WrittenRow) (ws rest : List Word) → Row written ws rest → Tokens ws rest
row written ws rest p behind =
    terms written.terms ws p.1.0 p.1.1
    (literal (codes "<=") most_token p.1.0 p.1.2.0 p.1.2.1 (right written.right p.1.2.0 p.1.2.2.0 p.1.2.2.1 (new_line p.1.2.2.0 rest p.1.2.2.2 behind)))

names : (heading : List ℕ) → IsTokenWord heading → (written : List (List ℕ)) (ws rest : List Word) → Names heading written ws rest → Tokens ws rest
names heading token written ws rest p behind = literal heading token ws p.0 p.1 (each Name name written p.0 rest p.2 behind)

optional_names : (heading : List ℕ) → IsTokenWord heading → (written : List (List ℕ)) (ws rest : List Word) → OptionalNames heading written ws rest → Tokens ws rest
optional_names heading token written ws rest (inl p) = names heading token written ws rest p
optional_names heading token written ws rest (inr none) = same_words ws rest none.1

maximize : IsTokenWord (codes "MAXIMIZE")
unfolding is_identifier
maximize = heading_token (codes "MAXIMIZE") keyword.Maximize refl kind_of-maximize

subject : IsTokenWord (codes "SUBJECT")
unfolding is_identifier
subject = heading_token (codes "SUBJECT") keyword.Subject refl kind_of-subject

to : IsTokenWord (codes "TO")
unfolding is_identifier
to = heading_token (codes "TO") keyword.To refl kind_of-to

binaries : IsTokenWord (codes "BINARIES")
unfolding is_identifier
binaries = heading_token (codes "BINARIES") keyword.Binaries refl kind_of-binaries

exists : IsTokenWord (codes "EXISTS")
unfolding is_identifier
exists = heading_token (codes "EXISTS") keyword.Exists refl kind_of-exists

all : IsTokenWord (codes "ALL")
unfolding is_identifier
all = heading_token (codes "ALL") keyword.All refl kind_of-all

order : IsTokenWord (codes "ORDER")
unfolding is_identifier
order = heading_token (codes "ORDER") keyword.Order refl kind_of-order

end : IsTokenWord (codes "END")
unfolding is_identifier
end = heading_token (codes "END") keyword.End refl kind_of-end

uncertainty : IsTokenWord (codes "UNCERTAINTY")
unfolding is_identifier
uncertainty = heading_token (codes "UNCERTAINTY") keyword.Uncertainty refl kind_of-uncertainty

rows : (written : List WrittenRow) (ws rest : List Word) → Rows written ws rest → Tokens ws rest
rows written ws rest p behind =
    literal (codes "SUBJECT") subject ws p.0 p.1 (literal (codes "TO") to p.0 p.2.0 p.2.1 (each Row row written p.2.0 rest p.2.2 behind))

uncertain_rows : (written : List WrittenRow) (ws rest : List Word) → UncertainRows written ws rest → Tokens ws rest
uncertain_rows written ws rest (inl p) behind = literal (codes "UNCERTAINTY") uncertainty ws p.0 p.1 (rows written p.0 rest p.2 behind)
uncertain_rows written ws rest (inr none) behind = same_words ws rest none.1 behind

-- the words of a small text are tokens
pub spelled_tokens : (written : Written) (ws : List Word) → SmallText written ws [] → AreTokenWords ws
spelled_tokens written ws p =
    let uncertain = p.2.2 in
    let lists = uncertain.2 in
    literal (codes "MAXIMIZE") maximize ws p.1.0 p.1.1
    (terms written.objective p.1.0 p.0 p.1.2
    (rows written.rows p.0 p.2.0 p.2.1
    (uncertain_rows written.uncertain p.2.0 uncertain.0 uncertain.1
    (names (codes "BINARIES") binaries written.binaries uncertain.0 lists.0 lists.1
    (optional_names (codes "EXISTS") exists written.exists lists.0 lists.2.0 lists.2.1
    (optional_names (codes "ALL") all written.universal lists.2.0 lists.2.2.0 lists.2.2.1
    (names (codes "ORDER") order written.order lists.2.2.0 lists.2.2.2.0 lists.2.2.2.1
    (literal (codes "END") end lists.2.2.2.0 [] lists.2.2.2.2 tt))))))))
