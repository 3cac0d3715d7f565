-- One symbol more.
use Rattle.std.proofs.Common.{◌≡◌, ℕ, ◌+◌, ◌<◌, ◌≤◌, Bool, List, [], ◌∷◌, ◌++◌, length, length-take, take, drop, get_or, refl, sym, ap, subst, ◌∙◌, arith, Some}
use Rattle.std.specs.Prelude.{slice_get}
use Rattle.qm_lex.specs.declared.token.Token.{Token}
use Rattle.qm_lex.specs.declared.token.Kind.{Kind}
use Rattle.qm_lex.specs.declared.token.Kind.TheVariants as kind
use Rattle.qm_parse.specs.declared.word.Symbol.{Symbol}
use Rattle.qm_parse.specs.declared.word.Word.{Word}
use Rattle.std.proofs.lemmas.List.{at_drop_more, drop_all, drop_more}
use Rattle.qm_lex.specs.Texts.{AreInOrder}
use Rattle.qm_parse.specs.Symbols.{AreSymbols, IsSymbolOf, IsWordOf, bytes_of, names_behind, with_token}

-- the symbols so far, with those of the tokens from here on, are those of all tokens
abbrev pub Continues : List ℕ → List (List ℕ) → ℕ → List Token → List Symbol → List Token → Type 0
Continues text names line behind symbols tokens =
    (more : List Symbol) → AreSymbols text names line behind more → AreSymbols text names 0 tokens (symbols ++ more)

++-assoc-one : {A : Type 0} (xs : List A) (x : A) (ys : List A) → xs ++ x ∷ ys ≡ (xs ++ x ∷ []) ++ ys
++-assoc-one [] x ys = refl
++-assoc-one (y ∷ xs) x ys = ap (λ zs. y ∷ zs) (++-assoc-one xs x ys)

pub continues-more : (text : List ℕ) (names : List (List ℕ)) (line : ℕ) (token : Token) (behind : List Token) (symbols : List Symbol) (tokens : List Token) (symbol : Symbol)
    → Continues text names line (token ∷ behind) symbols tokens → IsSymbolOf text names line token behind symbol
    → Continues text names symbol.place.line behind (symbols ++ symbol ∷ []) tokens
continues-more text names line token behind symbols tokens symbol h is more are =
    subst (AreSymbols text names 0 tokens) (++-assoc-one symbols symbol more) (h (symbol ∷ more) (is, are))

-- a word stays right where names keep their numbers
pub word-kept : (names all : List (List ℕ)) (bytes : List ℕ) (labels : Bool) (of : Kind) (word : Word)
    → ((n : ℕ) (x : List ℕ) → slice_get names n ≡ Some x → slice_get all n ≡ Some x) → IsWordOf names bytes labels of word → IsWordOf all bytes labels of word
word-kept names all bytes labels kind.Name word h is = (is.0, h is.0 bytes is.1, is.2)
word-kept names all bytes labels kind.Number word h is = is
word-kept names all bytes labels kind.Plus word h is = is
word-kept names all bytes labels kind.Minus word h is = is
word-kept names all bytes labels kind.Less word h is = is
word-kept names all bytes labels kind.Greater word h is = is
word-kept names all bytes labels kind.Equal word h is = is
word-kept names all bytes labels kind.Colon word h is = is
word-kept names all bytes labels (kind.Keyword reserved) word h is = is
word-kept names all bytes labels kind.Infinite word h is = is

-- a token in order, and those behind it
pub record OrderedStep (at : ℕ) (token : Token) (behind : List Token) (to : ℕ) : Type 0 where
  pub begins : at ≤ token.start
  pub takes : token.start < token.end
  pub ends : token.end ≤ to
  pub ordered : AreInOrder token.end behind to

ordered-ends : (from : ℕ) (tokens : List Token) (to : ℕ) → AreInOrder from tokens to → from ≤ to
ordered-ends from [] to is = is
ordered-ends from (token ∷ tokens) to is =
    let rest : token.end ≤ to = ordered-ends token.end tokens to is.2 in
    let begins : from ≤ token.start = is.0 in
    let takes : token.start < token.end = is.1 in
    omega arith

pub ordered-step : (tokens : List Token) (i at to : ℕ) (d : Token) → i < length tokens → AreInOrder at (drop i tokens) to
    → OrderedStep at (get_or tokens i d) (drop (i + 1) tokens) to
ordered-step tokens i at to d inside are =
    let is = subst (λ ts. AreInOrder at ts to) (drop_more tokens i d inside) are in
    record { begins = is.0; takes = is.1; ends = ordered-ends _ _ to is.2; ordered = is.2 }

pub named-step : (text : List ℕ) (names new all : List (List ℕ)) (tokens : List Token) (i : ℕ) (d : Token) → i < length tokens
    → names_behind text names (drop i tokens) ≡ all → new ≡ with_token names (get_or tokens i d).kind (bytes_of text (get_or tokens i d))
    → names_behind text new (drop (i + 1) tokens) ≡ all
unfolding names_behind
named-step text names new all tokens i d inside is same =
    ap (λ ns. names_behind text ns (drop (i + 1) tokens)) same ∙ sym (at_drop_more (names_behind text names) tokens i d inside) ∙ is

pub spelled-step : (text : List ℕ) (names : List (List ℕ)) (line : ℕ) (symbols new : List Symbol) (tokens : List Token) (i : ℕ) (d : Token) (symbol : Symbol)
    → i < length tokens → Continues text names line (drop i tokens) symbols tokens → IsSymbolOf text names line (get_or tokens i d) (drop (i + 1) tokens) symbol
    → new ≡ symbols ++ symbol ∷ [] → Continues text names symbol.place.line (drop (i + 1) tokens) new tokens
spelled-step text names line symbols new tokens i d symbol inside h is same =
    let here : Continues text names line (get_or tokens i d ∷ drop (i + 1) tokens) symbols tokens =
    subst (λ ts. Continues text names line ts symbols tokens) (drop_more tokens i d inside) h in
    let more : Continues text names symbol.place.line (drop (i + 1) tokens) (symbols ++ symbol ∷ []) tokens =
    continues-more text names line (get_or tokens i d) (drop (i + 1) tokens) symbols tokens symbol here is in
    subst (λ xs. Continues text names symbol.place.line (drop (i + 1) tokens) xs tokens) (sym same) more

++-nothing : {A : Type 0} (xs : List A) → xs ++ [] ≡ xs
++-nothing [] = refl
++-nothing (x ∷ xs) = ap (λ ys. x ∷ ys) (++-nothing xs)

pub spelled-all : (text : List ℕ) (names : List (List ℕ)) (line : ℕ) (symbols : List Symbol) (tokens : List Token) (i : ℕ)
    → length tokens ≤ i → Continues text names line (drop i tokens) symbols tokens → AreSymbols text names 0 tokens symbols
spelled-all text names line symbols tokens i all h =
    let here = subst (λ ts. Continues text names line ts symbols tokens) (drop_all i tokens all) h in
    subst (AreSymbols text names 0 tokens) (++-nothing symbols) (here [] tt)

pub named-all : (text : List ℕ) (names all : List (List ℕ)) (tokens : List Token) (i : ℕ) → length tokens ≤ i → names_behind text names (drop i tokens) ≡ all → names ≡ all
unfolding names_behind
named-all text names all tokens i past is = ap (names_behind text names) (sym (drop_all i tokens past)) ∙ is

pub few-bytes : (n : ℕ) (xs : List ℕ) → length (take n xs) ≤ n
few-bytes n xs = omega (arith, length-take {A = ℕ} n xs)
