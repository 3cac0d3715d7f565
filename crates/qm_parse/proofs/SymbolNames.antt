-- Names keep their numbers while more are put behind them.
use Rattle.std.proofs.Common.{◌≡◌, ℕ, suc, Bool, true, false, List, [], ◌∷◌, ◌++◌, length, get_or, length-append, refl, sym, ap, subst, ◌∙◌, arith, cond, Some}
use Rattle.std.specs.Prelude.{slice_get}
use Rattle.std.specs.Str.{bytes_eq}
use Rattle.std.proofs.Math.ListN.{get_or-append}
use Rattle.std.proofs.lemmas.Option.{get_or_from_slice_get, slice_get-get_or, slice_get_within}
use Rattle.std.proofs.lemmas.Slice.Eq.{bytes_eq-Decides}
use Rattle.qm_lex.specs.declared.token.Token.{Token}
use Rattle.qm_lex.specs.declared.token.Kind.{Kind}
use Rattle.qm_lex.specs.declared.token.Kind.TheVariants as kind
use Rattle.qm_parse.specs.NameTables.{stands_in}
use Rattle.qm_parse.specs.Symbols.{bytes_of, names_behind, with_name, with_token}

get-++ : {A : Type 0} (xs ys : List A) (n : ℕ) (x : A) → slice_get xs n ≡ Some x → slice_get (xs ++ ys) n ≡ Some x
get-++ xs ys n x h =
    let inside = slice_get_within xs n x h in
    let there : get_or (xs ++ ys) n x ≡ x = get_or-append xs ys x n inside ∙ get_or_from_slice_get xs n x x h in
    slice_get-get_or (xs ++ ys) n x (omega (arith, inside, length-append xs ys)) ∙ ap (λ y. Some y) there

get-with_name : (names : List (List ℕ)) (name : List ℕ) (n : ℕ) (x : List ℕ) → slice_get names n ≡ Some x → slice_get (with_name names name) n ≡ Some x
get-with_name names name n x h =
    elim (stands_in names name) as (λ b. slice_get (cond b names (names ++ name ∷ [])) n ≡ Some x) [ true ↦ h | false ↦ get-++ names (name ∷ []) n x h ]

get-with_token : (names : List (List ℕ)) (of : Kind) (bytes : List ℕ) (n : ℕ) (x : List ℕ) → slice_get names n ≡ Some x → slice_get (with_token names of bytes) n ≡ Some x
unfolding with_token
get-with_token names kind.Name bytes n x h = get-with_name names bytes n x h
get-with_token names of bytes n x h = h

-- the names of all tokens begin with those of some
pub get-names_behind : (text : List ℕ) (names : List (List ℕ)) (tokens : List Token) (n : ℕ) (x : List ℕ) → slice_get names n ≡ Some x → slice_get (names_behind text names tokens) n ≡ Some x
unfolding names_behind
get-names_behind text names [] n x h = h
get-names_behind text names (token ∷ tokens) n x h =
    get-names_behind text (with_token names token.kind (bytes_of text token)) tokens n x (get-with_token names token.kind (bytes_of text token) n x h)

-- a name has a number
abbrev pub IsNumbered : List (List ℕ) → List ℕ → Type 0
IsNumbered names name = (n : ℕ) × (slice_get names n ≡ Some name)

first_or_behind : (other : List ℕ) (names : List (List ℕ)) (name : List ℕ) (b : Bool) → bytes_eq name other ≡ b → (b ≡ false → IsNumbered names name) → IsNumbered (other ∷ names) name
first_or_behind other names name true e behind = (0, ap (λ (x : List ℕ). Some x) (sym ((bytes_eq-Decides name other).0 e)))
first_or_behind other names name false e behind = let there = behind refl in (suc there.0, there.1)

standing : (names : List (List ℕ)) (name : List ℕ) → stands_in names name ≡ true → IsNumbered names name
standing [] name there = absurd cc
standing (other ∷ names) name there =
    first_or_behind other names name (bytes_eq name other) refl (λ e. standing names name (let rest : stands_in names name ≡ true = rw e at there in rest))

pushed : (names : List (List ℕ)) (name : List ℕ) → slice_get (names ++ name ∷ []) (length names) ≡ Some name
pushed [] name = refl
pushed (other ∷ names) name = pushed names name

with_name-has : (names : List (List ℕ)) (name : List ℕ) (b : Bool) → stands_in names name ≡ b → IsNumbered (cond b names (names ++ name ∷ [])) name
with_name-has names name true e = standing names name e
with_name-has names name false e = (length names, pushed names name)

-- the name of a token has a number
pub with_token-has : (names : List (List ℕ)) (of : Kind) (bytes : List ℕ) → of ≡ kind.Name → IsNumbered (with_token names of bytes) bytes
unfolding with_token
with_token-has names of bytes is =
    let P : Kind → Type 0 = λ k. IsNumbered (with_token names k bytes) bytes in
    subst P (sym is) (with_name-has names bytes (stands_in names bytes) refl)
