-- Names and their numbers in the list of all names of a text.
use Rattle.std.proofs.Common.{◌≡◌, ℕ, zero, suc, Bool, true, false, cond, List, [], ◌∷◌, eqb, Some, refl, ap, sym, ◌∙◌, inl, inr}
use Rattle.std.specs.Prelude.{slice_get}
use Rattle.std.specs.Str.{bytes_eq}
use Rattle.std.proofs.lemmas.Bool.{cases_Bool, false≢true}
use Rattle.std.proofs.lemmas.Bool.Decides.{Decides-eqb}
use Rattle.std.proofs.lemmas.Slice.Eq.{bytes_eq-Decides}
use Rattle.qm_lex.specs.declared.token.Kind.TheVariants as kind
use Rattle.qm_lex.specs.declared.token.Token.{Token}
use Rattle.qm_parse.specs.Symbols.{bytes_of, names_behind, with_token}
use Rattle.qm_parse.proofs.SymbolNames.{get-names_behind, with_token-has}

-- the place of the first of the names that is this one
abbrev pub number_of : List (List ℕ) → List ℕ → ℕ
number_of [] name = 0
number_of (other ∷ names) name = cond (bytes_eq name other) 0 (suc (number_of names name))

-- the name stands there
abbrev pub Held : List (List ℕ) → List ℕ → Type 0
Held names name = slice_get names (number_of names name) ≡ Some name

same_bytes : (name : List ℕ) → bytes_eq name name ≡ true
same_bytes name = (bytes_eq-Decides name name).1 refl

some_is : (x y : List ℕ) → Some x ≡ Some y → x ≡ y
some_is x y e = cc

found_here : (other : List ℕ) (names : List (List ℕ)) (name : List ℕ) (b : Bool) → bytes_eq name other ≡ b → (b ≡ false → Held names name) → slice_get (other ∷ names) (cond b 0 (suc (number_of names name))) ≡ Some name
found_here other names name true e held = ap (λ (x : List ℕ). Some x) (sym ((bytes_eq-Decides name other).0 e))
found_here other names name false e held = held refl

other_place : (other : List ℕ) (names : List (List ℕ)) (name : List ℕ) (n : ℕ) → slice_get (other ∷ names) n ≡ Some name → bytes_eq name other ≡ false → (k : ℕ) × (slice_get names k ≡ Some name)
other_place other names name zero at e = absurd (false≢true (sym e ∙ ap (bytes_eq name) (some_is other name at) ∙ same_bytes name))
other_place other names name (suc n) at e = (n, at)

-- a name that stands somewhere is held
pub held_at : (names : List (List ℕ)) (name : List ℕ) (n : ℕ) → slice_get names n ≡ Some name → Held names name
held_at [] name n at = absurd cc
held_at (other ∷ names) name n at =
    found_here other names name (bytes_eq name other) refl (λ e. let behind = other_place other names name n at e in held_at names name behind.0 behind.1)

-- the names of tokens are all held
abbrev pub AreHeld : List ℕ → List (List ℕ) → List Token → Type 0
AreHeld text names [] = Unit {0}
AreHeld text names (token ∷ tokens) = (token.kind ≡ kind.Name → Held names (bytes_of text token)) × AreHeld text names tokens

pub are_held : (text : List ℕ) (before : List (List ℕ)) (tokens : List Token) → AreHeld text (names_behind text before tokens) tokens
unfolding names_behind
are_held text before [] = tt
are_held text before (token ∷ tokens) = (
  λ is. let has = with_token-has before token.kind (bytes_of text token) is in
      held_at _ (bytes_of text token) has.0 (get-names_behind text (with_token before token.kind (bytes_of text token)) tokens has.0 (bytes_of text token) has.1),
  are_held text (with_token before token.kind (bytes_of text token)) tokens,
)

-- numbers of held names are the same exactly where the names are
pub same_number : (names : List (List ℕ)) (one other : List ℕ) → Held names one → Held names other → number_of names one ≡ number_of names other → one ≡ other
same_number names one other held also same = some_is one other (sym held ∙ ap (slice_get names) same ∙ also)

pub number_test : (names : List (List ℕ)) (one other : List ℕ) → Held names one → Held names other → eqb (number_of names one) (number_of names other) ≡ bytes_eq one other
number_test names one other held also =
    elim (cases_Bool (bytes_eq one other)) [
      | inl is ↦ (Decides-eqb (number_of names one) (number_of names other)).1 (ap (number_of names) ((bytes_eq-Decides one other).0 is)) ∙ sym is
      | inr apart ↦
          elim (cases_Bool (eqb (number_of names one) (number_of names other))) [
            | inl equal ↦
                let same = same_number names one other held also ((Decides-eqb (number_of names one) (number_of names other)).0 equal) in
                absurd (false≢true (sym apart ∙ (bytes_eq-Decides one other).1 same))
            | inr none ↦ none ∙ sym apart
          ]
    ]

same_turned : (one other : List ℕ) → bytes_eq one other ≡ bytes_eq other one
same_turned one other =
    elim (cases_Bool (bytes_eq one other)) [
      | inl is ↦ is ∙ sym ((bytes_eq-Decides other one).1 (sym ((bytes_eq-Decides one other).0 is)))
      | inr apart ↦
          elim (cases_Bool (bytes_eq other one)) [
            | inl is ↦ absurd (false≢true (sym apart ∙ (bytes_eq-Decides one other).1 (sym ((bytes_eq-Decides other one).0 is))))
            | inr also ↦ apart ∙ sym also
          ]
    ]

pub number_test_turned : (names : List (List ℕ)) (one other : List ℕ) → Held names one → Held names other → eqb (number_of names one) (number_of names other) ≡ bytes_eq other one
number_test_turned names one other held also = number_test names one other held also ∙ same_turned one other
