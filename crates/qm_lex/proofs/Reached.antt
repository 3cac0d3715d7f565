-- Tokens one behind the other.
use Rattle.std.proofs.Common.{◌≡◌, ℕ, zero, suc, ◌-◌, ◌<◌, ◌⊎◌, List, [], ◌∷◌, ◌++◌, length, take, drop, refl, sym, ap, subst, ◌∙◌, arith, inl, inr}
use Rattle.std.proofs.lemmas.List.{drop_all}
use Rattle.qm_lex.specs.declared.token.Kind.{Kind}
use Rattle.qm_lex.specs.declared.token.Token.{Token}
use Rattle.qm_lex.specs.Spelling.{Spells}
use Rattle.qm_lex.specs.Texts.{behind_blanks, IsLongest, IsTokenOf, Reaches, AreTokens, IsFirstBad}
use Rattle.qm_lex.proofs.Longest.{longest_of_nothing}
use Rattle.qm_lex.proofs.OneKind.{same_kind}

-- one token more
pub reaches_more : (text : List ℕ) (from : ℕ) (tokens : List Token) (at : ℕ) (token : Token) → Reaches text from tokens at → token.start ≡ at → IsTokenOf text token
    → Reaches text from (tokens ++ token ∷ []) (behind_blanks text token.end)
reaches_more text from [] at token is start of = (start ∙ sym is, of, refl)
reaches_more text from (first ∷ tokens) at token is start of = (is.0, is.1, reaches_more text first.end tokens at token is.2 start of)

-- no token begins at the place
abbrev Ends : List ℕ → ℕ → Type 0
Ends text at = (m : ℕ) (kind : Kind) → ¬ Spells kind (take m (drop at text))

end_ends : (text : List ℕ) → Ends text (length text)
end_ends text m kind spelled =
    let none : drop (length text) text ≡ [] = drop_all (length text) text (omega arith) in
    let P : List ℕ → Type 0 = λ rest. Spells kind (take m rest) in
    longest_of_nothing m kind (subst P none spelled)

no_token : (text : List ℕ) (at : ℕ) (token : Token) → Ends text at → token.start ≡ at → IsTokenOf text token → ⊥
no_token text at token ends start of =
    let P : ℕ → Type 0 = λ x. Spells token.kind (take (token.end - token.start) (drop x text)) in
    ends (token.end - token.start) token.kind (subst P start of.longest.spelled)

not_longer : (text : List ℕ) (one other : Kind) (n m : ℕ) → IsLongest text one n → IsLongest text other m → n < m → ⊥
not_longer text one other n m p q h = p.longest m other h q.inside q.spelled

pub compared : (n m : ℕ) → (n < m) ⊎ (m < n) ⊎ (n ≡ m)
compared zero zero = inr (inr refl)
compared zero (suc m) = inl (omega arith)
compared (suc n) zero = inr (inl (omega arith))
compared (suc n) (suc m) = elim (compared n m) [ inl h ↦ inl (omega arith) | inr h ↦ elim h [ inl k ↦ inr (inl (omega arith)) | inr e ↦ inr (inr (ap (λ (x : ℕ). suc x) e)) ] ]

same_length : (text : List ℕ) (one other : Kind) (n m : ℕ) → IsLongest text one n → IsLongest text other m → n ≡ m
same_length text one other n m p q = elim (compared n m) [
  | inl h ↦ absurd (not_longer text one other n m p q h)
  | inr h ↦ elim h [ inl k ↦ absurd (not_longer text other one m n q p k) | inr e ↦ e ]
]

same_token : (one other : Token) → one.kind ≡ other.kind → one.start ≡ other.start → one.end ≡ other.end → one ≡ other
same_token one other p q r = λ i. record { kind = p i; start = q i; end = r i }

-- one token begins at a place
one_token : (text : List ℕ) (one other : Token) → IsTokenOf text one → IsTokenOf text other → one.start ≡ other.start → one ≡ other
one_token text one other p q start =
    let P : ℕ → Type 0 = λ x. IsLongest (drop x text) other.kind (other.end - other.start) in
    let here : IsLongest (drop one.start text) other.kind (other.end - other.start) = subst P (sym start) q.longest in
    let long : one.end - one.start ≡ other.end - other.start = same_length (drop one.start text) one.kind other.kind (one.end - one.start) (other.end - other.start) p.longest here in
    let Q : ℕ → Type 0 = λ n. Spells other.kind (take n (drop one.start text)) in
    let word : Spells other.kind (take (one.end - one.start) (drop one.start text)) = subst Q (sym long) here.spelled in
    let ordered = p.ordered in
    let also = q.ordered in
    same_token one other (same_kind one.kind other.kind (take (one.end - one.start) (drop one.start text)) p.longest.spelled word) start (omega arith)

-- one list of tokens leads from a place to where no token begins
pub record IsSame (one other : List Token) (at to : ℕ) : Type 0 where
  pub tokens : one ≡ other
  pub place : at ≡ to

same_reach : (text : List ℕ) (from : ℕ) (one other : List Token) (at to : ℕ) → Reaches text from one at → Ends text at → Reaches text from other to → Ends text to → IsSame one other at to
same_reach text from [] [] at to p ends q also = record { tokens = refl; place = sym p ∙ q }
same_reach text from [] (token ∷ tokens) at to p ends q also = absurd (no_token text at token ends (q.0 ∙ p) q.1)
same_reach text from (token ∷ tokens) [] at to p ends q also = absurd (no_token text to token also (p.0 ∙ q) p.1)
same_reach text from (token ∷ tokens) (other ∷ others) at to p ends q also =
    let same : token ≡ other = one_token text token other p.1 q.1 (p.0 ∙ sym q.0) in
    let P : Token → Type 0 = λ t. Reaches text t.end others to in
    let rest = same_reach text token.end tokens others at to p.2 ends (subst P (sym same) q.2) also in
    record { tokens = ap (λ (t : Token). t ∷ tokens) same ∙ ap (λ (ts : List Token). other ∷ ts) rest.tokens; place = rest.place }

pub one_list : (text : List ℕ) (one other : List Token) → AreTokens text one → AreTokens text other → one ≡ other
one_list text one other p q = (same_reach text 0 one other (length text) (length text) p (end_ends text) q (end_ends text)).tokens

pub tokens_have_no_bad_byte : (text : List ℕ) (tokens : List Token) (at : ℕ) → AreTokens text tokens → IsFirstBad text at → ⊥
tokens_have_no_bad_byte text tokens at p bad =
    let nothing = bad.2 in
    let same = same_reach text 0 tokens bad.0 (length text) at p (end_ends text) bad.1 nothing.no_token in
    let place = same.place in
    let inside = nothing.inside in omega arith

pub one_bad : (text : List ℕ) (one other : ℕ) → IsFirstBad text one → IsFirstBad text other → one ≡ other
one_bad text one other p q = (same_reach text 0 p.0 q.0 one other p.1 p.2.no_token q.1 q.2.no_token).place
