-- Each text has tokens or a bad byte, and its tokens stand in order.
use Rattle.std.proofs.Common.{◌≡◌, ℕ, zero, suc, ◌+◌, ◌-◌, ◌<◌, ◌≤◌, Bool, true, false, not, cond, ◌⊎◌, List, [], ◌∷◌, length, length-drop, get_or, take, drop, eqb, Option, Some, None, refl, sym, subst, arith, inl, inr}
use Rattle.std.specs.List.{prefix_len}
use Rattle.std.proofs.lemmas.List.{drop_more}
use Rattle.qm_lex.specs.declared.token.Found.{Found}
use Rattle.qm_lex.specs.declared.token.Kind.TheVariants.{Number}
use Rattle.qm_lex.specs.declared.token.Token.{Token}
use Rattle.qm_lex.specs.Bytes.{begins_name, continues_name, is_blank}
use Rattle.qm_lex.specs.Marks.{found, mark_at}
use Rattle.qm_lex.specs.Names.{kind_of_name}
use Rattle.qm_lex.specs.Reading.{number_at}
use Rattle.qm_lex.specs.Texts.{skipped, behind_blanks, IsLongest, IsTokenOf, Reaches, AreTokens, BeginsNothing, IsFirstBad, AreInOrder}
use Rattle.qm_lex.proofs.Blanks.{reached_stop, no_comment}
use Rattle.qm_lex.proofs.Longest.{longest_name, longest_number, longest_other}
use Rattle.qm_lex.proofs.MarkFronts.{Longest, nothing_spelled}
use Rattle.qm_lex.proofs.Reached.{compared}

few : (t u : Bool) (a b n : ℕ) → a ≤ n → b ≤ n → cond t (1 + a) (cond u (1 + b) 0) ≤ suc n
few true u a b n p q = omega arith
few false true a b n p q = omega arith
few false false a b n p q = omega arith

skipped_within : (is_inside : Bool) (text : List ℕ) → skipped is_inside text ≤ length text
skipped_within true [] = omega arith
skipped_within false [] = omega arith
skipped_within true (byte ∷ text) = let rest = skipped_within (not (eqb byte 10)) text in omega arith
skipped_within false (byte ∷ text) = few (is_blank byte) (eqb byte 92) (skipped false text) (skipped true text) (length text) (skipped_within false text) (skipped_within true text)

behind_later : (text : List ℕ) (from : ℕ) → from ≤ behind_blanks text from
unfolding behind_blanks
behind_later text from = omega arith

behind_within : (text : List ℕ) (from : ℕ) → from ≤ length text → behind_blanks text from ≤ length text
unfolding behind_blanks
behind_within text from h =
    let within : skipped false (drop from text) ≤ length text - from = rw length-drop at (skipped_within false (drop from text)) in
    omega arith

-- the longest token at the front, or that there is none
by_number : (byte : ℕ) (rest : List ℕ) (n : Option ℕ) → begins_name byte ≡ false → number_at (byte ∷ rest) ≡ n → (r : Option Found) × Longest (byte ∷ rest) r
by_number byte rest (Some n) e is = (Some (found Number n), longest_number byte rest n e (sym is))
by_number byte rest None e is = (mark_at (byte ∷ rest), longest_other byte rest (mark_at (byte ∷ rest)) e (sym is) refl)

by_first : (byte : ℕ) (rest : List ℕ) (t : Bool) → begins_name byte ≡ t → (r : Option Found) × Longest (byte ∷ rest) r
by_first byte rest true e =
    let n = 1 + prefix_len continues_name rest in
    (Some (found (kind_of_name (take n (byte ∷ rest))) n), longest_name byte rest (kind_of_name (take n (byte ∷ rest))) n e refl refl)
by_first byte rest false e = by_number byte rest (number_at (byte ∷ rest)) e refl

longest_at : (text : List ℕ) (at : ℕ) → at < length text → (r : Option Found) × Longest (drop at text) r
longest_at text at h =
    let P : List ℕ → Type 0 = λ t. (r : Option Found) × Longest t r in
    subst P (sym (drop_more text at 0 h)) (by_first (get_or text at 0) (drop (at + 1) text) (begins_name (get_or text at 0)) refl)

-- tokens lead to the end of the text, or to a byte that begins nothing
abbrev Outcome : List ℕ → ℕ → Type 0
Outcome text from = ((tokens : List Token) × Reaches text from tokens (length text)) ⊎ ((at : ℕ) × (tokens : List Token) × Reaches text from tokens at × BeginsNothing text at)

abbrev token_of : Found → ℕ → Token
token_of mark at = record { kind = mark.kind; start = at; end = at + mark.len }

is_token : (text : List ℕ) (at : ℕ) (mark : Found) → IsLongest (drop at text) mark.kind mark.len → IsTokenOf text (token_of mark at)
is_token text at mark is =
    let same : mark.len ≡ at + mark.len - at = omega arith in
    let P : ℕ → Type 0 = λ n. IsLongest (drop at text) mark.kind n in
    record { ordered = omega arith; longest = subst P same is }

with_token : (text : List ℕ) (from : ℕ) (token : Token) → token.start ≡ behind_blanks text from → IsTokenOf text token → Outcome text token.end → Outcome text from
with_token text from token start of (inl rest) = inl (token ∷ rest.0, (start, of, rest.1))
with_token text from token start of (inr bad) = inr (bad.0, token ∷ bad.1, (start, of, bad.2), bad.3)

nothing_there : (text : List ℕ) (from : ℕ) → behind_blanks text from < length text → Longest (drop (behind_blanks text from) text) None → Outcome text from
nothing_there text from h none =
    let stop = reached_stop text from [] (behind_blanks text from) refl h in
    inr (behind_blanks text from, [], refl, record { inside = h; no_blank = stop.no_blank; no_comment = no_comment _ stop; no_token = none })

-- one step, given the outcome behind each token
step : (text : List ℕ) (from : ℕ) (r : Option Found) → behind_blanks text from < length text → Longest (drop (behind_blanks text from) text) r
    → ((to : ℕ) → behind_blanks text from < to → to ≤ length text → Outcome text to) → Outcome text from
step text from None h is behind = nothing_there text from h is
step text from (Some mark) h is behind =
    let at = behind_blanks text from in
    let some = is.0 in
    let inside : mark.len ≤ length text - at = rw length-drop at is.1.inside in
    with_token text from (token_of mark at) refl (is_token text at mark is.1) (behind (at + mark.len) (omega arith) (omega arith))

by_place : (text : List ℕ) (from : ℕ) → from ≤ length text → (behind_blanks text from < length text) ⊎ (length text < behind_blanks text from) ⊎ (behind_blanks text from ≡ length text)
    → ((to : ℕ) → behind_blanks text from < length text → behind_blanks text from < to → to ≤ length text → Outcome text to) → Outcome text from
by_place text from k (inl h) behind =
    let front = longest_at text (behind_blanks text from) h in
    step text from front.0 h front.1 (λ to before within. behind to h before within)
by_place text from k (inr (inl h)) behind = let within = behind_within text from k in absurd (omega arith)
by_place text from k (inr (inr e)) behind = inl ([], e)

outcome : (fuel : ℕ) (text : List ℕ) (from : ℕ) → from ≤ length text → length text ≤ from + fuel → Outcome text from
outcome zero text from h k =
    by_place text from h (compared (behind_blanks text from) (length text)) (λ to inside before within. let later = behind_later text from in absurd (omega arith))
outcome (suc fuel) text from h k =
    by_place text from h (compared (behind_blanks text from) (length text)) (λ to inside before within. let later = behind_later text from in outcome fuel text to within (omega arith))

whole : (text : List ℕ) → Outcome text 0 → ((tokens : List Token) × AreTokens text tokens) ⊎ ((at : ℕ) × IsFirstBad text at)
whole text (inl is) = inl is
whole text (inr bad) = inr (bad.0, (bad.1, bad.2, bad.3))

pub one_of_both : (text : List ℕ) → ((tokens : List Token) × AreTokens text tokens) ⊎ ((at : ℕ) × IsFirstBad text at)
one_of_both text = whole text (outcome (length text) text 0 (omega arith) (omega arith))

some_bytes : (text : List ℕ) (token : Token) → IsTokenOf text token → (n : ℕ) → token.end - token.start ≡ n → token.start < token.end
some_bytes text token is zero e =
    let P : ℕ → Type 0 = λ n. IsLongest (drop token.start text) token.kind n in
    let none = subst P e is.longest in
    absurd (nothing_spelled token.kind none.spelled)
some_bytes text token is (suc n) e = omega arith

in_order_from : (text : List ℕ) (from : ℕ) (tokens : List Token) (to : ℕ) → Reaches text from tokens to → AreInOrder from tokens to
in_order_from text from [] to is = let later = behind_later text from in omega arith
in_order_from text from (token ∷ tokens) to is =
    let later = behind_later text from in
    let start = is.0 in
    (omega arith, some_bytes text token is.1 (token.end - token.start) refl, in_order_from text token.end tokens to is.2)

pub in_order : (text : List ℕ) (tokens : List Token) → AreTokens text tokens → AreInOrder 0 tokens (length text)
in_order text tokens is = in_order_from text 0 tokens (length text) is
