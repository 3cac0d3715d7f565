-- The longest token at the front of a text, by its first byte.
use Rattle.std.proofs.Common.{◌≡◌, ℕ, zero, suc, ◌+◌, ◌<◌, ◌≤◌, Bool, true, false, not, cond, ◌||◌, List, [], ◌∷◌, length, take, Option, Some, None, eqb, refl, sym, ap, subst, arith, inl, inr}
use Rattle.std.specs.Char.{is_ascii_digit}
use Rattle.std.specs.List.{list_all, prefix_len}
use Rattle.std.specs.Str.{str_eq_ignore_ascii_case}
use Rattle.std.proofs.lemmas.Bool.Decides.{nat_tests}
use Rattle.qm_math.proofs.Lists.{cons-first}
use Rattle.qm_lex.specs.declared.token.Found.{Found}
use Rattle.qm_lex.specs.declared.token.Kind.{Kind}
use Rattle.qm_lex.specs.declared.token.Kind.TheVariants.{Name, Number, Plus, Minus, Less, Greater, Equal, Colon, Keyword, Infinite}
use Rattle.qm_lex.specs.Bytes.{begins_name, continues_name}
use Rattle.qm_lex.specs.Marks.{mark_at}
use Rattle.qm_lex.specs.Names.{is_name, kind_among, kind_of_name, reserved}
use Rattle.qm_lex.specs.Reading.{number_at}
use Rattle.qm_lex.specs.Spelling.{IsNameOf, Spells}
use Rattle.qm_lex.specs.Texts.{IsLongest}
use Rattle.qm_lex.proofs.Fronts.{Never, IsLongestFront, LongestFront, front, one_more_front}
use Rattle.qm_lex.proofs.NumberWords.{is_number, number_of, taken}
use Rattle.qm_lex.proofs.NumberFronts.{number_front}
use Rattle.qm_lex.proofs.MarkFronts.{Longest, longest_mark, nothing_spelled}

-- the kinds that names have
abbrev pub IsOfName : Kind → Type 0
IsOfName Name = Unit {0}
IsOfName Number = ⊥
IsOfName Plus = ⊥
IsOfName Minus = ⊥
IsOfName Less = ⊥
IsOfName Greater = ⊥
IsOfName Equal = ⊥
IsOfName Colon = ⊥
IsOfName (Keyword keyword) = Unit {0}
IsOfName Infinite = Unit {0}

abbrev AreOfNames : List (List ℕ × Kind) → Type 0
AreOfNames [] = Unit {0}
AreOfNames (entry ∷ entries) = IsOfName entry.1 × AreOfNames entries

either_of : (t : Bool) (one other : Kind) → IsOfName one → IsOfName other → IsOfName (cond t one other)
either_of true one other p q = p
either_of false one other p q = q

among_of : (entries : List (List ℕ × Kind)) (word : List ℕ) → AreOfNames entries → IsOfName (kind_among entries word)
among_of [] word p = tt
among_of (entry ∷ entries) word p = either_of (str_eq_ignore_ascii_case word entry.0) entry.1 (kind_among entries word) p.0 (among_of entries word p.1)

reserved_of : AreOfNames reserved
unfolding reserved
reserved_of = (tt, (tt, (tt, (tt, (tt, (tt, (tt, (tt, (tt, (tt, (tt, (tt, (tt, (tt, (tt, (tt, (tt, (tt, (tt, (tt, tt))))))))))))))))))))

name_of : (word : List ℕ) → IsOfName (kind_of_name word)
unfolding kind_of_name
name_of word = among_of reserved word reserved_of

spelled_by : (kind : Kind) (word : List ℕ) → IsOfName kind → IsNameOf kind word → Spells kind word
spelled_by Name word p is = is
spelled_by Number word p is = absurd p
spelled_by Plus word p is = absurd p
spelled_by Minus word p is = absurd p
spelled_by Less word p is = absurd p
spelled_by Greater word p is = absurd p
spelled_by Equal word p is = absurd p
spelled_by Colon word p is = absurd p
spelled_by (Keyword keyword) word p is = is
spelled_by Infinite word p is = is

-- a name is spelled as its kind
pub name_spelled : (word : List ℕ) → is_name word ≡ true → Spells (kind_of_name word) word
name_spelled word is = spelled_by (kind_of_name word) word (name_of word) (is, refl)

-- a word that begins as a mark does, where a test says that its first byte begins none
not_mark : (test : ℕ → Bool) (t : Bool) (byte b : ℕ) (word rest : List ℕ) → test byte ≡ t → test b ≡ not t → byte ∷ word ≡ b ∷ rest → ⊥
not_mark test true byte b word rest is differs e = let same : test byte ≡ test b = ap test (cons-first byte b word rest e) in absurd cc
not_mark test false byte b word rest is differs e = let same : test byte ≡ test b = ap test (cons-first byte b word rest e) in absurd cc

no_digit : (byte : ℕ) → begins_name byte ≡ true → is_ascii_digit byte ≡ false
no_digit byte begins = grind (arith, nat_tests)

no_point : (byte : ℕ) → begins_name byte ≡ true → eqb byte 46 ≡ false
no_point byte begins = grind (arith, nat_tests)

no_number : (byte : ℕ) (word : List ℕ) → begins_name byte ≡ true → is_number (byte ∷ word) ≡ false
no_number byte word begins = rw (no_digit byte begins, no_point byte begins) refl

-- a token that begins as names do is a name
pub is_name_if : (kind : Kind) (byte : ℕ) (word : List ℕ) → begins_name byte ≡ true → Spells kind (byte ∷ word) → IsNameOf kind (byte ∷ word)
is_name_if Name byte word begins is = is
is_name_if Number byte word begins is = let no = no_number byte word begins in let yes = taken (byte ∷ word) is in absurd cc
is_name_if Plus byte word begins is = absurd (not_mark begins_name true byte 43 word [] begins refl is)
is_name_if Minus byte word begins is = absurd (not_mark begins_name true byte 45 word [] begins refl is)
is_name_if Less byte word begins (inl is) = absurd (not_mark begins_name true byte 60 word [] begins refl is)
is_name_if Less byte word begins (inr (inl is)) = absurd (not_mark begins_name true byte 60 word (61 ∷ []) begins refl is)
is_name_if Less byte word begins (inr (inr is)) = absurd (not_mark begins_name true byte 61 word (60 ∷ []) begins refl is)
is_name_if Greater byte word begins (inl is) = absurd (not_mark begins_name true byte 62 word [] begins refl is)
is_name_if Greater byte word begins (inr (inl is)) = absurd (not_mark begins_name true byte 62 word (61 ∷ []) begins refl is)
is_name_if Greater byte word begins (inr (inr is)) = absurd (not_mark begins_name true byte 61 word (62 ∷ []) begins refl is)
is_name_if Equal byte word begins is = absurd (not_mark begins_name true byte 61 word [] begins refl is)
is_name_if Colon byte word begins is = absurd (not_mark begins_name true byte 58 word [] begins refl is)
is_name_if (Keyword keyword) byte word begins is = is
is_name_if Infinite byte word begins is = is

-- whether a byte begins a number, where a point is taken for one
abbrev pub begins_number : ℕ → Bool
begins_number byte = is_ascii_digit byte || eqb byte 46

pub number_begins : (byte : ℕ) (word : List ℕ) → begins_number byte ≡ false → is_number (byte ∷ word) ≡ false
number_begins byte word none =
    let no_digit : is_ascii_digit byte ≡ false = grind (arith, nat_tests) in
    let no_point : eqb byte 46 ≡ false = grind (arith, nat_tests) in
    rw (no_digit, no_point) refl

begins_if : (byte : ℕ) (word : List ℕ) (t : Bool) → begins_number byte ≡ t → is_number (byte ∷ word) ≡ true → begins_number byte ≡ true
begins_if byte word true e is = e
begins_if byte word false e is = let no = number_begins byte word e in absurd cc

pub no_name : (byte : ℕ) (word : List ℕ) → begins_name byte ≡ false → is_name (byte ∷ word) ≡ false
no_name byte word none = rw none refl

-- a token is a number if some number begins as it does, and no name
pub is_number_if : (kind : Kind) (byte : ℕ) (word : List ℕ) → begins_name byte ≡ false → begins_number byte ≡ true → Spells kind (byte ∷ word) → (kind ≡ Number) × (is_number (byte ∷ word) ≡ true)
is_number_if Name byte word none begins is = let no = no_name byte word none in let yes = is.0 in absurd cc
is_number_if Number byte word none begins is = (refl, taken (byte ∷ word) is)
is_number_if Plus byte word none begins is = absurd (not_mark begins_number true byte 43 word [] begins refl is)
is_number_if Minus byte word none begins is = absurd (not_mark begins_number true byte 45 word [] begins refl is)
is_number_if Less byte word none begins (inl is) = absurd (not_mark begins_number true byte 60 word [] begins refl is)
is_number_if Less byte word none begins (inr (inl is)) = absurd (not_mark begins_number true byte 60 word (61 ∷ []) begins refl is)
is_number_if Less byte word none begins (inr (inr is)) = absurd (not_mark begins_number true byte 61 word (60 ∷ []) begins refl is)
is_number_if Greater byte word none begins (inl is) = absurd (not_mark begins_number true byte 62 word [] begins refl is)
is_number_if Greater byte word none begins (inr (inl is)) = absurd (not_mark begins_number true byte 62 word (61 ∷ []) begins refl is)
is_number_if Greater byte word none begins (inr (inr is)) = absurd (not_mark begins_number true byte 61 word (62 ∷ []) begins refl is)
is_number_if Equal byte word none begins is = absurd (not_mark begins_number true byte 61 word [] begins refl is)
is_number_if Colon byte word none begins is = absurd (not_mark begins_number true byte 58 word [] begins refl is)
is_number_if (Keyword keyword) byte word none begins is = let no = no_name byte word none in let yes = is.0 in absurd cc
is_number_if Infinite byte word none begins is = let no = no_name byte word none in let yes = is.0 in absurd cc

no_longer : (p : List ℕ → Bool) (byte : ℕ) (rest : List ℕ) (n : ℕ) → IsLongestFront p (byte ∷ rest) n
    → ((other : Kind) (word : List ℕ) → Spells other (byte ∷ word) → p (byte ∷ word) ≡ true)
    → (m : ℕ) (kind : Kind) → n < m → m ≤ length (byte ∷ rest) → Spells kind (take m (byte ∷ rest)) → ⊥
no_longer p byte rest n is only zero kind h k spelled = omega arith
no_longer p byte rest n is only (suc m) kind h k spelled =
    let yes = only kind (take m rest) spelled in
    let no = is.longest (suc m) h k in cc

-- tokens are as a test says, so that the longest front that passes is the longest token
by_test : (p : List ℕ → Bool) (byte : ℕ) (rest : List ℕ) (n : ℕ) (kind : Kind) → IsLongestFront p (byte ∷ rest) n → Spells kind (take n (byte ∷ rest))
    → ((other : Kind) (word : List ℕ) → Spells other (byte ∷ word) → p (byte ∷ word) ≡ true) → IsLongest (byte ∷ rest) kind n
by_test p byte rest n kind is spelled only = record { inside = is.inside; spelled = spelled; longest = no_longer p byte rest n is only }

-- the name at the front
pub longest_name : (byte : ℕ) (rest : List ℕ) (kind : Kind) (n : ℕ) → begins_name byte ≡ true → n ≡ 1 + prefix_len continues_name rest → kind ≡ kind_of_name (take n (byte ∷ rest))
    → (0 < n) × IsLongest (byte ∷ rest) kind n
longest_name byte rest kind n begins len named =
    let P : ℕ → Type 0 = λ k. IsLongestFront is_name (byte ∷ rest) k in
    let is : IsLongestFront is_name (byte ∷ rest) n = subst P (sym len) (one_more_front is_name (list_all continues_name) byte rest (prefix_len continues_name rest) (λ word. rw begins refl) (front continues_name rest)) in
    let Q : Kind → Type 0 = λ k. Spells k (take n (byte ∷ rest)) in
    (omega arith, by_test is_name byte rest n kind is (subst Q (sym named) (name_spelled (take n (byte ∷ rest)) is.passes)) (λ other word spelled. (is_name_if other byte word begins spelled).0))

number_by : (byte : ℕ) (rest : List ℕ) (n : ℕ) → begins_name byte ≡ false → IsLongestFront is_number (byte ∷ rest) n → (0 < n) × IsLongest (byte ∷ rest) Number n
number_by byte rest zero none is = let yes = is.passes in absurd cc
number_by byte rest (suc n) none is =
    let begins = begins_if byte (take n rest) (begins_number byte) refl is.passes in
    (omega arith, by_test is_number byte rest (suc n) Number is (number_of (take (suc n) (byte ∷ rest)) is.passes) (λ other word spelled. (is_number_if other byte word none begins spelled).1))

-- the number at the front
pub longest_number : (byte : ℕ) (rest : List ℕ) (n : ℕ) → begins_name byte ≡ false → Some n ≡ number_at (byte ∷ rest) → (0 < n) × IsLongest (byte ∷ rest) Number n
longest_number byte rest n none is =
    let P : Option ℕ → Type 0 = λ r. LongestFront is_number (byte ∷ rest) r in
    number_by byte rest n none (subst P (sym is) (number_front (byte ∷ rest)))

-- neither a name nor a number
pub longest_other : (byte : ℕ) (rest : List ℕ) (r : Option Found) → begins_name byte ≡ false → None ≡ number_at (byte ∷ rest) → r ≡ mark_at (byte ∷ rest) → Longest (byte ∷ rest) r
longest_other byte rest r none is marked =
    let P : Option ℕ → Type 0 = λ r. LongestFront is_number (byte ∷ rest) r in
    let never : Never is_number (byte ∷ rest) = subst P (sym is) (number_front (byte ∷ rest)) in
    let Q : Option Found → Type 0 = λ r. Longest (byte ∷ rest) r in
    subst Q (sym marked) (longest_mark byte rest (λ m. record { no_name = no_name byte (take m rest) none; no_number = never (suc m) }))

pub longest_of_nothing : (m : ℕ) (kind : Kind) → Spells kind (take m []) → ⊥
longest_of_nothing zero kind spelled = nothing_spelled kind spelled
longest_of_nothing (suc m) kind spelled = nothing_spelled kind spelled
