-- Relations, signs and colons at the front of a text.
use Rattle.std.proofs.Common.{◌≡◌, ℕ, zero, suc, ◌<◌, ◌≤◌, Bool, true, false, cond, List, [], ◌∷◌, length, take, slice_index, Option, Some, None, MatchOption, eqb, refl, sym, ap, subst, ◌∙◌, arith, inl, inr, eqb-true}
use Rattle.qm_math.proofs.Lists.{cons-first}
use Rattle.qm_lex.specs.declared.token.Found.{Found}
use Rattle.qm_lex.specs.declared.token.Kind.{Kind}
use Rattle.qm_lex.specs.declared.token.Kind.TheVariants.{Name, Number, Plus, Minus, Less, Greater, Equal, Colon, Keyword, Infinite}
use Rattle.qm_lex.specs.Marks.{found, relation_mark, equal_mark, mark_of, mark_at}
use Rattle.qm_lex.specs.Names.{is_name}
use Rattle.qm_lex.specs.Spelling.{Spells}
use Rattle.qm_lex.specs.Texts.{IsLongest}
use Rattle.qm_lex.proofs.NumberWords.{is_number, taken}

-- the word is neither a name nor a number
pub record IsOther (word : List ℕ) : Type 0 where
  pub no_name : is_name word ≡ false
  pub no_number : is_number word ≡ false

of_plus : (next : ℕ) → mark_of 43 next ≡ Some (found Plus 1)
unfolding mark_of
of_plus next = refl

of_minus : (next : ℕ) → mark_of 45 next ≡ Some (found Minus 1)
unfolding mark_of
of_minus next = refl

of_colon : (next : ℕ) → mark_of 58 next ≡ Some (found Colon 1)
unfolding mark_of
of_colon next = refl

of_less : (next : ℕ) → mark_of 60 next ≡ Some (relation_mark Less next)
unfolding mark_of
of_less next = refl

of_greater : (next : ℕ) → mark_of 62 next ≡ Some (relation_mark Greater next)
unfolding mark_of
of_greater next = refl

of_equal : (next : ℕ) → mark_of 61 next ≡ Some (equal_mark next)
unfolding mark_of
of_equal next = refl

same_mark : (byte b next : ℕ) (r : Option Found) → byte ≡ b → mark_of b next ≡ r → mark_of byte next ≡ r
same_mark byte b next r e f = let P : ℕ → Type 0 = λ x. mark_of x next ≡ r in subst P (sym e) f

-- where a byte begins a mark, the code finds one
pub marked : (kind : Kind) (byte next : ℕ) (word : List ℕ) → IsOther (byte ∷ word) → Spells kind (byte ∷ word) → (mark : Found) × (mark_of byte next ≡ Some mark)
marked Name byte next word other is = let no = other.no_name in let yes = is.0 in absurd cc
marked Number byte next word other is = let no = other.no_number in let yes = taken (byte ∷ word) is in absurd cc
marked Plus byte next word other is = (found Plus 1, same_mark byte 43 next _ (cons-first byte 43 word [] is) (of_plus next))
marked Minus byte next word other is = (found Minus 1, same_mark byte 45 next _ (cons-first byte 45 word [] is) (of_minus next))
marked Less byte next word other (inl is) = (relation_mark Less next, same_mark byte 60 next _ (cons-first byte 60 word [] is) (of_less next))
marked Less byte next word other (inr (inl is)) = (relation_mark Less next, same_mark byte 60 next _ (cons-first byte 60 word (61 ∷ []) is) (of_less next))
marked Less byte next word other (inr (inr is)) = (equal_mark next, same_mark byte 61 next _ (cons-first byte 61 word (60 ∷ []) is) (of_equal next))
marked Greater byte next word other (inl is) = (relation_mark Greater next, same_mark byte 62 next _ (cons-first byte 62 word [] is) (of_greater next))
marked Greater byte next word other (inr (inl is)) = (relation_mark Greater next, same_mark byte 62 next _ (cons-first byte 62 word (61 ∷ []) is) (of_greater next))
marked Greater byte next word other (inr (inr is)) = (equal_mark next, same_mark byte 61 next _ (cons-first byte 61 word (62 ∷ []) is) (of_equal next))
marked Equal byte next word other is = (equal_mark next, same_mark byte 61 next _ (cons-first byte 61 word [] is) (of_equal next))
marked Colon byte next word other is = (found Colon 1, same_mark byte 58 next _ (cons-first byte 58 word [] is) (of_colon next))
marked (Keyword keyword) byte next word other is = let no = other.no_name in let yes = is.0 in absurd cc
marked Infinite byte next word other is = let no = other.no_name in let yes = is.0 in absurd cc

-- the mark of two bytes, with nothing behind them
pub record IsPair (kind : Kind) (byte next : ℕ) (word : List ℕ) : Type 0 where
  pub mark : mark_of byte next ≡ Some (found kind 2)
  pub whole : word ≡ []

pair_is : (kind : Kind) (byte next a b : ℕ) (word : List ℕ) → byte ∷ next ∷ word ≡ a ∷ b ∷ [] → mark_of a b ≡ Some (found kind 2) → IsPair kind byte next word
pair_is kind byte next a b word e f =
    let one : byte ≡ a = cc in
    let two : next ≡ b = cc in
    let none : word ≡ [] = cc in
    let same : mark_of byte next ≡ mark_of a b = cc in
    record { mark = same ∙ f; whole = none }

single : (kind : Kind) (byte next a : ℕ) (word : List ℕ) → byte ∷ next ∷ word ≡ a ∷ [] → IsPair kind byte next word
single kind byte next a word e = absurd cc

pub paired : (kind : Kind) (byte next : ℕ) (word : List ℕ) → IsOther (byte ∷ next ∷ word) → Spells kind (byte ∷ next ∷ word) → IsPair kind byte next word
paired Name byte next word other is = let no = other.no_name in let yes = is.0 in absurd cc
paired Number byte next word other is = let no = other.no_number in let yes = taken (byte ∷ next ∷ word) is in absurd cc
paired Plus byte next word other is = single Plus byte next 43 word is
paired Minus byte next word other is = single Minus byte next 45 word is
paired Less byte next word other (inl is) = single Less byte next 60 word is
paired Less byte next word other (inr (inl is)) = pair_is Less byte next 60 61 word is (of_less 61)
paired Less byte next word other (inr (inr is)) = pair_is Less byte next 61 60 word is (of_equal 60)
paired Greater byte next word other (inl is) = single Greater byte next 62 word is
paired Greater byte next word other (inr (inl is)) = pair_is Greater byte next 62 61 word is (of_greater 61)
paired Greater byte next word other (inr (inr is)) = pair_is Greater byte next 61 62 word is (of_equal 62)
paired Equal byte next word other is = single Equal byte next 61 word is
paired Colon byte next word other is = single Colon byte next 58 word is
paired (Keyword keyword) byte next word other is = let no = other.no_name in let yes = is.0 in absurd cc
paired Infinite byte next word other is = let no = other.no_name in let yes = is.0 in absurd cc

-- the mark is spelled at the front of the text
pub record IsGood (text : List ℕ) (mark : Found) : Type 0 where
  pub some : 0 < mark.len
  pub inside : mark.len ≤ length text
  pub spelled : Spells mark.kind (take mark.len text)

abbrev AllGood : List ℕ → Option Found → Type 0
AllGood text None = Unit {0}
AllGood text (Some mark) = IsGood text mark

chosen : (text : List ℕ) (t : Bool) (x y : Option Found) → (t ≡ true → AllGood text x) → (t ≡ false → AllGood text y) → AllGood text (cond t x y)
chosen text true x y f g = f refl
chosen text false x y f g = g refl

chosen_mark : (text : List ℕ) (t : Bool) (x y : Found) → (t ≡ true → IsGood text x) → (t ≡ false → IsGood text y) → IsGood text (cond t x y)
chosen_mark text true x y f g = f refl
chosen_mark text false x y f g = g refl

one_byte : (byte b : ℕ) (rest : List ℕ) → eqb byte b ≡ true → take 1 (byte ∷ rest) ≡ b ∷ []
one_byte byte b rest e = ap (λ (x : ℕ). x ∷ []) (eqb-true byte b e)

second : (rest : List ℕ) (b : ℕ) → 0 < b → slice_index rest 0 ≡ b → (1 ≤ length rest) × (take 1 rest ≡ b ∷ [])
second [] b h e = absurd (omega arith)
second (next ∷ rest) b h e = (omega arith, ap (λ (x : ℕ). x ∷ []) e)

two_bytes : (byte a b : ℕ) (rest : List ℕ) → eqb byte a ≡ true → 0 < b → eqb (slice_index rest 0) b ≡ true → (2 ≤ length (byte ∷ rest)) × (take 2 (byte ∷ rest) ≡ a ∷ b ∷ [])
two_bytes byte a b rest e h f =
    let at = second rest b h (eqb-true _ b f) in
    let first : byte ≡ a = eqb-true byte a e in
    let behind : take 1 rest ≡ b ∷ [] = at.1 in
    let long : 1 ≤ length rest = at.0 in
    (omega arith, ap (λ (x : ℕ). x ∷ take 1 rest) first ∙ ap (λ (t : List ℕ). a ∷ t) behind)

good_one : (byte b : ℕ) (rest : List ℕ) (kind : Kind) → (take 1 (byte ∷ rest) ≡ b ∷ [] → Spells kind (take 1 (byte ∷ rest))) → eqb byte b ≡ true → IsGood (byte ∷ rest) (found kind 1)
good_one byte b rest kind spells e = record { some = omega arith; inside = omega arith; spelled = spells (one_byte byte b rest e) }

good_two : (byte a b : ℕ) (rest : List ℕ) (kind : Kind) → (take 2 (byte ∷ rest) ≡ a ∷ b ∷ [] → Spells kind (take 2 (byte ∷ rest))) → eqb byte a ≡ true → 0 < b → eqb (slice_index rest 0) b ≡ true → IsGood (byte ∷ rest) (found kind 2)
good_two byte a b rest kind spells e h f =
    let at = two_bytes byte a b rest e h f in record { some = omega arith; inside = at.0; spelled = spells at.1 }

good_relation : (byte b : ℕ) (rest : List ℕ) (kind : Kind) (t : Bool) → eqb byte b ≡ true → eqb (slice_index rest 0) 61 ≡ t
    → (take 1 (byte ∷ rest) ≡ b ∷ [] → Spells kind (take 1 (byte ∷ rest))) → (take 2 (byte ∷ rest) ≡ b ∷ 61 ∷ [] → Spells kind (take 2 (byte ∷ rest))) → IsGood (byte ∷ rest) (found kind (cond t 2 1))
good_relation byte b rest kind true e f one two = good_two byte b 61 rest kind two e (omega arith) f
good_relation byte b rest kind false e f one two = good_one byte b rest kind one e

good_equal : (byte : ℕ) (rest : List ℕ) → eqb byte 61 ≡ true → IsGood (byte ∷ rest) (equal_mark (slice_index rest 0))
good_equal byte rest e =
    chosen_mark (byte ∷ rest) (eqb (slice_index rest 0) 60) _ _ (λ f. good_two byte 61 60 rest Less (λ is. inr (inr is)) e (omega arith) f) (λ _.
    chosen_mark (byte ∷ rest) (eqb (slice_index rest 0) 62) _ _ (λ f. good_two byte 61 62 rest Greater (λ is. inr (inr is)) e (omega arith) f) (λ _.
    good_one byte 61 rest Equal (λ is. is) e))

pub good : (byte : ℕ) (rest : List ℕ) → AllGood (byte ∷ rest) (mark_of byte (slice_index rest 0))
unfolding mark_of
good byte rest =
    let text = byte ∷ rest in
    chosen text (eqb byte 43) _ _ (λ e. good_one byte 43 rest Plus (λ is. is) e) (λ _.
    chosen text (eqb byte 45) _ _ (λ e. good_one byte 45 rest Minus (λ is. is) e) (λ _.
    chosen text (eqb byte 58) _ _ (λ e. good_one byte 58 rest Colon (λ is. is) e) (λ _.
    chosen text (eqb byte 60) _ _ (λ e. good_relation byte 60 rest Less (eqb (slice_index rest 0) 61) e refl (λ is. inl is) (λ is. inr (inl is))) (λ _.
    chosen text (eqb byte 62) _ _ (λ e. good_relation byte 62 rest Greater (eqb (slice_index rest 0) 61) e refl (λ is. inl is) (λ is. inr (inl is))) (λ _.
    chosen text (eqb byte 61) _ _ (λ e. good_equal byte rest e) (λ _. tt))))))

-- a longer front than the mark that was found isn't one
not_paired : (byte next : ℕ) (rest : List ℕ) (mark : Found) (m : ℕ) (kind : Kind) → mark_of byte next ≡ Some mark → 0 < mark.len → mark.len < suc (suc m) → suc (suc m) ≤ length (byte ∷ next ∷ rest)
    → IsPair kind byte next (take m rest) → ⊥
not_paired byte next rest mark zero kind is some h k pair =
    let p = pair.mark in
    let same : mark ≡ found kind 2 = cc in
    let len : mark.len ≡ 2 = ap (λ (f : Found). f.len) same in omega arith
not_paired byte next [] mark (suc m) kind is some h k pair = omega arith
not_paired byte next (other ∷ rest) mark (suc m) kind is some h k pair = let p = pair.whole in cc

longer_mark : (byte : ℕ) (rest : List ℕ) (mark : Found) → mark_of byte (slice_index rest 0) ≡ Some mark → 0 < mark.len → ((m : ℕ) → IsOther (byte ∷ take m rest))
    → (m : ℕ) (kind : Kind) → mark.len < m → m ≤ length (byte ∷ rest) → Spells kind (take m (byte ∷ rest)) → ⊥
longer_mark byte rest mark is some other zero kind h k spelled = omega arith
longer_mark byte rest mark is some other (suc zero) kind h k spelled = omega arith
longer_mark byte [] mark is some other (suc (suc m)) kind h k spelled = omega arith
longer_mark byte (next ∷ rest) mark is some other (suc (suc m)) kind h k spelled =
    not_paired byte next rest mark m kind is some h k (paired kind byte next (take m rest) (other (suc m)) spelled)

-- no front of a text without a first byte is a token
pub nothing_spelled : (kind : Kind) → Spells kind [] → ⊥
nothing_spelled Name is = let yes = is.0 in cc
nothing_spelled Number is = let yes = taken [] is in cc
nothing_spelled Plus is = cc
nothing_spelled Minus is = cc
nothing_spelled Less (inl is) = cc
nothing_spelled Less (inr (inl is)) = cc
nothing_spelled Less (inr (inr is)) = cc
nothing_spelled Greater (inl is) = cc
nothing_spelled Greater (inr (inl is)) = cc
nothing_spelled Greater (inr (inr is)) = cc
nothing_spelled Equal is = cc
nothing_spelled Colon is = cc
nothing_spelled (Keyword keyword) is = let yes = is.0 in cc
nothing_spelled Infinite is = let yes = is.0 in cc

no_mark : (byte : ℕ) (rest : List ℕ) → mark_of byte (slice_index rest 0) ≡ None → ((m : ℕ) → IsOther (byte ∷ take m rest))
    → (m : ℕ) (kind : Kind) → Spells kind (take m (byte ∷ rest)) → ⊥
no_mark byte rest is other zero kind spelled = nothing_spelled kind spelled
no_mark byte rest is other (suc m) kind spelled =
    let mark = marked kind byte (slice_index rest 0) (take m rest) (other m) spelled in
    let e = mark.1 in cc

-- what the code found of marks, at a text whose fronts are neither names nor numbers
abbrev pub Longest : List ℕ → Option Found → Type 0
Longest text r = MatchOption r ((m : ℕ) (kind : Kind) → ¬ Spells kind (take m text)) (λ found. (0 < found.len) × IsLongest text found.kind found.len)

longest_of : (byte : ℕ) (rest : List ℕ) (r : Option Found) → mark_of byte (slice_index rest 0) ≡ r → AllGood (byte ∷ rest) r → ((m : ℕ) → IsOther (byte ∷ take m rest)) → Longest (byte ∷ rest) r
longest_of byte rest None is good_one other = no_mark byte rest is other
longest_of byte rest (Some mark) is good other = (good.some, record { inside = good.inside; spelled = good.spelled; longest = longer_mark byte rest mark is good.some other })

pub longest_mark : (byte : ℕ) (rest : List ℕ) → ((m : ℕ) → IsOther (byte ∷ take m rest)) → Longest (byte ∷ rest) (mark_at (byte ∷ rest))
longest_mark byte rest other = longest_of byte rest (mark_of byte (slice_index rest 0)) refl (good byte rest) other
