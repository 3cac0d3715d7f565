-- A word is a token of one kind at most.
use Rattle.std.proofs.Common.{◌≡◌, ℕ, Bool, true, false, List, [], ◌∷◌, Option, Some, refl, sym, ap, subst, ◌∙◌, inl, inr}
use Rattle.qm_lex.specs.declared.token.Found.{Found}
use Rattle.qm_lex.specs.declared.token.Kind.{Kind}
use Rattle.qm_lex.specs.declared.token.Kind.TheVariants.{Name, Number, Plus, Minus, Less, Greater, Equal, Colon, Keyword, Infinite}
use Rattle.qm_lex.specs.Bytes.{begins_name}
use Rattle.qm_lex.specs.Marks.{found, mark_of}
use Rattle.qm_lex.specs.Spelling.{Spells}
use Rattle.qm_lex.proofs.Longest.{begins_number, number_begins, no_name, is_name_if, is_number_if}
use Rattle.qm_lex.proofs.NumberWords.{taken}
use Rattle.qm_lex.proofs.MarkFronts.{IsOther, paired, nothing_spelled}

one_of : (byte b : ℕ) (r : Option Found) → byte ∷ [] ≡ b ∷ [] → mark_of b 0 ≡ r → mark_of byte 0 ≡ r
one_of byte b r e f = let same : byte ≡ b = cc in let P : ℕ → Type 0 = λ x. mark_of x 0 ≡ r in subst P (sym same) f

two_of : (byte a b : ℕ) (r : Option Found) → byte ∷ [] ≡ a ∷ b ∷ [] → mark_of byte 0 ≡ r
two_of byte a b r e = absurd cc

-- the mark of one byte
lone : (kind : Kind) (byte : ℕ) → IsOther (byte ∷ []) → Spells kind (byte ∷ []) → mark_of byte 0 ≡ Some (found kind 1)
unfolding mark_of
lone Name byte other is = let no = other.no_name in let yes = is.0 in absurd cc
lone Number byte other is = let no = other.no_number in let yes = taken (byte ∷ []) is in absurd cc
lone Plus byte other is = one_of byte 43 _ is refl
lone Minus byte other is = one_of byte 45 _ is refl
lone Less byte other (inl is) = one_of byte 60 _ is refl
lone Less byte other (inr (inl is)) = two_of byte 60 61 _ is
lone Less byte other (inr (inr is)) = two_of byte 61 60 _ is
lone Greater byte other (inl is) = one_of byte 62 _ is refl
lone Greater byte other (inr (inl is)) = two_of byte 62 61 _ is
lone Greater byte other (inr (inr is)) = two_of byte 61 62 _ is
lone Equal byte other is = one_of byte 61 _ is refl
lone Colon byte other is = one_of byte 58 _ is refl
lone (Keyword keyword) byte other is = let no = other.no_name in let yes = is.0 in absurd cc
lone Infinite byte other is = let no = other.no_name in let yes = is.0 in absurd cc

kind_of_found : (one other : Kind) (n : ℕ) (r : Option Found) → r ≡ Some (found one n) → r ≡ Some (found other n) → one ≡ other
kind_of_found one other n r p q =
    let same : found one n ≡ found other n = cc in
    ap (λ (f : Found). f.kind) same

one_mark : (one other : Kind) (byte : ℕ) (word : List ℕ) → IsOther (byte ∷ word) → Spells one (byte ∷ word) → Spells other (byte ∷ word) → one ≡ other
one_mark one other byte [] apart p q = kind_of_found one other 1 _ (lone one byte apart p) (lone other byte apart q)
one_mark one other byte (next ∷ word) apart p q = kind_of_found one other 2 _ (paired one byte next word apart p).mark (paired other byte next word apart q).mark

no_name_kind : (one other : Kind) (byte : ℕ) (word : List ℕ) (t : Bool) → begins_name byte ≡ false → begins_number byte ≡ t → Spells one (byte ∷ word) → Spells other (byte ∷ word) → one ≡ other
no_name_kind one other byte word true none e p q = (is_number_if one byte word none e p).0 ∙ sym (is_number_if other byte word none e q).0
no_name_kind one other byte word false none e p q = one_mark one other byte word (record { no_name = no_name byte word none; no_number = number_begins byte word e }) p q

by_first : (one other : Kind) (byte : ℕ) (word : List ℕ) (t : Bool) → begins_name byte ≡ t → Spells one (byte ∷ word) → Spells other (byte ∷ word) → one ≡ other
by_first one other byte word true e p q = sym (is_name_if one byte word e p).1 ∙ (is_name_if other byte word e q).1
by_first one other byte word false e p q = no_name_kind one other byte word (begins_number byte) e refl p q

pub same_kind : (one other : Kind) (word : List ℕ) → Spells one word → Spells other word → one ≡ other
same_kind one other [] p q = absurd (nothing_spelled one p)
same_kind one other (byte ∷ word) p q = by_first one other byte word (begins_name byte) refl p q
