-- The first offence in the use of names against the rules.
use Rattle.std.proofs.Common.{◌≡◌, ◌⊎◌, ⊎_elim, ℕ, ◌+◌, ◌<◌, Some, None, arith, refl, sym, ap, ◌∙◌, subst, suc, zero, lit<}
use Rattle.qm_parse.specs.Checks.{NamesRight, both_players, infinite, name_fault, offended, twice, unknown, unordered, without_upper}
use Rattle.qm_parse.specs.NameFaults.{BreaksFirst, IsFirstOffence, Keeps, rank}
use Rattle.qm_parse.specs.declared.ast.Ast.{Ast}
use Rattle.qm_parse.specs.declared.ast.Named.{Named}
use Rattle.qm_parse.specs.declared.offence.NameFault.{NameFault}
use Rattle.qm_parse.specs.declared.offence.Offence.{Offence}
use Rattle.qm_parse.specs.declared.offence.Offence.TheVariants.{BothPlayers, Twice, Unknown, Unordered, Infinite, NoUpper}
use Rattle.qm_parse.proofs.FirstFault.{IsOf, none_offended, offended-None, offended-Some, offended-is, or_else-None, or_else-first, or_else-offended, or_else-second}
use Rattle.qm_parse.proofs.KindLaws.{BreaksFirst-from_found, Keeps-from_None, None-from_Keeps, found-from_BreaksFirst, found_of}

-- the rules are kept where no check finds anything
pub NamesRight-from_None : (ast : Ast) → name_fault ast ≡ None → NamesRight ast
NamesRight-from_None ast none =
    let players = or_else-None BothPlayers (both_players ast) _ none in
    let second = or_else-None Twice (twice ast) _ players.1 in
    let known = or_else-None Unknown (unknown ast) _ second.1 in
    let ordered = or_else-None Unordered (unordered ast) _ known.1 in
    let finite = or_else-None Infinite (infinite ast) _ ordered.1 in
    record {
      apart = Keeps-from_None ast BothPlayers players.0;
      once = Keeps-from_None ast Twice second.0;
      known = Keeps-from_None ast Unknown known.0;
      ordered = Keeps-from_None ast Unordered ordered.0;
      finite = Keeps-from_None ast Infinite finite.0;
      bounded = Keeps-from_None ast NoUpper (offended-None NoUpper (without_upper ast) finite.1);
    }

silent : (ast : Ast) (kind : Offence) → Keeps ast kind → None ≡ offended kind (found_of ast kind)
silent ast kind keeps = none_offended kind (found_of ast kind) (None-from_Keeps ast kind keeps)

pub None-from_NamesRight : (ast : Ast) → NamesRight ast → name_fault ast ≡ None
None-from_NamesRight ast right =
    sym (or_else-second _ _ None (silent ast BothPlayers right.apart)
    (or_else-second _ _ None (silent ast Twice right.once)
    (or_else-second _ _ None (silent ast Unknown right.known)
    (or_else-second _ _ None (silent ast Unordered right.ordered)
    (or_else-second _ _ None (silent ast Infinite right.finite)
    (silent ast NoUpper right.bounded))))))

-- kinds by their rank
abbrev kind_at : ℕ → Offence
kind_at zero = BothPlayers
kind_at (suc zero) = Twice
kind_at (suc (suc zero)) = Unknown
kind_at (suc (suc (suc zero))) = Unordered
kind_at (suc (suc (suc (suc zero)))) = Infinite
kind_at (suc (suc (suc (suc (suc n))))) = NoUpper

kind_at-rank : (kind : Offence) → kind_at (rank kind) ≡ kind
kind_at-rank BothPlayers = refl
kind_at-rank Twice = refl
kind_at-rank Unknown = refl
kind_at-rank Unordered = refl
kind_at-rank Infinite = refl
kind_at-rank NoUpper = refl

same_kind : (one other : Offence) → rank one ≡ rank other → one ≡ other
same_kind one other same = sym (kind_at-rank one) ∙ ap kind_at same ∙ kind_at-rank other

-- the rules of all kinds below are kept
abbrev KeepsBelow : Ast → ℕ → Type 0
KeepsBelow ast n = (kind : Offence) → rank kind < n → Keeps ast kind

lt_or_same : (m n : ℕ) → m < n + 1 → (m < n) ⊎ (m ≡ n)
lt_or_same m n below = grind arith

KeepsBelow-more : (ast : Ast) (kind : Offence) → KeepsBelow ast (rank kind) → found_of ast kind ≡ None → KeepsBelow ast (rank kind + 1)
KeepsBelow-more ast kind below none other less =
    ⊎_elim (λ before. below other before)
    (λ same. subst (Keeps ast) (sym (same_kind other kind same)) (Keeps-from_None ast kind none))
    (lt_or_same (rank other) (rank kind) less)

first_offence : (ast : Ast) (kind : Offence) (fault : NameFault) → KeepsBelow ast (rank kind) → IsOf kind (found_of ast kind) fault → IsFirstOffence ast fault
first_offence ast kind fault below of =
    let named : Named = record { name = fault.name; at = fault.at } in
    record {
      breaks = subst (λ (kind : Offence). BreaksFirst ast kind named) of.1 (BreaksFirst-from_found ast kind named of.0);
      keeps = subst (λ (kind : Offence). KeepsBelow ast (rank kind)) of.1 below;
    }

pub IsFirstOffence-from_fault : (ast : Ast) (fault : NameFault) → name_fault ast ≡ Some fault → IsFirstOffence ast fault
IsFirstOffence-from_fault ast fault is =
    let none : KeepsBelow ast 0 = λ kind less. absurd (omega arith) in
    ⊎_elim (first_offence ast BothPlayers fault none)
    (λ players. let second = KeepsBelow-more ast BothPlayers none players.0 in
    ⊎_elim (first_offence ast Twice fault second)
    (λ repeated. let third = KeepsBelow-more ast Twice second repeated.0 in
    ⊎_elim (first_offence ast Unknown fault third)
    (λ known. let fourth = KeepsBelow-more ast Unknown third known.0 in
    ⊎_elim (first_offence ast Unordered fault fourth)
    (λ ordered. let fifth = KeepsBelow-more ast Unordered fourth ordered.0 in
    ⊎_elim (first_offence ast Infinite fault fifth)
    (λ finite. first_offence ast NoUpper fault (KeepsBelow-more ast Infinite fifth finite.0) (offended-is NoUpper (without_upper ast) fault finite.1))
    (or_else-offended Infinite (infinite ast) _ fault ordered.1))
    (or_else-offended Unordered (unordered ast) _ fault known.1))
    (or_else-offended Unknown (unknown ast) _ fault repeated.1))
    (or_else-offended Twice (twice ast) _ fault players.1))
    (or_else-offended BothPlayers (both_players ast) _ fault is)

abbrev fault_at : Offence → Named → NameFault
fault_at kind named = record { offence = kind; name = named.name; at = named.at }

told : (ast : Ast) (kind : Offence) (named : Named) → BreaksFirst ast kind named → Some (fault_at kind named) ≡ offended kind (found_of ast kind)
told ast kind named first = offended-Some kind (found_of ast kind) named (found-from_BreaksFirst ast kind named first)

-- the first kind whose rule is broken is told
told_first : (ast : Ast) (kind : Offence) (named : Named) → KeepsBelow ast (rank kind) → BreaksFirst ast kind named → Some (fault_at kind named) ≡ name_fault ast
told_first ast BothPlayers named below first = or_else-first _ _ _ (told ast BothPlayers named first)
told_first ast Twice named below first =
    or_else-second _ _ _ (silent ast BothPlayers (below BothPlayers (lit< tt)))
    (or_else-first _ _ _ (told ast Twice named first))
told_first ast Unknown named below first =
    or_else-second _ _ _ (silent ast BothPlayers (below BothPlayers (lit< tt)))
    (or_else-second _ _ _ (silent ast Twice (below Twice (lit< tt)))
    (or_else-first _ _ _ (told ast Unknown named first)))
told_first ast Unordered named below first =
    or_else-second _ _ _ (silent ast BothPlayers (below BothPlayers (lit< tt)))
    (or_else-second _ _ _ (silent ast Twice (below Twice (lit< tt)))
    (or_else-second _ _ _ (silent ast Unknown (below Unknown (lit< tt)))
    (or_else-first _ _ _ (told ast Unordered named first))))
told_first ast Infinite named below first =
    or_else-second _ _ _ (silent ast BothPlayers (below BothPlayers (lit< tt)))
    (or_else-second _ _ _ (silent ast Twice (below Twice (lit< tt)))
    (or_else-second _ _ _ (silent ast Unknown (below Unknown (lit< tt)))
    (or_else-second _ _ _ (silent ast Unordered (below Unordered (lit< tt)))
    (or_else-first _ _ _ (told ast Infinite named first)))))
told_first ast NoUpper named below first =
    or_else-second _ _ _ (silent ast BothPlayers (below BothPlayers (lit< tt)))
    (or_else-second _ _ _ (silent ast Twice (below Twice (lit< tt)))
    (or_else-second _ _ _ (silent ast Unknown (below Unknown (lit< tt)))
    (or_else-second _ _ _ (silent ast Unordered (below Unordered (lit< tt)))
    (or_else-second _ _ _ (silent ast Infinite (below Infinite (lit< tt)))
    (told ast NoUpper named first)))))

pub fault-from_IsFirstOffence : (ast : Ast) (fault : NameFault) → IsFirstOffence ast fault → name_fault ast ≡ Some fault
fault-from_IsFirstOffence ast fault first =
    sym (told_first ast fault.offence (record { name = fault.name; at = fault.at }) first.keeps first.breaks)
