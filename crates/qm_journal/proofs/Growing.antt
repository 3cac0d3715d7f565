-- What stays as a journal grows.
use Rattle.std.proofs.Common.{◌≡◌, ◌∙◌, sym, refl, ap, subst, ℕ, zero, suc, ◌+◌, ◌<◌, ◌≤◌, arith, List, [], ◌∷◌, ◌++◌, length, take, get_or, length-append}
use Rattle.std.proofs.Math.Seq.{get_or-append_seam}
use Rattle.std.proofs.lemmas.List.{append_assoc, append-nil, get_or_append_left}
use Rattle.qm_model.specs.declared.game.Problem.{Problem}
use Rattle.qm_journal.specs.declared.entry.JEntry.{JEntry}
use Rattle.qm_journal.specs.declared.entry.JKind.{JKind}
use Rattle.qm_journal.specs.Positions.{Position, IsOfKind, IsParent, MayFollow, next_position, position_of, positions, positions_from, start}
use Rattle.qm_journal.specs.Lawful.{AreNext, IsLawful, IsNext}
use Rattle.qm_journal.proofs.Places.{some_at-append, some_at-within}

-- ---- positions

pub positions_from-append : (known : List Position) (J K : List JEntry) → positions_from known (J ++ K) ≡ positions_from (positions_from known J) K
positions_from-append known [] K = refl
positions_from-append known (e ∷ J) K = positions_from-append (known ++ next_position e.kind (get_or known e.parent start) e.value ∷ []) J K

length-positions_from : (known : List Position) (J : List JEntry) → length (positions_from known J) ≡ length known + length J
length-positions_from known [] = omega arith
length-positions_from known (e ∷ J) =
    let next : Position = next_position e.kind (get_or known e.parent start) e.value in
    omega (arith, length-positions_from (known ++ next ∷ []) J, length-append known (next ∷ []))

get_or-positions_from : (known : List Position) (J : List JEntry) (n : ℕ) → n < length known → get_or (positions_from known J) n start ≡ get_or known n start
get_or-positions_from known [] n less = refl
get_or-positions_from known (e ∷ J) n less =
    let next : Position = next_position e.kind (get_or known e.parent start) e.value in
    get_or-positions_from (known ++ next ∷ []) J n (omega (arith, length-append known (next ∷ []), less)) ∙ get_or_append_left known (next ∷ []) start n less

pub length-positions : (J : List JEntry) → length (positions J) ≡ suc (length J)
length-positions J = omega (arith, length-positions_from (start ∷ []) J)

-- the entries that stand keep their positions
pub position_of-old : (J K : List JEntry) (n : ℕ) → n ≤ length J → position_of (J ++ K) n ≡ position_of J n
position_of-old J K n within =
    ap (λ ps. get_or ps n start) (positions_from-append (start ∷ []) J K)
    ∙ get_or-positions_from (positions J) K n (omega (arith, length-positions J, within))

pub position_of-start : (J : List JEntry) → position_of J 0 ≡ start
position_of-start J = position_of-old [] J 0 (omega arith)

-- a new entry stands where it continues its parent
pub position_of-new : (J : List JEntry) (e : JEntry) → position_of (J ++ e ∷ []) (suc (length J)) ≡ next_position e.kind (position_of J e.parent) e.value
position_of-new J e =
    let next : Position = next_position e.kind (position_of J e.parent) e.value in
    ap (λ ps. get_or ps (suc (length J)) start) (positions_from-append (start ∷ []) J (e ∷ []))
    ∙ ap (λ n. get_or (positions J ++ next ∷ []) n start) (sym (length-positions J))
    ∙ get_or-append_seam (positions J) next [] start

-- ---- kinds and parents

pub IsOfKind-append : (kind : JKind) (J K : List JEntry) (n : ℕ) → IsOfKind kind J n → IsOfKind kind (J ++ K) n
IsOfKind-append kind J K zero h = absurd h
IsOfKind-append kind J K (suc i) h = some_at-append (λ e. e.kind ≡ kind) J K i h

pub IsParent-append : (kind : JKind) (J K : List JEntry) (n : ℕ) → IsParent kind J n → IsParent kind (J ++ K) n
IsParent-append kind J K zero h = tt
IsParent-append kind J K (suc i) h = some_at-append (λ e. MayFollow kind e.kind) J K i h

pub IsOfKind-within : (kind : JKind) (J : List JEntry) (n : ℕ) → IsOfKind kind J n → n ≤ length J
IsOfKind-within kind J zero h = absurd h
IsOfKind-within kind J (suc i) h = some_at-within (λ e. e.kind ≡ kind) J i h

pub IsParent-within : (kind : JKind) (J : List JEntry) (n : ℕ) → IsParent kind J n → n ≤ length J
IsParent-within kind J zero h = omega arith
IsParent-within kind J (suc i) h = some_at-within (λ e. MayFollow kind e.kind) J i h

-- ---- lawfulness

pub AreNext-append : (P : Problem) (before J K : List JEntry) → AreNext P before J → AreNext P (before ++ J) K → AreNext P before (J ++ K)
AreNext-append P before [] K h k = subst (λ es. AreNext P es K) (append-nil before) k
AreNext-append P before (e ∷ J) K h k =
    (h.0, AreNext-append P (before ++ e ∷ []) J K h.1 (subst (λ es. AreNext P es K) (sym (append_assoc before (e ∷ []) J)) k))

-- a lawful journal stays so with an entry that may come next
pub IsLawful-enter : (P : Problem) (J : List JEntry) (e : JEntry) → IsLawful P J → IsNext P J e → IsLawful P (J ++ e ∷ [])
IsLawful-enter P J e lawful next = AreNext-append P [] J (e ∷ []) lawful (next, tt)

-- each entry may come next behind those before it
pub IsNext-at : (P : Problem) (before J : List JEntry) (i : ℕ) (d : JEntry) → AreNext P before J → i < length J → IsNext P (before ++ take i J) (get_or J i d)
IsNext-at P before [] i d h less = absurd (omega arith)
IsNext-at P before (e ∷ J) zero d h less = subst (λ es. IsNext P es e) (sym (append-nil before)) h.0
IsNext-at P before (e ∷ J) (suc i) d h less =
    subst (λ es. IsNext P es (get_or J i d)) (append_assoc before (e ∷ []) (take i J))
    (IsNext-at P (before ++ e ∷ []) J i d h.1 (omega arith))
