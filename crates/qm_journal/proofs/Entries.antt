-- The facts of each entry of a lawful journal.
use Rattle.std.proofs.Common.{◌≡◌, ◌≢◌, ◌∙◌, sym, refl, ap, subst, ℕ, zero, suc, ◌<◌, ◌≤◌, arith, List, [], ◌∷◌, ◌++◌, length, take, drop, get_or, pos}
use Rattle.std.proofs.Math.Seq.{take-suc}
use Rattle.std.proofs.lemmas.List.{get_or-take, length-take-le, take-append-drop}
use Rattle.qm_model.specs.declared.game.Problem.{Problem}
use Rattle.qm_journal.specs.declared.entry.JEntry.{JEntry}
use Rattle.qm_journal.specs.declared.entry.JKind.{JKind}
use Rattle.qm_journal.specs.declared.entry.JKind.TheVariants.{Game}
use Rattle.qm_journal.specs.Positions.{IsParent, MayFollow, next_position, position_of}
use Rattle.qm_journal.specs.Lawful.{IsLawful, IsNext, MayAppend}
use Rattle.qm_journal.proofs.Places.{some_at-take}
use Rattle.qm_journal.proofs.Growing.{IsNext-at, IsParent-within, position_of-new, position_of-old}

-- an entry for the places where there is none
abbrev pub nowhere : JEntry
nowhere = record { kind = Game; parent = 0; value = pos 0 }

abbrev pub entry_at : List JEntry → ℕ → JEntry
entry_at J i = get_or J i nowhere

-- what holds of the entry at a place
pub record Stands (P : Problem) (J : List JEntry) (i : ℕ) (kind : JKind) : Type 0 where
  pub kind_is : (entry_at J i).kind ≡ kind
  pub parent : IsParent kind J (entry_at J i).parent
  pub before : (entry_at J i).parent ≤ i
  pub appends : MayAppend P kind (position_of J (entry_at J i).parent) (entry_at J i).value
  pub position : position_of J (suc i) ≡ next_position kind (position_of J (entry_at J i).parent) (entry_at J i).value

position_of-take : (J : List JEntry) (i n : ℕ) → n ≤ i → i ≤ length J → position_of (take i J) n ≡ position_of J n
position_of-take J i n early within =
    sym (position_of-old (take i J) (drop i J) n (omega (arith, length-take-le i J within, early)))
    ∙ ap (λ es. position_of es n) (take-append-drop i J)

position_at : (J : List JEntry) (i : ℕ) → i < length J → (entry_at J i).parent ≤ i →
    position_of J (suc i) ≡ next_position (entry_at J i).kind (position_of J (entry_at J i).parent) (entry_at J i).value
position_at J i less before =
    let d = entry_at J i in
    let front : length (take i J) ≡ i = length-take-le i J (omega (arith, less)) in
    sym (position_of-take J (suc i) (suc i) (omega arith) (omega (arith, less)))
    ∙ ap (λ es. position_of es (suc i)) (take-suc J i nowhere less)
    ∙ ap (λ n. position_of (take i J ++ d ∷ []) (suc n)) (sym front)
    ∙ position_of-new (take i J) d
    ∙ ap (λ p. next_position d.kind p d.value) (position_of-take J i d.parent before (omega (arith, less)))

IsParent-take : (kind : JKind) (J : List JEntry) (i n : ℕ) → IsParent kind (take i J) n → IsParent kind J n
IsParent-take kind J i zero h = tt
IsParent-take kind J i (suc b) h = some_at-take (λ e. MayFollow kind e.kind) i J b h

pub stands_at : (P : Problem) (J : List JEntry) (i : ℕ) → IsLawful P J → i < length J → Stands P J i (entry_at J i).kind
stands_at P J i lawful less =
    let d = entry_at J i in
    let next : IsNext P (take i J) d = IsNext-at P [] J i nowhere lawful less in
    let before : d.parent ≤ i = omega (arith, IsParent-within d.kind (take i J) d.parent next.parent, length-take-le i J (omega (arith, less))) in
    record {
      kind_is = refl;
      parent = IsParent-take d.kind J i d.parent next.parent;
      before = before;
      appends = subst (λ p. MayAppend P d.kind p d.value) (position_of-take J i d.parent before (omega (arith, less))) next.appends;
      position = position_at J i less before;
    }

-- no two entries are the same
pub entries_apart : (P : Problem) (J : List JEntry) → IsLawful P J → (i j : ℕ) → i < j → j < length J → entry_at J i ≢ entry_at J j
entries_apart P J lawful i j less within e =
    let next : IsNext P (take j J) (entry_at J j) = IsNext-at P [] J j nowhere lawful within in
    next.new i nowhere (omega (arith, less, length-take-le j J (omega (arith, within)))) (get_or-take j J i nowhere less ∙ e)
