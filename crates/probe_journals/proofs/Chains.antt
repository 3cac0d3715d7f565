-- What game entries stand for.
use Rattle.std.proofs.Common.{◌≡◌, ◌∙◌, refl, sym, subst, ap, ℕ, zero, ◌-◌, ◌<◌, arith, List, [], ◌∷◌, ◌++◌, length, get_or, drop, suc, drop-cons, false, ℤ, append_assoc}
use Rattle.std.proofs.lemmas.List.{append-nil}
use Rattle.qm_model.specs.declared.game.Problem.{Problem}
use Rattle.qm_model.specs.declared.variable.Var.{Var}
use Rattle.qm_model.specs.Legal.{IsLegal}
use Rattle.qm_model.specs.Plays.{is_universal, whole_vars}
use Rattle.qm_model.proofs.Players.{exists_of}
use Rattle.qm_model.proofs.LegalMoves.{legal_with_any}
use Rattle.qm_journal.specs.declared.entry.JEntry.{JEntry}
use Rattle.qm_journal.specs.declared.entry.JKind.TheVariants.{Game}
use Rattle.qm_journal.specs.Lawful.{IsLawful}
use Rattle.qm_journal.specs.Positions.{IsParent, Position, position_of}
use Rattle.qm_journal.proofs.Apart.{game_at}
use Rattle.qm_journal.proofs.Entries.{entry_at}
use Rattle.qm_journal.proofs.Growing.{IsParent-within, position_of-start}

-- the prefix of a game entry is that of its parent with its value, and it is legal
pub record IsBehind (P : Problem) (J : List JEntry) (number : ℕ) (e : JEntry) : Type 0 where
  pub again : IsParent Game J e.parent
  pub before : e.parent < number
  pub prefix : (position_of J number).prefix ≡ (position_of J e.parent).prefix ++ e.value ∷ []
  pub legal : IsLegal P (position_of J number).prefix
  pub within : number - 1 < length J

behind_at : (P : Problem) (J : List JEntry) (i : ℕ) → IsLawful P J → IsParent Game J (suc i) → IsBehind P J (suc i) (entry_at J i)
behind_at P J i lawful parent =
    let here = game_at P J i lawful parent in
    let prefix = ap (λ (p : Position). p.prefix) here.position in
    record {
      again = here.parent;
      before = omega (arith, here.before);
      prefix = prefix;
      legal = subst (IsLegal P) (sym prefix) here.appends.legal;
      within = omega (arith, IsParent-within Game J (suc i) parent);
    }

pub behind : (P : Problem) (J : List JEntry) (number : ℕ) → IsLawful P J → IsParent Game J number → 0 < number → IsBehind P J number (entry_at J (number - 1))
behind P J zero lawful parent some = absurd (omega (arith, some))
behind P J (suc i) lawful parent some =
    let down : suc i - 1 ≡ i = omega arith in
    rw down (behind_at P J i lawful parent)

-- the number 0 stands for the empty prefix
start_prefix : (J : List JEntry) → (position_of J 0).prefix ≡ []
start_prefix J = ap (λ (p : Position). p.prefix) (position_of-start J)

pub nothing_behind : (J : List JEntry) (number : ℕ) (vs : List ℤ) → number ≡ 0 → vs ≡ vs ++ (position_of J number).prefix
nothing_behind J number vs none = rw (none, start_prefix J, append-nil vs) refl

pub pushed : (old mid new before here : List ℤ) (v : ℤ) → new ≡ mid ++ v ∷ [] → mid ≡ old ++ before → here ≡ before ++ v ∷ [] → new ≡ old ++ here
pushed old mid new before here v last first whole = last ∙ ap (λ vs. vs ++ v ∷ []) first ∙ append_assoc old before (v ∷ []) ∙ ap (λ vs. old ++ vs) (sym whole)

pub known_legal : (P : Problem) (J : List JEntry) (number : ℕ) → IsLawful P J → IsParent Game J number → (number ≡ 0 → IsLegal P []) → IsLegal P (position_of J number).prefix
known_legal P J zero lawful parent root = subst (IsLegal P) (sym (start_prefix J)) (root refl)
known_legal P J (suc i) lawful parent root = (behind P J (suc i) lawful parent (omega arith)).legal

-- a legal prefix goes on with any value of an existential variable
pub legal_with : (P : Problem) (prefix : List ℤ) (v : ℤ) (d : Var) → length prefix < length (whole_vars P) → is_universal (get_or (whole_vars P) (length prefix) d) ≡ false → IsLegal P prefix → IsLegal P (prefix ++ v ∷ [])
legal_with P prefix v d less test legal =
    let x = get_or (whole_vars P) (length prefix) d in
    legal_with_any P prefix x (drop (suc (length prefix)) (whole_vars P)) (drop-cons (whole_vars P) (length prefix) d less) v (exists_of x test) legal

pub legal_along : (P : Problem) (prefix : List ℤ) (v : ℤ) (vars : List Var) (x : Var) → vars ≡ whole_vars P → length prefix < length vars → x ≡ get_or vars (length prefix) x → is_universal x ≡ false → IsLegal P prefix → IsLegal P (prefix ++ v ∷ [])
legal_along P prefix v vars x whole less is test legal =
    let same : x ≡ get_or (whole_vars P) (length prefix) x = is ∙ ap (λ ys. get_or ys (length prefix) x) whole in
    legal_with P prefix v x (omega (arith, ap length whole, less)) (ap is_universal (sym same) ∙ test) legal
