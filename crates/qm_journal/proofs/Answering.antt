-- What an answer adds is no game entry.
use Rattle.std.proofs.Common.{◌≡◌, sym, ap, subst, ℕ, zero, suc, List, [], ◌∷◌, ◌++◌, All, Option, Some, None, length, ℤ}
use Rattle.std.proofs.lemmas.List.Elements.{All-cons, All-nil}
use Rattle.qm_journal.specs.declared.entry.JEntry.{JEntry}
use Rattle.qm_journal.specs.declared.entry.JKind.TheVariants.{Game, Query}
use Rattle.qm_journal.specs.Positions.{IsOfKind, position_of}
use Rattle.qm_journal.specs.Questions.{LeadBack, MayAdd, WentOn, query_entry}
use Rattle.qm_journal.proofs.Places.{some_at-left}
use Rattle.qm_journal.proofs.Growing.{IsOfKind-within, position_of-old}

-- no game entry
abbrev pub IsNoGame : JEntry → Type 0
IsNoGame e = ¬ (e.kind ≡ Game)

steps-no_game : (to last : ℕ) (steps : List JEntry) → LeadBack to last steps → All IsNoGame steps
steps-no_game to last steps back = λ k d less game. absurd (let step = (back k d less).0 in cc)

query-no_game : (parent : ℕ) (v : ℤ) (q : JEntry) → q ≡ query_entry parent v → IsNoGame q
query-no_game parent v q e game = absurd (let query : q.kind ≡ Query = ap (λ d. d.kind) e in cc)

pub added-no_game : (J : List JEntry) (parent : ℕ) (value : Option ℤ) (added : List JEntry) → MayAdd J parent value added → All IsNoGame added
added-no_game J parent None added may = steps-no_game 0 (length J) added may
added-no_game J parent (Some v) [] may = All-nil IsNoGame
added-no_game J parent (Some v) (q ∷ steps) may =
    All-cons IsNoGame q steps (query-no_game parent v q may.0) (steps-no_game (suc (length J)) (suc (length J)) steps may.1)

IsOfKind-game_old : (J K : List JEntry) (n : ℕ) → All IsNoGame K → IsOfKind Game (J ++ K) n → IsOfKind Game J n
IsOfKind-game_old J K zero none h = absurd h
IsOfKind-game_old J K (suc i) none h = some_at-left (λ e. e.kind ≡ Game) J K i none h

-- each game entry behind an answer was one before it, and stands where it stood
pub game-stays : (parent : ℕ) (value : Option ℤ) (old new : List JEntry) → WentOn parent value old new → (n : ℕ) → IsOfKind Game new n → IsOfKind Game old n × (position_of new n ≡ position_of old n)
game-stays parent value old new went n h =
    let before = IsOfKind-game_old old went.added n (added-no_game old parent value went.added went.may) (subst (λ J. IsOfKind Game J n) went.behind h) in
    (before, subst (λ J. position_of J n ≡ position_of old n) (sym went.behind) (position_of-old old went.added n (IsOfKind-within Game old n before)))
