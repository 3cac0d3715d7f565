-- Different numbers stand for different positions: among 0 and the game entries, and among 0, the queries and the steps.
use Rattle.std.proofs.Common.{◌≡◌, ◌≢◌, ◌∙◌, ◌⊎◌, inl, inr, ⊎_elim, sym, refl, ap, ap₂, subst, ℕ, zero, suc, ◌<◌, ◌≤◌, arith, List, [], ◌∷◌, ◌++◌, length, ℤ}
use Rattle.std.proofs.lemmas.Bool.{cases_order}
use Rattle.qm_model.specs.declared.game.Problem.{Problem}
use Rattle.qm_journal.specs.declared.entry.JEntry.{JEntry}
use Rattle.qm_journal.specs.declared.entry.JKind.{JKind}
use Rattle.qm_journal.specs.declared.entry.JKind.TheVariants.{Game, Query, Step}
use Rattle.qm_journal.specs.Positions.{IsAsked, IsParent, MayFollow, Position, next_position, position_of}
use Rattle.qm_journal.specs.Lawful.{IsLawful}
use Rattle.qm_journal.proofs.Places.{some_at-get, some_at-within}
use Rattle.qm_journal.proofs.Ends.{snoc-nonempty, snoc-one}
use Rattle.qm_journal.proofs.Growing.{position_of-start}
use Rattle.qm_journal.proofs.Entries.{Stands, entries_apart, entry_at, nowhere, stands_at}

pub stands_as : (P : Problem) (J : List JEntry) (i : ℕ) (kind : JKind) → IsLawful P J → i < length J → (entry_at J i).kind ≡ kind → Stands P J i kind
stands_as P J i kind lawful less e = subst (λ k. Stands P J i k) e (stands_at P J i lawful less)

-- what stands behind a number other than 0 that may be a parent
pub game_at : (P : Problem) (J : List JEntry) (i : ℕ) → IsLawful P J → IsParent Game J (suc i) → Stands P J i Game
game_at P J i lawful h =
    stands_as P J i Game lawful (some_at-within (λ e. MayFollow Game e.kind) J i h) (some_at-get (λ e. MayFollow Game e.kind) J i nowhere h)

asked_kind : (kind : JKind) → IsAsked kind → (kind ≡ Query) ⊎ (kind ≡ Step)
asked_kind Game h = absurd h
asked_kind Query h = inl refl
asked_kind Step h = inr refl

pub asked_at : (P : Problem) (J : List JEntry) (i : ℕ) → IsLawful P J → IsParent Step J (suc i) → Stands P J i Query ⊎ Stands P J i Step
asked_at P J i lawful h =
    let less : i < length J = some_at-within (λ e. MayFollow Step e.kind) J i h in
    ⊎_elim (λ query. inl (stands_as P J i Query lawful less query)) (λ step. inr (stands_as P J i Step lawful less step))
    (asked_kind (entry_at J i).kind (some_at-get (λ e. MayFollow Step e.kind) J i nowhere h))

-- the parent of a query is 0 or a game entry, as that of a game entry
pub query_parent : (J : List JEntry) (n : ℕ) → IsParent Query J n → IsParent Game J n
query_parent J zero h = tt
query_parent J (suc b) h = h

pub same_positions : (p q : Position) → p.prefix ≡ q.prefix → p.steps ≡ q.steps → p ≡ q
same_positions p q e f = ap₂ (λ (vs : List ℤ) (us : List ℤ). record { prefix = vs; steps = us }) e f

one_entry : (a b : JEntry) → a.kind ≡ b.kind → a.parent ≡ b.parent → a.value ≡ b.value → a ≡ b
one_entry a b kinds parents values =
    ap (λ kind. let e : JEntry = record { kind = kind; parent = a.parent; value = a.value } in e) kinds
    ∙ ap (λ parent. let e : JEntry = record { kind = b.kind; parent = parent; value = a.value } in e) parents
    ∙ ap (λ value. let e : JEntry = record { kind = b.kind; parent = b.parent; value = value } in e) values

-- entries of one kind with one parent and one value have one place
same_place : (P : Problem) (J : List JEntry) (i j : ℕ) (kind : JKind) → IsLawful P J → i < length J → j < length J → Stands P J i kind → Stands P J j kind
    → (entry_at J i).parent ≡ (entry_at J j).parent → (entry_at J i).value ≡ (entry_at J j).value → i ≡ j
same_place P J i j kind lawful in_i in_j s t parents values =
    let same : entry_at J i ≡ entry_at J j = one_entry (entry_at J i) (entry_at J j) (s.kind_is ∙ sym t.kind_is) parents values in
    ⊎_elim (λ one. one)
    (⊎_elim (λ less. absurd (entries_apart P J lawful i j less in_j same)) (λ more. absurd (entries_apart P J lawful j i more in_i (sym same))))
    (cases_order i j)

within_of : (J : List JEntry) (i : ℕ) → IsParent Game J (suc i) → i < length J
within_of J i h = some_at-within (λ e. MayFollow Game e.kind) J i h

-- ---- 0 and game entries

pub game_steps : (P : Problem) (J : List JEntry) (n : ℕ) → IsLawful P J → IsParent Game J n → (position_of J n).steps ≡ []
game_steps P J zero lawful h = ap (λ p. p.steps) (position_of-start J)
game_steps P J (suc i) lawful h = ap (λ p. p.steps) (game_at P J i lawful h).position

-- an entry whose prefix ends with its value doesn't stand where 0 does
prefix_ends : (J : List JEntry) (i : ℕ) (vs us : List ℤ) (v : ℤ) → position_of J (suc i) ≡ record { prefix = vs ++ v ∷ []; steps = us } → position_of J 0 ≢ position_of J (suc i)
prefix_ends J i vs us v at e = snoc-nonempty vs v (ap (λ p. p.prefix) (sym at ∙ sym e ∙ position_of-start J))

steps_end : (J : List JEntry) (i : ℕ) (vs us : List ℤ) (v : ℤ) → position_of J (suc i) ≡ record { prefix = vs; steps = us ++ v ∷ [] } → position_of J 0 ≢ position_of J (suc i)
steps_end J i vs us v at e = snoc-nonempty us v (ap (λ p. p.steps) (sym at ∙ sym e ∙ position_of-start J))

pub games_apart : (P : Problem) (J : List JEntry) (most i j : ℕ) → IsLawful P J → i ≤ most → IsParent Game J i → IsParent Game J j → position_of J i ≡ position_of J j → i ≡ j
games_apart P J most zero zero lawful bound h k e = refl
games_apart P J most zero (suc j) lawful bound h k e =
    let t = game_at P J j lawful k in
    absurd (prefix_ends J j (position_of J (entry_at J j).parent).prefix [] (entry_at J j).value t.position e)
games_apart P J most (suc i) zero lawful bound h k e =
    let s = game_at P J i lawful h in
    absurd (prefix_ends J i (position_of J (entry_at J i).parent).prefix [] (entry_at J i).value s.position (sym e))
games_apart P J zero (suc i) (suc j) lawful bound h k e = absurd (omega (arith, bound))
games_apart P J (suc most) (suc i) (suc j) lawful bound h k e =
    let s = game_at P J i lawful h in
    let t = game_at P J j lawful k in
    let a = entry_at J i in
    let b = entry_at J j in
    let ends : ((position_of J a.parent).prefix ≡ (position_of J b.parent).prefix) × (a.value ≡ b.value) =
    snoc-one (position_of J a.parent).prefix (position_of J b.parent).prefix a.value b.value (ap (λ p. p.prefix) (sym s.position ∙ e ∙ t.position)) in
    let parents : position_of J a.parent ≡ position_of J b.parent =
    same_positions (position_of J a.parent) (position_of J b.parent) ends.0
    (game_steps P J a.parent lawful s.parent ∙ sym (game_steps P J b.parent lawful t.parent)) in
    ap suc (same_place P J i j Game lawful (within_of J i h) (within_of J j k) s t
    (games_apart P J most a.parent b.parent lawful (omega (arith, bound, s.before)) s.parent t.parent parents) ends.1)

-- ---- 0, queries and steps

prefix_and_end : (P : Problem) (J : List JEntry) (i j : ℕ) → position_of J (suc i) ≡ position_of J (suc j) → Stands P J i Query → Stands P J j Step → ⊥
prefix_and_end P J i j e s t =
    snoc-nonempty (position_of J (entry_at J j).parent).steps (entry_at J j).value (ap (λ p. p.steps) (sym t.position ∙ sym e ∙ s.position))

queries_one : (P : Problem) (J : List JEntry) (i j : ℕ) → IsLawful P J → i < length J → j < length J → position_of J (suc i) ≡ position_of J (suc j) → Stands P J i Query → Stands P J j Query → i ≡ j
queries_one P J i j lawful in_i in_j e s t =
    let a = entry_at J i in
    let b = entry_at J j in
    let ends : ((position_of J a.parent).prefix ≡ (position_of J b.parent).prefix) × (a.value ≡ b.value) =
    snoc-one (position_of J a.parent).prefix (position_of J b.parent).prefix a.value b.value (ap (λ p. p.prefix) (sym s.position ∙ e ∙ t.position)) in
    let first = query_parent J a.parent s.parent in
    let second = query_parent J b.parent t.parent in
    let parents : position_of J a.parent ≡ position_of J b.parent =
    same_positions (position_of J a.parent) (position_of J b.parent) ends.0
    (game_steps P J a.parent lawful first ∙ sym (game_steps P J b.parent lawful second)) in
    same_place P J i j Query lawful in_i in_j s t (games_apart P J a.parent a.parent b.parent lawful (omega arith) first second parents) ends.1

steps_one : (P : Problem) (J : List JEntry) (i j : ℕ) → IsLawful P J → i < length J → j < length J → position_of J (suc i) ≡ position_of J (suc j) → Stands P J i Step → Stands P J j Step
    → (position_of J (entry_at J i).parent ≡ position_of J (entry_at J j).parent → (entry_at J i).parent ≡ (entry_at J j).parent) → i ≡ j
steps_one P J i j lawful in_i in_j e s t parents_one =
    let a = entry_at J i in
    let b = entry_at J j in
    let both : next_position Step (position_of J a.parent) a.value ≡ next_position Step (position_of J b.parent) b.value = sym s.position ∙ e ∙ t.position in
    let ends : ((position_of J a.parent).steps ≡ (position_of J b.parent).steps) × (a.value ≡ b.value) =
    snoc-one (position_of J a.parent).steps (position_of J b.parent).steps a.value b.value (ap (λ p. p.steps) both) in
    same_place P J i j Step lawful in_i in_j s t
    (parents_one (same_positions (position_of J a.parent) (position_of J b.parent) (ap (λ p. p.prefix) both) ends.0)) ends.1

not_start : (P : Problem) (J : List JEntry) (i : ℕ) → Stands P J i Query ⊎ Stands P J i Step → position_of J 0 ≢ position_of J (suc i)
not_start P J i h e =
    let parent = position_of J (entry_at J i).parent in
    ⊎_elim (λ s. prefix_ends J i parent.prefix [] (entry_at J i).value s.position e) (λ s. steps_end J i parent.prefix parent.steps (entry_at J i).value s.position e) h

asked_within : (J : List JEntry) (i : ℕ) → IsParent Step J (suc i) → i < length J
asked_within J i h = some_at-within (λ e. MayFollow Step e.kind) J i h

pub asked_apart : (P : Problem) (J : List JEntry) (most i j : ℕ) → IsLawful P J → i ≤ most → IsParent Step J i → IsParent Step J j → position_of J i ≡ position_of J j → i ≡ j
asked_apart P J most zero zero lawful bound h k e = refl
asked_apart P J most zero (suc j) lawful bound h k e = absurd (not_start P J j (asked_at P J j lawful k) e)
asked_apart P J most (suc i) zero lawful bound h k e = absurd (not_start P J i (asked_at P J i lawful h) (sym e))
asked_apart P J zero (suc i) (suc j) lawful bound h k e = absurd (omega (arith, bound))
asked_apart P J (suc most) (suc i) (suc j) lawful bound h k e =
    ap suc (
    ⊎_elim
    (λ s. ⊎_elim
    (λ t. queries_one P J i j lawful (asked_within J i h) (asked_within J j k) e s t)
    (λ t. absurd (prefix_and_end P J i j e s t))
    (asked_at P J j lawful k))
    (λ s. ⊎_elim
    (λ t. absurd (prefix_and_end P J j i (sym e) t s))
    (λ t. steps_one P J i j lawful (asked_within J i h) (asked_within J j k) e s t
    (λ parents. asked_apart P J most (entry_at J i).parent (entry_at J j).parent lawful (omega (arith, bound, s.before)) s.parent t.parent parents))
    (asked_at P J j lawful k))
    (asked_at P J i lawful h)
    )
