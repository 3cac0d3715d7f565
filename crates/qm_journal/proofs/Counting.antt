-- The entries of a lawful journal have different numbers below what is claimed.
use Rattle.std.proofs.Common.{◌≡◌, ◌≢◌, ◌∙◌, ⊎_elim, sym, refl, ap, subst, ℕ, zero, suc, ◌+◌, ◌*◌, ◌-◌, ◌<◌, ◌≤◌, arith, mul-le-mul_right, Bool, true, false, if◌then◌else◌, List, [], ◌∷◌, ◌++◌, length, map, get_or, ℤ}
use Rattle.std.proofs.lemmas.List.{append_assoc, append_cancel_left, get_or-map}
use Rattle.std.proofs.lemmas.List.FromFn.{get_or-range_with_len, length-map-range_with_len, length-range_with_len}
use Rattle.std.specs.List.{range_with_len}
use Rattle.qm_math.proofs.Distinct.{length-le_distinct_below}
use Rattle.qm_model.specs.declared.variable.Var.{Var}
use Rattle.qm_model.specs.declared.game.Problem.{Problem}
use Rattle.qm_model.specs.Legal.{IsPrefix, universal_part}
use Rattle.qm_model.specs.Plays.{BeginWithin, universal_vars, whole_vars}
use Rattle.qm_journal.specs.declared.entry.JEntry.{JEntry}
use Rattle.qm_journal.specs.declared.entry.JKind.{JKind}
use Rattle.qm_journal.specs.declared.entry.JKind.TheVariants.{Game, Query, Step}
use Rattle.qm_journal.specs.Positions.{IsAsked, IsParent, MayFollow, Position, position_of, universal_values}
use Rattle.qm_journal.specs.Lawful.{IsLawful, is_restricted}
use Rattle.qm_journal.specs.Enough.{enough, prefix_count, universal_prefixes, whole_prefixes}
use Rattle.qm_journal.proofs.Places.{some_at-of}
use Rattle.qm_journal.proofs.Growing.{position_of-start}
use Rattle.qm_journal.proofs.Entries.{Stands, entry_at, nowhere, stands_at}
use Rattle.qm_journal.proofs.Apart.{asked_apart, asked_at, game_at, games_apart, same_positions}
use Rattle.qm_journal.proofs.PrefixPlaces.{place, place-below, place-one, place-snoc, prefix_count-some, row-one}

-- a list of values that isn't empty, and its place
record HasPlace (xs : List Var) (vs : List ℤ) : Type 0 where
  pub within : BeginWithin xs vs
  pub some : 0 < place xs vs

-- ---- what each kind of entry has

game_place : (P : Problem) (J : List JEntry) (i : ℕ) → Stands P J i Game → HasPlace (whole_vars P) (position_of J (suc i)).prefix
game_place P J i s =
    let parent = position_of J (entry_at J i).parent in
    subst (λ p. HasPlace (whole_vars P) p.prefix) (sym s.position)
    (record { within = s.appends.within; some = place-snoc (whole_vars P) parent.prefix (entry_at J i).value s.appends.within })

query_place : (P : Problem) (J : List JEntry) (i : ℕ) → Stands P J i Query → HasPlace (whole_vars P) (position_of J (suc i)).prefix
query_place P J i s =
    let parent = position_of J (entry_at J i).parent in
    subst (λ p. HasPlace (whole_vars P) p.prefix) (sym s.position)
    (record { within = s.appends.1.within; some = place-snoc (whole_vars P) parent.prefix (entry_at J i).value s.appends.1.within })

step_place : (P : Problem) (J : List JEntry) (i : ℕ) → Stands P J i Step → HasPlace (universal_vars P) (universal_values P (position_of J (suc i)))
step_place P J i s =
    let parent = position_of J (entry_at J i).parent in
    let v = (entry_at J i).value in
    let at : HasPlace (universal_vars P) (universal_values P parent ++ v ∷ []) =
    record { within = s.appends.1.within; some = place-snoc (universal_vars P) (universal_values P parent) v s.appends.1.within } in
    subst (λ p. HasPlace (universal_vars P) (universal_values P p)) (sym s.position)
    (subst (λ us. HasPlace (universal_vars P) us) (append_assoc (universal_part (whole_vars P) parent.prefix) parent.steps (v ∷ [])) at)

-- the prefix of a game entry, or of 0, is within bounds
pub game_prefix : (P : Problem) (J : List JEntry) (n : ℕ) → IsLawful P J → IsParent Game J n → IsPrefix P (position_of J n).prefix
game_prefix P J zero lawful h = subst (λ p. IsPrefix P p.prefix) (sym (position_of-start J)) tt
game_prefix P J (suc i) lawful h = (game_place P J i (game_at P J i lawful h)).within

-- the prefix that a step leads back to
pub asked_prefix : (P : Problem) (J : List JEntry) (most n : ℕ) → IsLawful P J → n ≤ most → IsParent Step J n → IsPrefix P (position_of J n).prefix
asked_prefix P J most zero lawful bound h = subst (λ p. IsPrefix P p.prefix) (sym (position_of-start J)) tt
asked_prefix P J zero (suc i) lawful bound h = absurd (omega (arith, bound))
asked_prefix P J (suc most) (suc i) lawful bound h =
    ⊎_elim
    (λ s. (query_place P J i s).within)
    (λ s. subst (λ p. IsPrefix P p.prefix) (sym s.position) (asked_prefix P J most (entry_at J i).parent lawful (omega (arith, bound, s.before)) s.parent))
    (asked_at P J i lawful h)

-- ---- numbers

-- a number for what an entry of this kind stands for, where there are suc f prefixes and suc u lists of universal values:
-- first those of game entries, then those of queries, then those of steps
abbrev code : Problem → ℕ → ℕ → JKind → Position → ℕ
code P f u Game p = place (whole_vars P) p.prefix - 1
code P f u Query p = f + (place (whole_vars P) p.prefix - 1)
code P f u Step p = f + f + (place (whole_vars P) p.prefix * u + (place (universal_vars P) (universal_values P p) - 1))

record AreCounts (P : Problem) (f u : ℕ) : Type 0 where
  pub wholes : suc f ≡ whole_prefixes P
  pub universals : suc u ≡ universal_prefixes P

-- a list that isn't empty has a place among the others that aren't
others_below : (n : ℕ) (xs : List Var) (vs : List ℤ) → suc n ≡ prefix_count xs → HasPlace xs vs → place xs vs - 1 < n
others_below n xs vs e h = omega (arith, e, h.some, place-below xs vs h.within)

others_one : (xs : List Var) (vs ws : List ℤ) → HasPlace xs vs → HasPlace xs ws → place xs vs - 1 ≡ place xs ws - 1 → vs ≡ ws
others_one xs vs ws h k e = place-one xs vs ws h.within k.within (omega (arith, e, h.some, k.some))

step_below : (P : Problem) (f u : ℕ) (J : List JEntry) (i : ℕ) → AreCounts P f u → IsLawful P J → IsParent Step J (suc i) → Stands P J i Step
    → place (whole_vars P) (position_of J (suc i)).prefix * u + (place (universal_vars P) (universal_values P (position_of J (suc i))) - 1) < suc f * u
step_below P f u J i counts lawful h s =
    let p = position_of J (suc i) in
    let asked : place (whole_vars P) p.prefix < suc f = omega (arith, counts.wholes, place-below (whole_vars P) p.prefix (asked_prefix P J (suc i) (suc i) lawful (omega arith) h)) in
    let rows : suc (place (whole_vars P) p.prefix) * u ≤ suc f * u = mul-le-mul_right u asked in
    omega (arith, rows, others_below u (universal_vars P) (universal_values P p) counts.universals (step_place P J i s))

-- ---- which entries may be parents

game_number : (P : Problem) (J : List JEntry) (i : ℕ) → i < length J → Stands P J i Game → IsParent Game J (suc i)
game_number P J i less s = some_at-of (λ e. MayFollow Game e.kind) J i nowhere less s.kind_is

asked_number : (J : List JEntry) (i : ℕ) (kind : JKind) → i < length J → IsAsked kind → (entry_at J i).kind ≡ kind → IsParent Step J (suc i)
asked_number J i kind less asked e = some_at-of (λ d. MayFollow Step d.kind) J i nowhere less (subst (λ k. IsAsked k) (sym e) asked)

-- ---- different entries have different numbers

games_one : (P : Problem) (J : List JEntry) (i j : ℕ) → IsLawful P J → i < length J → j < length J → Stands P J i Game → Stands P J j Game
    → place (whole_vars P) (position_of J (suc i)).prefix - 1 ≡ place (whole_vars P) (position_of J (suc j)).prefix - 1 → i ≡ j
games_one P J i j lawful in_i in_j s t e =
    let p = position_of J (suc i) in
    let q = position_of J (suc j) in
    let prefixes : p.prefix ≡ q.prefix = others_one (whole_vars P) p.prefix q.prefix (game_place P J i s) (game_place P J j t) e in
    let steps : p.steps ≡ q.steps = ap (λ r. r.steps) s.position ∙ sym (ap (λ r. r.steps) t.position) in
    let numbers : suc i ≡ suc j = games_apart P J (suc i) (suc i) (suc j) lawful (omega arith) (game_number P J i in_i s) (game_number P J j in_j t)
    (same_positions p q prefixes steps) in
    omega (arith, numbers)

queries_one : (P : Problem) (J : List JEntry) (i j : ℕ) → IsLawful P J → i < length J → j < length J → Stands P J i Query → Stands P J j Query
    → place (whole_vars P) (position_of J (suc i)).prefix - 1 ≡ place (whole_vars P) (position_of J (suc j)).prefix - 1 → i ≡ j
queries_one P J i j lawful in_i in_j s t e =
    let p = position_of J (suc i) in
    let q = position_of J (suc j) in
    let prefixes : p.prefix ≡ q.prefix = others_one (whole_vars P) p.prefix q.prefix (query_place P J i s) (query_place P J j t) e in
    let steps : p.steps ≡ q.steps = ap (λ r. r.steps) s.position ∙ sym (ap (λ r. r.steps) t.position) in
    let numbers : suc i ≡ suc j = asked_apart P J (suc i) (suc i) (suc j) lawful (omega arith)
    (asked_number J i Query in_i tt s.kind_is) (asked_number J j Query in_j tt t.kind_is) (same_positions p q prefixes steps) in
    omega (arith, numbers)

steps_one : (P : Problem) (f u : ℕ) (J : List JEntry) (i j : ℕ) → AreCounts P f u → IsLawful P J → i < length J → j < length J → Stands P J i Step → Stands P J j Step
    → code P f u Step (position_of J (suc i)) ≡ code P f u Step (position_of J (suc j)) → i ≡ j
steps_one P f u J i j counts lawful in_i in_j s t e =
    let p = position_of J (suc i) in
    let q = position_of J (suc j) in
    let h = asked_number J i Step in_i tt s.kind_is in
    let k = asked_number J j Step in_j tt t.kind_is in
    let s_place = step_place P J i s in
    let t_place = step_place P J j t in
    let both = row-one (place (whole_vars P) p.prefix) (place (universal_vars P) (universal_values P p) - 1) (place (whole_vars P) q.prefix) (place (universal_vars P) (universal_values P q) - 1) u
    (others_below u (universal_vars P) (universal_values P p) counts.universals s_place) (others_below u (universal_vars P) (universal_values P q) counts.universals t_place)
    (omega (arith, e)) in
    let prefixes : p.prefix ≡ q.prefix = place-one (whole_vars P) p.prefix q.prefix
    (asked_prefix P J (suc i) (suc i) lawful (omega arith) h) (asked_prefix P J (suc j) (suc j) lawful (omega arith) k) both.0 in
    let values : universal_values P p ≡ universal_values P q = others_one (universal_vars P) (universal_values P p) (universal_values P q) s_place t_place both.1 in
    let steps : p.steps ≡ q.steps = append_cancel_left (universal_part (whole_vars P) p.prefix) p.steps q.steps
    (values ∙ ap (λ vs. universal_part (whole_vars P) vs ++ q.steps) (sym prefixes)) in
    let numbers : suc i ≡ suc j = asked_apart P J (suc i) (suc i) (suc j) lawful (omega arith) h k (same_positions p q prefixes steps) in
    omega (arith, numbers)

codes_one : (P : Problem) (f u : ℕ) (J : List JEntry) (i j : ℕ) (k l : JKind) → AreCounts P f u → IsLawful P J → i < length J → j < length J → Stands P J i k → Stands P J j l
    → code P f u k (position_of J (suc i)) ≡ code P f u l (position_of J (suc j)) → i ≡ j
codes_one P f u J i j Game Game counts lawful in_i in_j s t e = games_one P J i j lawful in_i in_j s t e
codes_one P f u J i j Game Query counts lawful in_i in_j s t e =
    absurd (omega (arith, e, others_below f (whole_vars P) (position_of J (suc i)).prefix counts.wholes (game_place P J i s)))
codes_one P f u J i j Game Step counts lawful in_i in_j s t e =
    absurd (omega (arith, e, others_below f (whole_vars P) (position_of J (suc i)).prefix counts.wholes (game_place P J i s)))
codes_one P f u J i j Query Game counts lawful in_i in_j s t e =
    absurd (omega (arith, e, others_below f (whole_vars P) (position_of J (suc j)).prefix counts.wholes (game_place P J j t)))
codes_one P f u J i j Query Query counts lawful in_i in_j s t e = queries_one P J i j lawful in_i in_j s t (omega (arith, e))
codes_one P f u J i j Query Step counts lawful in_i in_j s t e =
    absurd (omega (arith, e, others_below f (whole_vars P) (position_of J (suc i)).prefix counts.wholes (query_place P J i s)))
codes_one P f u J i j Step Game counts lawful in_i in_j s t e =
    absurd (omega (arith, e, others_below f (whole_vars P) (position_of J (suc j)).prefix counts.wholes (game_place P J j t)))
codes_one P f u J i j Step Query counts lawful in_i in_j s t e =
    absurd (omega (arith, e, others_below f (whole_vars P) (position_of J (suc j)).prefix counts.wholes (query_place P J j t)))
codes_one P f u J i j Step Step counts lawful in_i in_j s t e = steps_one P f u J i j counts lawful in_i in_j s t e

-- ---- and all are below what is claimed

code_below : (P : Problem) (f u : ℕ) (J : List JEntry) (i : ℕ) (k : JKind) → AreCounts P f u → IsLawful P J → i < length J → Stands P J i k
    → code P f u k (position_of J (suc i)) < f + f + suc f * u
code_below P f u J i Game counts lawful less s = omega (arith, others_below f (whole_vars P) (position_of J (suc i)).prefix counts.wholes (game_place P J i s))
code_below P f u J i Query counts lawful less s = omega (arith, others_below f (whole_vars P) (position_of J (suc i)).prefix counts.wholes (query_place P J i s))
code_below P f u J i Step counts lawful less s = omega (arith, step_below P f u J i counts lawful (asked_number J i Step less tt s.kind_is) s)

-- where nothing is restricted all entries are game entries
code_below_games : (P : Problem) (f u : ℕ) (J : List JEntry) (i : ℕ) (k : JKind) → AreCounts P f u → is_restricted P ≡ false → Stands P J i k
    → code P f u k (position_of J (suc i)) < f
code_below_games P f u J i Game counts free s = others_below f (whole_vars P) (position_of J (suc i)).prefix counts.wholes (game_place P J i s)
code_below_games P f u J i Query counts free s = absurd (let restricted = s.appends.0 in cc)
code_below_games P f u J i Step counts free s = absurd (let restricted = s.appends.0 in cc)

-- different values below a bound for the numbers below n
values_below : (f : ℕ → ℕ) (n bound : ℕ) → ((i : ℕ) → i < n → f i < bound) → ((i j : ℕ) → i < j → j < n → f i ≢ f j) → n ≤ bound
values_below f n bound below apart =
    let values : List ℕ = map f (range_with_len 0 n) in
    let as_many : length values ≡ n = length-map-range_with_len f 0 n in
    let value : (i d : ℕ) → i < n → get_or values i d ≡ f i =
    λ i d less.
    get_or-map f (range_with_len 0 n) i 0 d (omega (arith, less, length-range_with_len 0 n))
    ∙ ap f (omega (arith, get_or-range_with_len 0 n i 0 less)) in
    omega (
      arith,
      as_many,
      length-le_distinct_below values bound
          (λ i j d less within e. apart i j less (omega (arith, within, as_many))
          (sym (value i d (omega (arith, less, within, as_many))) ∙ e ∙ value j d (omega (arith, within, as_many))))
          (λ i d within. subst (λ v. v < bound) (sym (value i d (omega (arith, within, as_many)))) (below i (omega (arith, within, as_many)))),
    )

-- the number of the entry at a place
abbrev code_at : Problem → ℕ → ℕ → List JEntry → ℕ → ℕ
code_at P f u J i = code P f u (entry_at J i).kind (position_of J (suc i))

codes_apart : (P : Problem) (f u : ℕ) (J : List JEntry) → AreCounts P f u → IsLawful P J → (i j : ℕ) → i < j → j < length J → code_at P f u J i ≢ code_at P f u J j
codes_apart P f u J counts lawful i j less within e =
    let in_i : i < length J = omega (arith, less, within) in
    let same : i ≡ j = codes_one P f u J i j (entry_at J i).kind (entry_at J j).kind counts lawful in_i within (stands_at P J i lawful in_i) (stands_at P J j lawful within) e in
    omega (arith, less, same)

length-lawful : (P : Problem) (f u : ℕ) (J : List JEntry) → AreCounts P f u → IsLawful P J → length J ≤ f + f + suc f * u
length-lawful P f u J counts lawful =
    values_below (code_at P f u J) (length J) (f + f + suc f * u)
    (λ i less. code_below P f u J i (entry_at J i).kind counts lawful less (stands_at P J i lawful less)) (codes_apart P f u J counts lawful)

length-lawful_games : (P : Problem) (f u : ℕ) (J : List JEntry) → AreCounts P f u → IsLawful P J → is_restricted P ≡ false → length J ≤ f
length-lawful_games P f u J counts lawful free =
    values_below (code_at P f u J) (length J) f
    (λ i less. code_below_games P f u J i (entry_at J i).kind counts free (stands_at P J i lawful less)) (codes_apart P f u J counts lawful)

counts_of : (P : Problem) → AreCounts P (whole_prefixes P - 1) (universal_prefixes P - 1)
counts_of P = record {
  wholes = omega (arith, prefix_count-some (whole_vars P));
  universals = omega (arith, prefix_count-some (universal_vars P));
}

together : (f u n F FU : ℕ) → suc f ≡ F → suc u ≡ FU → n ≤ f + f + suc f * u → n + 2 ≤ F * (1 + FU)
together f u n F FU e k h =
    let product : F * (1 + FU) ≡ F + (F + F * u) = ap (λ m. F * (1 + m)) (sym k) ∙ omega arith in
    omega (arith, h, product, ap (λ m. m * u) e, e)

pub lawful_short : (P : Problem) (J : List JEntry) → IsLawful P J → length J + 2 ≤ whole_prefixes P * (1 + universal_prefixes P)
lawful_short P J lawful =
    let counts = counts_of P in
    together (whole_prefixes P - 1) (universal_prefixes P - 1) (length J) (whole_prefixes P) (universal_prefixes P) counts.wholes counts.universals
    (length-lawful P (whole_prefixes P - 1) (universal_prefixes P - 1) J counts lawful)

pub lawful_short_games : (P : Problem) (J : List JEntry) → IsLawful P J → is_restricted P ≡ false → length J < whole_prefixes P
lawful_short_games P J lawful free =
    let counts = counts_of P in
    omega (arith, counts.wholes, length-lawful_games P (whole_prefixes P - 1) (universal_prefixes P - 1) J counts lawful free)

below_enough : (P : Problem) (J : List JEntry) (restricted : Bool) → IsLawful P J → is_restricted P ≡ restricted
    → length J < (if restricted then whole_prefixes P * (1 + universal_prefixes P) else whole_prefixes P)
below_enough P J true lawful e = omega (arith, lawful_short P J lawful)
below_enough P J false lawful e = lawful_short_games P J lawful e

pub lawful_below_enough : (P : Problem) (J : List JEntry) → IsLawful P J → length J < enough P
lawful_below_enough P J lawful = below_enough P J (is_restricted P) lawful refl
