-- A legal prefix goes on, and one that wins has a complete legal extension that wins.
use Rattle.std.proofs.Common.{◌≡◌, Bool, true, false, List, [], ◌∷◌, ◌++◌, length, ◌≤◌, suc, arith, drop, refl, sym, ap, subst, ◌∙◌, append-nil, append_assoc, ℤ}
use Rattle.std.specs.Prelude.{filter, if◌then◌else◌}
use Rattle.std.proofs.lemmas.List.{length-append, drop-drop}
use Rattle.qm_model.specs.declared.variable.Player.TheVariants.{Exists, All as Universal}
use Rattle.qm_model.specs.declared.variable.Var.{Var}
use Rattle.qm_model.specs.declared.game.Problem.{Problem}
use Rattle.qm_model.specs.Goals.{Goal}
use Rattle.qm_model.specs.Plays.{AreWithin, BeginWithin, IsPlay, IsWithin, is_universal, universal_vars, whole_vars}
use Rattle.qm_model.specs.Legal.{IsLegal, universal_part}
use Rattle.qm_model.specs.Wins.{WinsAtEnd, WinsFrom}
use Rattle.qm_model.proofs.Players.{by_player, is_for_all, not_universal}
use Rattle.qm_model.proofs.Legality.{legal_of_play, parts_within, play_of_legal}

-- ---- the universal values of a prefix with one more value

pub universal_part-none : (xs : List Var) → universal_part xs [] ≡ []
universal_part-none [] = refl
universal_part-none (x ∷ xs) = refl

-- a value behind the others counts where its variable is universal
universal_part-push : (xs : List Var) (vs : List ℤ) (x : Var) (later : List Var) (v : ℤ) → drop (length vs) xs ≡ x ∷ later
    → universal_part xs (vs ++ v ∷ []) ≡ universal_part xs vs ++ (if is_universal x then v ∷ [] else [])
universal_part-push [] [] x later v e = cc
universal_part-push [] (u ∷ vs) x later v e = cc
universal_part-push (y ∷ xs) [] x later v e =
    let same : y ≡ x = cc in
    rw (same, universal_part-none xs) refl
universal_part-push (y ∷ xs) (u ∷ vs) x later v e = by (is_universal y) (universal_part-push xs vs x later v e)
  where
    more : List ℤ
    more = if is_universal x then v ∷ [] else []

    by : (b : Bool) → universal_part xs (vs ++ v ∷ []) ≡ universal_part xs vs ++ more
        → (if b then u ∷ universal_part xs (vs ++ v ∷ []) else universal_part xs (vs ++ v ∷ [])) ≡ (if b then u ∷ universal_part xs vs else universal_part xs vs) ++ more
    by true h = ap (λ us. u ∷ us) h
    by false h = h

-- the universal variables behind the values of a prefix
universal_part-rest : (xs : List Var) (vs : List ℤ) → drop (length (universal_part xs vs)) (filter is_universal xs) ≡ filter is_universal (drop (length vs) xs)
universal_part-rest [] [] = refl
universal_part-rest [] (v ∷ vs) = refl
universal_part-rest (x ∷ xs) [] = refl
universal_part-rest (x ∷ xs) (v ∷ vs) = by (is_universal x) (universal_part-rest xs vs)
  where
    by : (b : Bool) → drop (length (universal_part xs vs)) (filter is_universal xs) ≡ filter is_universal (drop (length vs) xs)
        → drop (length (if b then v ∷ universal_part xs vs else universal_part xs vs)) (if b then x ∷ filter is_universal xs else filter is_universal xs) ≡ filter is_universal (drop (length vs) xs)
    by true h = h
    by false h = h

module _ (P : Problem) (prefix : List ℤ) (x : Var) (later : List Var) (next : drop (length prefix) (whole_vars P) ≡ x ∷ later) where
  pub universal_part-existential : (v : ℤ) → x.player ≡ Exists → universal_part (whole_vars P) (prefix ++ v ∷ []) ≡ universal_part (whole_vars P) prefix
  universal_part-existential v existential =
      universal_part-push (whole_vars P) prefix x later v next
      ∙ ap (λ (b : Bool). universal_part (whole_vars P) prefix ++ (if b then v ∷ [] else [])) (not_universal x existential)
      ∙ append-nil (universal_part (whole_vars P) prefix)

  pub universal_part-universal : (v : ℤ) → x.player ≡ Universal → universal_part (whole_vars P) (prefix ++ v ∷ []) ≡ universal_part (whole_vars P) prefix ++ v ∷ []
  universal_part-universal v universal =
      universal_part-push (whole_vars P) prefix x later v next
      ∙ ap (λ (b : Bool). universal_part (whole_vars P) prefix ++ (if b then v ∷ [] else [])) (is_for_all x universal)

  -- the universal variables that have no value yet, at a universal variable
  pub rest-universal : x.player ≡ Universal → drop (length (universal_part (whole_vars P) prefix)) (universal_vars P) ≡ x ∷ filter is_universal later
  rest-universal universal =
      universal_part-rest (whole_vars P) prefix
      ∙ ap (filter is_universal) next
      ∙ ap (λ (b : Bool). if b then x ∷ filter is_universal later else filter is_universal later) (is_for_all x universal)

  -- any value of an existential variable keeps the prefix legal
  pub legal_with_any : (v : ℤ) → x.player ≡ Exists → IsLegal P prefix → IsLegal P (prefix ++ v ∷ [])
  legal_with_any v existential legal =
      let play = play_of_legal P prefix legal in
      legal_of_play P (prefix ++ v ∷ []) (record { rest = play.rest; is_play = rw (universal_part-existential v existential) play.is_play })

  -- the value of a play that goes on keeps the prefix legal
  pub legal_with_play : (v : ℤ) (rest : List ℤ) → x.player ≡ Universal → IsPlay P (universal_part (whole_vars P) prefix ++ v ∷ rest) → IsLegal P (prefix ++ v ∷ [])
  legal_with_play v rest universal play =
      let us = universal_part (whole_vars P) prefix in
      let same : universal_part (whole_vars P) (prefix ++ v ∷ []) ++ rest ≡ us ++ v ∷ rest =
      ap (λ ws. ws ++ rest) (universal_part-universal v universal) ∙ append_assoc us (v ∷ []) rest in
      legal_of_play P (prefix ++ v ∷ []) (record { rest = rest; is_play = rw same play })

  -- some value of a universal variable keeps the prefix legal
  pub legal_with_some : x.player ≡ Universal → IsLegal P prefix → (v : ℤ) × IsWithin x v × IsLegal P (prefix ++ v ∷ [])
  legal_with_some universal legal =
      let play = play_of_legal P prefix legal in
      let us = universal_part (whole_vars P) prefix in
      let parts = parts_within (universal_vars P) us play.rest play.is_play.within in
      by play.rest (subst (λ xs. AreWithin xs play.rest) (rest-universal universal) parts.1) play.is_play
    where
      by : (rest : List ℤ) → AreWithin (x ∷ filter is_universal later) rest → IsPlay P (universal_part (whole_vars P) prefix ++ rest)
          → (v : ℤ) × IsWithin x v × IsLegal P (prefix ++ v ∷ [])
      by [] within is_play = absurd within
      by (v ∷ rest) within is_play = (v, within.0, legal_with_play v rest universal is_play)

-- ---- values within bounds

pub BeginWithin-long : (xs : List Var) (vs : List ℤ) → BeginWithin xs vs → length vs ≤ length xs
BeginWithin-long xs [] h = omega arith
BeginWithin-long [] (v ∷ vs) h = absurd h
BeginWithin-long (x ∷ xs) (v ∷ vs) h = omega (arith, BeginWithin-long xs vs h.1)

pub AreWithin-long : (xs : List Var) (vs : List ℤ) → AreWithin xs vs → length vs ≡ length xs
AreWithin-long [] [] h = refl
AreWithin-long [] (v ∷ vs) h = absurd h
AreWithin-long (x ∷ xs) [] h = absurd h
AreWithin-long (x ∷ xs) (v ∷ vs) h = ap suc (AreWithin-long xs vs h.1)

pub BeginWithin-all : (xs : List Var) (vs : List ℤ) → AreWithin xs vs → BeginWithin xs vs
BeginWithin-all [] [] h = tt
BeginWithin-all [] (v ∷ vs) h = absurd h
BeginWithin-all (x ∷ xs) [] h = absurd h
BeginWithin-all (x ∷ xs) (v ∷ vs) h = (h.0, BeginWithin-all xs vs h.1)

pub BeginWithin-push : (xs : List Var) (vs : List ℤ) (x : Var) (later : List Var) (v : ℤ) → drop (length vs) xs ≡ x ∷ later → BeginWithin xs vs → IsWithin x v
    → BeginWithin xs (vs ++ v ∷ [])
BeginWithin-push [] [] x later v e h w = cc
BeginWithin-push [] (u ∷ vs) x later v e h w = absurd h
BeginWithin-push (y ∷ xs) [] x later v e h w =
    let same : y ≡ x = cc in
    (subst (λ z. IsWithin z v) (sym same) w, tt)
BeginWithin-push (y ∷ xs) (u ∷ vs) x later v e h w = (h.0, BeginWithin-push xs vs x later v e h.1 w)

-- the variables behind one more value
pub next_later : (P : Problem) (prefix : List ℤ) (x : Var) (later : List Var) (v : ℤ) → drop (length prefix) (whole_vars P) ≡ x ∷ later
    → drop (length (prefix ++ v ∷ [])) (whole_vars P) ≡ later
next_later P prefix x later v next =
    ap (λ n. drop n (whole_vars P)) (length-append prefix (v ∷ [])) ∙ sym (drop-drop 1 (length prefix) (whole_vars P)) ∙ ap (drop 1) next

-- ---- moves that win

-- a move that wins: a value within bounds, with which the prefix is legal and wins
pub record WinningMove (P : Problem) (G : Goal) (x : Var) (later : List Var) (prefix : List ℤ) : Type 0 where
  pub value : ℤ
  pub within : IsWithin x value
  pub legal : IsLegal P (prefix ++ value ∷ [])
  pub wins : WinsFrom P G later (prefix ++ value ∷ [])

-- what wins against every legal value of a universal variable wins against each of them
pub wins_against : (P : Problem) (G : Goal) (x : Var) (later : List Var) (prefix : List ℤ) (v : ℤ) → x.player ≡ Universal → WinsFrom P G (x ∷ later) prefix
    → IsWithin x v → IsLegal P (prefix ++ v ∷ []) → WinsFrom P G later (prefix ++ v ∷ [])
wins_against P G x later prefix v universal wins within legal =
    let answers : (v : ℤ) → IsWithin x v → IsLegal P (prefix ++ v ∷ []) → WinsFrom P G later (prefix ++ v ∷ []) = rw universal at wins in
    answers v within legal

pub winning_move : (P : Problem) (G : Goal) (x : Var) (later : List Var) (prefix : List ℤ) → drop (length prefix) (whole_vars P) ≡ x ∷ later
    → IsLegal P prefix → WinsFrom P G (x ∷ later) prefix → WinningMove P G x later prefix
winning_move P G x later prefix next legal wins =
    by_player x (WinningMove P G x later prefix)
    (λ existential.
    let move : (v : ℤ) × IsWithin x v × WinsFrom P G later (prefix ++ v ∷ []) = rw existential at wins in
    record { value = move.0; within = move.1; legal = legal_with_any P prefix x later next move.0 existential legal; wins = move.2 })
    (λ universal.
    let move = legal_with_some P prefix x later next universal legal in
    record { value = move.0; within = move.1; legal = move.2; wins = wins_against P G x later prefix move.0 universal wins move.1 move.2 })

-- ---- a complete extension

-- values for the variables left, within bounds, with which the prefix is legal and wins
pub record WinningRest (P : Problem) (G : Goal) (xs : List Var) (prefix : List ℤ) : Type 0 where
  pub rest : List ℤ
  pub within : AreWithin xs rest
  pub legal : IsLegal P (prefix ++ rest)
  pub wins : WinsAtEnd P (prefix ++ rest) G

with_first : (P : Problem) (G : Goal) (x : Var) (later : List Var) (prefix : List ℤ) (v : ℤ) → IsWithin x v → WinningRest P G later (prefix ++ v ∷ []) → WinningRest P G (x ∷ later) prefix
with_first P G x later prefix v within more =
    let same : (prefix ++ v ∷ []) ++ more.rest ≡ prefix ++ v ∷ more.rest = append_assoc prefix (v ∷ []) more.rest in
    record {
      rest = v ∷ more.rest;
      within = (within, more.within);
      legal = subst (IsLegal P) same more.legal;
      wins = subst (λ vs. WinsAtEnd P vs G) same more.wins;
    }

pub winning_rest : (P : Problem) (G : Goal) (xs : List Var) (prefix : List ℤ) → drop (length prefix) (whole_vars P) ≡ xs → IsLegal P prefix → WinsFrom P G xs prefix → WinningRest P G xs prefix
winning_rest P G [] prefix next legal wins = record {
  rest = [];
  within = tt;
  legal = rw (append-nil prefix) legal;
  wins = rw (append-nil prefix) wins;
}
winning_rest P G (x ∷ xs) prefix next legal wins =
    let move = winning_move P G x xs prefix next legal wins in
    with_first P G x xs prefix move.value move.within
    (winning_rest P G xs (prefix ++ move.value ∷ []) (next_later P prefix x xs move.value next) move.legal move.wins)
