-- The test of a prefix passes exactly where some universal play agrees with it.
use Rattle.std.proofs.Common.{◌≡◌, true, List, [], ◌∷◌, ◌++◌, length, get_or, drop, All, refl, sym, subst, append-nil, append_assoc, ℤ}
use Rattle.std.specs.Prelude.{◌&&◌, int_le}
use Rattle.std.specs.List.{list_all}
use Rattle.std.proofs.lemmas.Bool.{and_from, and_parts}
use Rattle.std.proofs.lemmas.List.Sums.{AllPass-from_list_all, list_all-from_AllPass}
use Rattle.qm_math.proofs.Searches.{some_between_found, some_between_holds}
use Rattle.qm_math.proofs.WholeTests.{le_of_test, test_of_le}
use Rattle.qm_model.specs.declared.variable.Var.{Var}
use Rattle.qm_model.specs.declared.game.Problem.{Problem}
use Rattle.qm_model.specs.Linear.{form}
use Rattle.qm_model.specs.Plays.{AreWithin, BeginWithin, HoldsAt, spread, universal_vars, whole_vars}
use Rattle.qm_model.specs.Legal.{AgreesWithPlay, IsLegal, begin_within, can_complete, holds_at, is_legal, universal_part}

-- the bounds of the first values, as a test and as a fact
within_of_test : (xs : List Var) (us : List ℤ) → begin_within xs us ≡ true → BeginWithin xs us
within_of_test xs [] e = tt
within_of_test [] (u ∷ us) e = cc
within_of_test (x ∷ xs) (u ∷ us) e =
    let outer = and_parts (int_le x.low u && int_le u x.high) (begin_within xs us) e in
    let inner = and_parts (int_le x.low u) (int_le u x.high) outer.0 in
    ((le_of_test x.low u inner.0, le_of_test u x.high inner.1), within_of_test xs us outer.1)

test_of_within : (xs : List Var) (us : List ℤ) → BeginWithin xs us → begin_within xs us ≡ true
test_of_within xs [] h = refl
test_of_within [] (u ∷ us) h = absurd h
test_of_within (x ∷ xs) (u ∷ us) h =
    and_from (int_le x.low u && int_le u x.high) (begin_within xs us)
    (and_from (int_le x.low u) (int_le u x.high) (test_of_le x.low u h.0.0) (test_of_le u x.high h.0.1))
    (test_of_within xs us h.1)

-- values of all variables are values of the first ones and of the others
pub parts_within : (xs : List Var) (us rest : List ℤ) → AreWithin xs (us ++ rest) → BeginWithin xs us × AreWithin (drop (length us) xs) rest
parts_within xs [] rest h = (tt, h)
parts_within [] (u ∷ us) rest h = absurd h
parts_within (x ∷ xs) (u ∷ us) rest h =
    let later = parts_within xs us rest h.1 in
    ((h.0, later.0), later.1)

pub both_within : (xs : List Var) (us rest : List ℤ) → BeginWithin xs us → AreWithin (drop (length us) xs) rest → AreWithin xs (us ++ rest)
both_within xs [] rest h k = k
both_within [] (u ∷ us) rest h k = absurd h
both_within (x ∷ xs) (u ∷ us) rest h k = (h.0, both_within xs us rest h.1 k)

module _ (P : Problem) where
  abbrev pub MeetUncertainty : List ℤ → Type 0
  MeetUncertainty us = All (HoldsAt (spread (whole_vars P) us)) P.urows

  -- values that complete the given ones
  pub record Completion (xs : List Var) (us : List ℤ) : Type 0 where
    pub rest : List ℤ
    pub within : AreWithin xs rest
    pub rows : MeetUncertainty (us ++ rest)

  rows_of_test : (us : List ℤ) → list_all (holds_at (spread (whole_vars P) us)) P.urows ≡ true → MeetUncertainty us
  rows_of_test us e = λ k d h.
      le_of_test (form (get_or P.urows k d).terms (spread (whole_vars P) us)) (get_or P.urows k d).right
      (AllPass-from_list_all (holds_at (spread (whole_vars P) us)) P.urows e k d h)

  test_of_rows : (us : List ℤ) → MeetUncertainty us → list_all (holds_at (spread (whole_vars P) us)) P.urows ≡ true
  test_of_rows us rows =
      list_all-from_AllPass (holds_at (spread (whole_vars P) us)) P.urows
      (λ k d h. test_of_le (form (get_or P.urows k d).terms (spread (whole_vars P) us)) (get_or P.urows k d).right (rows k d h))

  completion_of_test : (xs : List Var) (us : List ℤ) → can_complete P xs us ≡ true → Completion xs us
  completion_of_test [] us e = record { rest = []; within = tt; rows = rw (append-nil us) (rows_of_test us e) }
  completion_of_test (x ∷ xs) us e =
      let found = some_between_found (λ v. can_complete P xs (us ++ v ∷ [])) x.low x.high e in
      let later = completion_of_test xs (us ++ found.0 ∷ []) found.2 in
      record {
        rest = found.0 ∷ later.rest;
        within = (found.1, later.within);
        rows = subst MeetUncertainty (append_assoc us (found.0 ∷ []) later.rest) later.rows;
      }

  test_of_completion : (xs : List Var) (us rest : List ℤ) → AreWithin xs rest → MeetUncertainty (us ++ rest) → can_complete P xs us ≡ true
  test_of_completion [] us [] within rows = test_of_rows us (subst MeetUncertainty (append-nil us) rows)
  test_of_completion [] us (v ∷ rest) within rows = absurd within
  test_of_completion (x ∷ xs) us [] within rows = absurd within
  test_of_completion (x ∷ xs) us (v ∷ rest) within rows =
      some_between_holds (λ w. can_complete P xs (us ++ w ∷ [])) x.low x.high v within.0
      (test_of_completion xs (us ++ v ∷ []) rest within.1 (subst MeetUncertainty (sym (append_assoc us (v ∷ []) rest)) rows))

pub play_of_legal : (P : Problem) (prefix : List ℤ) → IsLegal P prefix → AgreesWithPlay P prefix
unfolding is_legal
play_of_legal P prefix e =
    let us = universal_part (whole_vars P) prefix in
    let parts = and_parts (begin_within (universal_vars P) us) (can_complete P (drop (length us) (universal_vars P)) us) e in
    let more = completion_of_test P (drop (length us) (universal_vars P)) us parts.1 in
    record {
      rest = more.rest;
      is_play = record {
        within = both_within (universal_vars P) us more.rest (within_of_test (universal_vars P) us parts.0) more.within;
        rows = more.rows;
      };
    }

pub legal_of_play : (P : Problem) (prefix : List ℤ) → AgreesWithPlay P prefix → IsLegal P prefix
unfolding is_legal
legal_of_play P prefix play =
    let us = universal_part (whole_vars P) prefix in
    let parts = parts_within (universal_vars P) us play.rest play.is_play.within in
    and_from (begin_within (universal_vars P) us) (can_complete P (drop (length us) (universal_vars P)) us)
    (test_of_within (universal_vars P) us parts.0)
    (test_of_completion P (drop (length us) (universal_vars P)) us play.rest parts.1 play.is_play.rows)
