-- Where the search begins for a question, and what its answer adds.
use Rattle.std.proofs.Common.{◌≡◌, refl, sym, ap, subst, ◌∙◌, ℕ, zero, suc, ◌+◌, ◌-◌, ◌<◌, true, false, List, [], ◌∷◌, ◌++◌, length, length-append, arith, ℤ, Option, Some, None, IsTrue}
use Rattle.std.specs.Prelude.{IsSomeAnd, filter, slice_get}
use Rattle.std.proofs.lemmas.List.{append-nil}
use Rattle.qm_model.specs.declared.row.Row.{Row}
use Rattle.qm_model.specs.declared.range.Range.{Range}
use Rattle.qm_model.specs.declared.variable.Player.TheVariants.{All as Universal}
use Rattle.qm_model.specs.declared.variable.Var.{Var}
use Rattle.qm_model.specs.declared.game.Problem.{Problem}
use Rattle.qm_model.specs.Legal.{universal_part}
use Rattle.qm_model.specs.Plays.{BeginWithin, is_universal, whole_vars}
use Rattle.qm_model.specs.Sound.{IsSound}
use Rattle.qm_model.proofs.Players.{by_player, is_for_all, not_universal}
use Rattle.qm_journal.specs.declared.entry.JEntry.{JEntry}
use Rattle.qm_journal.specs.declared.entry.JKind.TheVariants.{Game, Query}
use Rattle.qm_journal.specs.Contents.{Contents}
use Rattle.qm_journal.specs.Lawful.{IsAlivePlay, IsLawful, has_rows, is_restricted}
use Rattle.qm_journal.specs.Positions.{IsParent, position_of}
use Rattle.qm_journal.specs.Questions.{IsNewQuestion, MayAdd, WentOn, named_prefix}
use Rattle.qm_journal.proofs.Apart.{game_at, query_parent}
use Rattle.qm_journal.proofs.Counting.{game_prefix}
use Rattle.qm_journal.proofs.Entries.{entry_at}
use Rattle.qm_journal.proofs.Growing.{position_of-start}
use Rattle.qm_legal.specs.declared.named.NamedPrefix.{NamedPrefix}
use Rattle.qm_legal.specs.Queries.{IsQueryOf}
use Rattle.qm_legal.specs.JournalSteps.{Answered, Grown, IsAdded, IsOpenBox, IsSearched, query_of, query_of_value}
use Rattle.qm_legal.proofs.AlivePlays.{alive_play}

-- ---- prefixes

-- one value more is within bounds where the universal values are
within_with : (xs : List Var) (prefix : List ℤ) (v : ℤ) → IsSomeAnd (slice_get xs (length prefix)) (λ x. x.player ≡ Universal) → BeginWithin xs prefix
    → BeginWithin (filter is_universal xs) (universal_part xs (prefix ++ v ∷ [])) → BeginWithin xs (prefix ++ v ∷ [])
within_with [] [] v turn before play = absurd turn
within_with [] (p ∷ prefix) v turn before play = absurd turn
within_with (x ∷ xs) [] v turn before play = ((rw (is_for_all x turn) at play).0, nothing xs)
  where
    nothing : (xs : List Var) → BeginWithin xs []
    nothing [] = tt
    nothing (x ∷ xs) = tt
within_with (x ∷ xs) (p ∷ prefix) v turn before play = (
  before.0,
  by_player x (BeginWithin xs (prefix ++ v ∷ []))
      (λ existential. within_with xs prefix v turn before.1 (rw (not_universal x existential) at play))
      (λ universal. within_with xs prefix v turn before.1 (rw (is_for_all x universal) at play).1),
)

-- what may have a game entry may have a query
pub query_of_game : (J : List JEntry) (n : ℕ) → IsParent Game J n → IsParent Query J n
query_of_game J zero h = tt
query_of_game J (suc b) h = h

-- the parent of an entry stands before it, and its prefix is one value shorter
pub record IsStepBack (J : List JEntry) (at parent : ℕ) : Type 0 where
  pub again : IsParent Query J parent
  pub before : parent < at
  pub longer : length (position_of J at).prefix ≡ length (position_of J parent).prefix + 1

step_back-at : (P : Problem) (J : List JEntry) (i : ℕ) → IsLawful P J → IsParent Query J (suc i) → IsStepBack J (suc i) (entry_at J i).parent
step_back-at P J i lawful parent =
    let here = game_at P J i lawful (query_parent J (suc i) parent) in
    record {
      again = query_of_game J (entry_at J i).parent here.parent;
      before = omega (arith, here.before);
      longer = ap (λ p. length p.prefix) here.position ∙ length-append (position_of J (entry_at J i).parent).prefix ((entry_at J i).value ∷ []);
    }

pub step_back : (P : Problem) (J : List JEntry) (at : ℕ) → IsLawful P J → IsParent Query J at → 0 < at → IsStepBack J at (entry_at J (at - 1)).parent
step_back P J zero lawful parent some = absurd (omega (arith, some))
step_back P J (suc i) lawful parent some =
    let down : suc i - 1 ≡ i = omega arith in
    rw down (step_back-at P J i lawful parent)

pub no_prefix : (J : List JEntry) → length (position_of J 0).prefix ≡ 0
no_prefix J = ap (λ p. length p.prefix) (position_of-start J)

-- ---- restrictions

pub has_rows_at : (rows : List Row) (n : ℕ) (D : Row → Type 0) → IsSomeAnd (slice_get rows n) D → IsTrue (has_rows rows)
has_rows_at [] n D some = absurd some
has_rows_at (row ∷ rows) n D some = refl

pub restricted_by : (P : Problem) → IsTrue (has_rows P.urows) → IsTrue (is_restricted P)
restricted_by P rows = rw rows refl

-- ---- where the search begins

module _ (P : Problem) (sound : IsSound P) (J : Contents) (lawful : IsLawful P J.entries) (restricted : IsTrue (is_restricted P)) where
  begins_by : (parent : ℕ) (value : Option ℤ) (bx : List Range) → IsNewQuestion P J.entries parent value → IsQueryOf P (named_prefix J.entries parent value) bx
      → IsOpenBox P (length (named_prefix J.entries parent value)) bx → IsSearched P (length (named_prefix J.entries parent value)) bx J (query_of_value parent value)
  begins_by parent None bx new query box = record {
    box = box;
    lawful = lawful;
    restricted = restricted;
    stands = (query.values ∙ nothing (whole_vars P), new.1);
  }
    where
      nothing : (xs : List Var) → universal_part xs [] ≡ []
      nothing [] = refl
      nothing (x ∷ xs) = refl
  begins_by parent (Some v) bx new query box =
      let prefix = (position_of J.entries parent).prefix in
      let play : IsAlivePlay P (universal_part (whole_vars P) (prefix ++ v ∷ [])) = subst (IsAlivePlay P) query.values (alive_play P sound (length (prefix ++ v ∷ [])) bx box) in
      let before = game_prefix P J.entries parent lawful (query_parent J.entries parent new.0) in
      record {
        box = box;
        lawful = lawful;
        restricted = restricted;
        stands = (
          record {
            parent = new.0;
            new = new.2;
            appends = (restricted, record { turn = new.1; within = within_with (whole_vars P) prefix v new.1 before play.within; alive = play });
          },
          tt,
          append-nil (universal_part (whole_vars P) (prefix ++ v ∷ [])) ∙ sym query.values,
        );
      }

  pub begins : (named : NamedPrefix) (depth : ℕ) (bx : List Range) → depth ≡ length (named_prefix J.entries named.parent named.value) → IsNewQuestion P J.entries named.parent named.value
      → IsQueryOf P (named_prefix J.entries named.parent named.value) bx → IsOpenBox P depth bx → IsSearched P depth bx J (query_of named)
  begins named depth bx is new query box =
      subst (λ n. IsSearched P n bx J (query_of named)) (sym is) (begins_by named.parent named.value bx new query (subst (λ n. IsOpenBox P n bx) is box))

-- ---- what is added

may_add : (J : List JEntry) (parent : ℕ) (value : Option ℤ) (added : List JEntry) → IsAdded (query_of_value parent value) J added → MayAdd J parent value added
may_add J parent None added h = h
may_add J parent (Some v) [] h = tt
may_add J parent (Some v) (d ∷ steps) h = h

went_on_with : (parent : ℕ) (value : Option ℤ) (J : List JEntry) → WentOn parent value J J
went_on_with parent value J = record { added = []; behind = sym (append-nil J); may = nothing value }
  where
    nothing : (value : Option ℤ) → MayAdd J parent value []
    nothing None = λ k d h. absurd (omega (arith, h))
    nothing (Some v) = tt

module _ (P : Problem) (named : NamedPrefix) (J K : Contents) where
  -- by a search
  pub answered_by : IsTrue (is_restricted P) → Grown P (IsAdded (query_of named) J.entries) J K → Answered P named J K
  answered_by restricted g = record {
    went_on = record { added = g.added; behind = g.behind; may = may_add J.entries named.parent named.value g.added g.such };
    lawful = g.lawful;
    limit = g.limit;
    unrestricted = λ free. absurd (let both : true ≡ false = sym restricted ∙ free in cc);
  }

  -- without one
  pub answered_at_once : IsLawful P J.entries → K ≡ J → Answered P named J K
  answered_at_once lawful same = subst (Answered P named J) (sym same) (record {
    went_on = went_on_with named.parent named.value J.entries;
    lawful = lawful;
    limit = refl;
    unrestricted = λ free. refl;
  })
