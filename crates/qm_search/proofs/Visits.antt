-- The steps of a visit: to a value behind its prefix, below that value, and on to the next.
use Rattle.std.proofs.Common.{◌≡◌, ℕ, suc, ◌+◌, ◌<◌, true, false, List, [], ◌∷◌, ◌++◌, get_or, arith, drop, length, set, refl, sym, subst, ap, ◌∙◌, ℤ, pos, ◌+ℤ◌, ◌-ℤ◌, ◌≤ℤ◌, ◌<ℤ◌}
use Rattle.std.proofs.lemmas.Int.{ints}
use Rattle.qm_math.specs.Ranges.{IsBetween}
use Rattle.qm_model.specs.declared.range.Range.{Range}
use Rattle.qm_model.specs.declared.variable.Player.TheVariants.{Exists, All as Universal}
use Rattle.qm_model.specs.declared.variable.Var.{Var}
use Rattle.qm_model.specs.declared.game.Problem.{Problem}
use Rattle.qm_model.specs.Plays.{is_universal, whole_vars}
use Rattle.qm_model.specs.Ranges.{range_at, single}
use Rattle.qm_model.proofs.Players.{exists_of, universal_of}
use Rattle.qm_game.proofs.NextVariables.{next_in_box}
use Rattle.qm_journal.specs.declared.entry.JEntry.{JEntry}
use Rattle.qm_journal.specs.Contents.{Contents}
use Rattle.qm_journal.specs.Lawful.{IsLawfulWith}
use Rattle.qm_legal.specs.SearchSteps.{SetsNext}
use Rattle.qm_search.specs.declared.state.Search.{Search}
use Rattle.qm_search.specs.Entering.{IsEnterable, MayHold}
use Rattle.qm_search.specs.JudgeSteps.{MayBeVisited}
use Rattle.qm_search.specs.PartSteps.{IsStart}
use Rattle.qm_search.specs.PlaceSteps.{AreEntered, IsSearchBox, IsSearchPlace, prefix_before}
use Rattle.qm_search.specs.VisitSteps.{CompletesNext, IsNewPlace, IsNewValuePlace, IsRunPlace, IsUntried, IsValuePlace, IsVisitPlace, Moved, StandsFor, WentAmong, WentAt, WentAsked, WentBelow, game_entry}
use Rattle.qm_search.proofs.EnteredJournals.{lawful_entered, new_untried, parent_within, stands_after_at, stands_after_below, stands_new}
use Rattle.qm_search.proofs.JournalGoesOn.{among_below, among_nowhere, among_then, at_nowhere, at_then, below_then, entered_at, others_untried, went_wider}
use Rattle.qm_search.proofs.OpenBoxes.{enterable, entered_more, entered_set, legal_here, prefix_push}
use Rattle.qm_search.proofs.SearchBoxes.{next_box}

-- ---- on from value to value

-- all values behind a prefix that was entered can be tried
pub run_place : (P : Problem) (depth : ℕ) (search : Search) (entry : ℕ) (completion : List ℤ) (start : ℤ) → IsVisitPlace P depth search entry completion → IsStart (range_at search.bx depth) start
    → IsRunPlace P depth search entry completion (record { low = start; high = (range_at search.bx depth).high })
run_place P depth search entry completion start place is = record {
  place = place.place;
  entered = place.entered;
  lawful = place.lawful;
  stands = place.stands;
  within = λ v between. (omega (arith, ints, is.from, between.0), between.1);
  untried = λ v between. place.untried v;
}

module _ (P : Problem) (depth : ℕ) (old now : Search) (entry : ℕ) (place : StandsFor old.journal.entries entry (prefix_before depth old.bx)) (low next : ℤ)
    (moved : Moved P (WentAmong entry low next) old now) where
  -- the prefix's entry still stands for it
  stands_now : StandsFor now.journal.entries entry (prefix_before depth now.bx)
  stands_now =
      subst (λ bx. StandsFor now.journal.entries entry (prefix_before depth bx)) (sym moved.same)
      (stands_after_below old.journal.entries now.journal.entries entry (prefix_before depth old.bx) entry place (among_below entry low next old.journal.entries now.journal.entries moved.went))

  untried_now : (v : ℤ) → (low ≤ℤ v → v <ℤ next → ⊥) → IsUntried old.journal.entries entry v → IsUntried now.journal.entries entry v
  untried_now v other untried =
      others_untried entry low next v old.journal.entries now.journal.entries untried other (parent_within old.journal.entries entry (prefix_before depth old.bx) place) moved.went

  pub moved_below : Moved P (WentBelow entry) old now
  moved_below = record { same = moved.same; limit = moved.limit; lawful = moved.lawful; went = among_below entry low next old.journal.entries now.journal.entries moved.went }

  pub moved_all : (more : ℤ) → ((v : ℤ) → low ≤ℤ v → v <ℤ next → v <ℤ more) → Moved P (WentAmong entry low more) old now
  moved_all more wider = record { same = moved.same; limit = moved.limit; lawful = moved.lawful; went = went_wider entry low next more old.journal.entries now.journal.entries wider moved.went }

module _ (P : Problem) (depth : ℕ) (old now : Search) (entry : ℕ) (completion : List ℤ) (values : Range) (place : IsRunPlace P depth old entry completion values) (v : ℤ)
    (moved : Moved P (WentAmong entry values.low v) old now) where
  pub value_place : IsBetween values.low values.high v → IsNewValuePlace P depth now entry v
  value_place between =
      let untried = untried_now P depth old now entry place.stands values.low v moved v (λ from less. absurd (omega (arith, ints, less))) (place.untried v between) in
      record {
        value = record {
          box = subst (IsSearchBox P depth) (sym moved.same) place.place.box;
          within = subst (λ bx. IsBetween (range_at bx depth).low (range_at bx depth).high v) (sym moved.same) (place.within v between);
          entered = subst (AreEntered P (depth + 1)) (sym moved.same) place.entered;
          lawful = moved.lawful;
          stands = stands_now P depth old now entry place.stands values.low v moved;
          untried = untried.game;
        };
        query = untried.query;
      }

  pub moved_on : (next : Search) → values.low ≤ℤ v → Moved P (WentAt entry v) now next → Moved P (WentAmong entry values.low (v +ℤ pos 1)) old next
  moved_on next from on = record {
    same = on.same ∙ moved.same;
    limit = on.limit ∙ moved.limit;
    lawful = on.lawful;
    went = among_then entry values.low v old.journal.entries now.journal.entries next.journal.entries from moved.went on.went;
  }

  -- so one of the values was tried
  pub tried_one : (next : Search) → IsBetween values.low values.high v → Moved P (WentAt entry v) now next → Moved P (WentAmong entry values.low (values.high +ℤ pos 1)) old next
  tried_one next between on =
      moved_all P depth old next entry place.stands values.low (v +ℤ pos 1) (moved_on next between.0 on) (values.high +ℤ pos 1) (λ w above below. omega (arith, ints, below, between.1))

-- nothing has moved yet
pub moved_nowhere : (P : Problem) (depth : ℕ) (search : Search) (entry : ℕ) (completion : List ℤ) (values : Range) → IsRunPlace P depth search entry completion values → Moved P (WentAmong entry values.low values.low) search search
moved_nowhere P depth search entry completion values place = record {
  same = refl;
  limit = refl;
  lawful = place.lawful;
  went = among_nowhere entry values.low values.low search.journal.entries;
}

-- the values before those that were tried can be tried next
pub run_before : (P : Problem) (depth : ℕ) (old now : Search) (entry : ℕ) (completion : List ℤ) (start next : ℤ) → IsVisitPlace P depth old entry completion → IsStart (range_at old.bx depth) start
    → Moved P (WentAmong entry start next) old now → IsRunPlace P depth now entry completion (record { low = (range_at now.bx depth).low; high = start -ℤ pos 1 })
run_before P depth old now entry completion start next place is moved = record {
  place = subst (λ bx. IsSearchPlace P depth bx completion) (sym moved.same) place.place;
  entered = subst (AreEntered P (depth + 1)) (sym moved.same) place.entered;
  lawful = moved.lawful;
  stands = stands_now P depth old now entry place.stands start next moved;
  within = λ v between.
      let same : range_at now.bx depth ≡ range_at old.bx depth = ap (λ bx. range_at bx depth) moved.same in
      let low = ap (λ (r : Range). r.low) same in
      let high = ap (λ (r : Range). r.high) same in
      let some : (range_at old.bx depth).low <ℤ start = omega (arith, ints, between.0, between.1, low) in
      (between.0, omega (arith, ints, between.1, high, is.within some));
  untried = λ v between. untried_now P depth old now entry place.stands start next moved v (λ from less. absurd (omega (arith, ints, from, between.1))) (place.untried v);
}

-- on below the entry
pub moved_further : (P : Problem) (entry : ℕ) (old now next : Search) → Moved P (WentBelow entry) old now → Moved P (WentBelow entry) now next → Moved P (WentBelow entry) old next
moved_further P entry old now next first then = record {
  same = then.same ∙ first.same;
  limit = then.limit ∙ first.limit;
  lawful = then.lawful;
  went = below_then entry old.journal.entries now.journal.entries next.journal.entries first.went then.went;
}

-- ---- a question and then a visit behind the value

module _ (P : Problem) (depth : ℕ) (old now : Search) (entry : ℕ) (v : ℤ) (place : IsNewValuePlace P depth old entry v) (asked : Moved P (WentAsked entry v) old now) where
  pub asked_moves : Moved P (WentAt entry v) old now
  asked_moves = record { same = asked.same; limit = asked.limit; lawful = asked.lawful; went = asked.went.at }

  pub asked_place : IsValuePlace P depth now entry v
  asked_place = record {
    box = subst (IsSearchBox P depth) (sym asked.same) place.value.box;
    within = subst (λ bx. IsBetween (range_at bx depth).low (range_at bx depth).high v) (sym asked.same) place.value.within;
    entered = subst (AreEntered P (depth + 1)) (sym asked.same) place.value.entered;
    lawful = asked.lawful;
    stands = subst (λ bx. StandsFor now.journal.entries entry (prefix_before depth bx)) (sym asked.same)
        (stands_after_at old.journal.entries now.journal.entries entry (prefix_before depth old.bx) entry v place.value.stands asked.went.at);
    untried = asked.went.game place.value.untried;
  }

-- the box was changed and put back
pub stayed : (P : Problem) (entry : ℕ) (v : ℤ) (search : Search) (bx : List Range) → IsLawfulWith P (MayHold P) search.journal.entries → bx ≡ search.bx
    → Moved P (WentAt entry v) search (record { bx = bx; journal = search.journal })
stayed P entry v search bx lawful same = record { same = same; limit = refl; lawful = lawful; went = at_nowhere entry v search.journal.entries }

pub moved_then : (P : Problem) (entry : ℕ) (v : ℤ) (old now next : Search) → Moved P (WentAt entry v) old now → Moved P (WentAt entry v) now next → Moved P (WentAt entry v) old next
moved_then P entry v old now next first then = record {
  same = then.same ∙ first.same;
  limit = then.limit ∙ first.limit;
  lawful = then.lawful;
  went = at_then entry v old.journal.entries now.journal.entries next.journal.entries first.went then.went;
}

-- ---- to the value

module _ (P : Problem) (rest : List Var) (depth : ℕ) (search : Search) (entry : ℕ) (v : ℤ) (completion : List ℤ) (from_depth : rest ≡ drop depth (whole_vars P)) (some : 0 < length rest)
    (place : IsValuePlace P depth search entry v) (completes : CompletesNext P depth search.bx v completion) where
  abbrev bx_then : List Range
  bx_then = set search.bx depth (single v)

  pub box_then : IsSearchBox P (depth + 1) bx_then
  box_then = next_box P rest depth search.bx from_depth some place.box v place.within

  pub new_place : IsNewPlace P (depth + 1) (record { bx = bx_then; journal = search.journal }) entry v completion
  new_place = record {
    place = record { box = box_then; completes = completes };
    some = omega arith;
    entered = entered_set P depth search.bx v place.entered;
    lawful = place.lawful;
    parent = prefix_before depth search.bx;
    stands = place.stands;
    is = prefix_push depth search.bx v (next_in_box P rest depth search.bx from_depth some place.box.box);
    untried = place.untried;
  }

-- ---- below it

module _ (P : Problem) (rest : List Var) (depth : ℕ) (search : Search) (entry : ℕ) (v : ℤ) (completion : List ℤ) (from_depth : rest ≡ drop depth (whole_vars P))
    (place : IsNewPlace P depth search entry v completion) (may : MayBeVisited P rest search.bx) where
  abbrev J : List JEntry
  J = search.journal.entries

  may_enter : IsEnterable P (prefix_before depth search.bx)
  may_enter = enterable P rest depth search.bx place.place.box (legal_here P depth search.bx completion place.place) place.some from_depth may

  pub visit_place : (journal : Contents) → journal.entries ≡ J ++ game_entry entry v ∷ [] → IsVisitPlace P depth (record { bx = search.bx; journal = journal }) (suc (length J)) completion
  visit_place journal is = rw is (record {
    place = place.place;
    entered = entered_more P depth search.bx place.entered may_enter;
    lawful = lawful_entered P J entry place.parent v place.lawful place.stands place.untried (rw (sym place.is) may_enter);
    stands = rw place.is (stands_new J entry place.parent v place.stands);
    untried = new_untried P J entry place.parent v place.lawful.lawful place.stands;
  })

  pub entered_moves : (journal : Contents) (next : Search) → journal.limit ≡ search.journal.limit → journal.entries ≡ J ++ game_entry entry v ∷ []
      → Moved P (WentBelow (suc (length J))) (record { bx = search.bx; journal = journal }) next → Moved P (WentAt entry v) search next
  entered_moves journal next limit is moved = record {
    same = moved.same;
    limit = moved.limit ∙ limit;
    lawful = moved.lawful;
    went = entered_at entry v J next.journal.entries (subst (λ es. WentBelow (suc (length J)) es next.journal.entries) is moved.went);
  }

-- ---- whose turn it is

pub existential_next : (rest : List Var) (x : Var) → 0 < length rest → is_universal (get_or rest 0 x) ≡ false → SetsNext Exists rest
existential_next [] x some test = absurd (omega (arith, some))
existential_next (y ∷ later) x some test = exists_of y test

pub universal_next : (rest : List Var) (x : Var) → 0 < length rest → is_universal (get_or rest 0 x) ≡ true → SetsNext Universal rest
universal_next [] x some test = absurd (omega (arith, some))
universal_next (y ∷ later) x some test = universal_of y test
