-- How the journal grows in the search, and what stays.
use Rattle.std.proofs.Common.{◌≡◌, ◌⊎◌, inl, inr, refl, sym, ap, subst, ◌∙◌, ℕ, suc, ◌+◌, ◌<◌, ◌≤◌, List, [], ◌∷◌, ◌++◌, length, length-append, get_or, take, set, arith, ℤ, pos, ◌≤ℤ◌, ◌<ℤ◌, Option, Some, None}
use Rattle.std.specs.Prelude.{IsSomeAnd, slice_get}
use Rattle.std.proofs.lemmas.Int.{ints}
use Rattle.std.proofs.lemmas.List.{append-nil, append_assoc, length-take-le}
use Rattle.std.proofs.lemmas.List.Elements.{All-append, All-cons, All-nil, All-weaker}
use Rattle.qm_math.specs.Ranges.{IsBetween}
use Rattle.qm_model.specs.declared.range.Range.{Range}
use Rattle.qm_model.specs.declared.variable.Var.{Var}
use Rattle.qm_model.specs.declared.game.Problem.{Problem}
use Rattle.qm_model.specs.Legal.{universal_part}
use Rattle.qm_model.specs.Plays.{whole_vars}
use Rattle.qm_model.specs.Ranges.{single}
use Rattle.qm_journal.specs.declared.entry.JEntry.{JEntry}
use Rattle.qm_journal.specs.declared.entry.JKind.TheVariants.{Step}
use Rattle.qm_journal.specs.Contents.{Contents}
use Rattle.qm_journal.specs.Lawful.{IsAlivePlay, IsLawful, IsNext}
use Rattle.qm_journal.specs.Positions.{IsAsked, IsParent, Position, position_of, universal_values}
use Rattle.qm_journal.proofs.Growing.{IsLawful-enter, IsNext-at, IsParent-append, IsParent-within, position_of-new, position_of-old}
use Rattle.qm_legal.specs.JournalSteps.{AreStepsWithin, AreUntried, Grown, IsAdded, IsEntered, IsOpenBox, IsSearched, IsStepWithin, number_after, step_of, with_entry}
use Rattle.qm_legal.specs.Queries.{set_values}

-- one of the steps that lead back
abbrev LeadsTo : ℕ → ℕ → JEntry → Type 0
LeadsTo to last e = (e.kind ≡ Step) × ((e.parent ≡ to) ⊎ (last < e.parent))

leads : (number : ℕ) (tried : Range) (last : ℕ) (e : JEntry) → IsStepWithin number tried last e → LeadsTo number last e
leads number tried last e (step, inl here) = (step, inl here.0)
leads number tried last e (step, inr later) = (step, inr later)

-- ---- growing by more and more

module _ (P : Problem) where
  pub grown_none : (Such : List JEntry → Type 0) (J : Contents) → Such [] → IsLawful P J.entries → Grown P Such J J
  grown_none Such J such lawful = record { added = []; behind = sym (append-nil J.entries); such = such; lawful = lawful; limit = refl }

  pub grown_same : (Such : List JEntry → Type 0) (J K : Contents) → Such [] → IsLawful P J.entries → K ≡ J → Grown P Such J K
  grown_same Such J K such lawful same = subst (λ L. Grown P Such J L) (sym same) (grown_none Such J such lawful)

  pub grown_weaker : (Such Other : List JEntry → Type 0) (J K : Contents) → ((added : List JEntry) → Such added → Other added) → Grown P Such J K → Grown P Other J K
  grown_weaker Such Other J K f g = record { added = g.added; behind = g.behind; such = f g.added g.such; lawful = g.lawful; limit = g.limit }

  pub grown_longer : (Such : List JEntry → Type 0) (J K : Contents) → Grown P Such J K → length J.entries ≤ length K.entries
  grown_longer Such J K g = omega (arith, ap length g.behind, length-append J.entries g.added)

  within_more : (number : ℕ) (small large : Range) (last later : ℕ) → large.low ≤ℤ small.low → small.high ≤ℤ large.high → last ≤ later → (e : JEntry) → IsStepWithin number small later e → IsStepWithin number large last e
  within_more number small large last later low high le e (step, inl here) = (step, inl (here.0, (omega (arith, ints, low, here.1.0), omega (arith, ints, high, here.1.1))))
  within_more number small large last later low high le e (step, inr behind) = (step, inr (omega (arith, le, behind)))

  -- first by steps of some values, then of others
  pub grown_then : (number : ℕ) (one two all : Range) (J K L : Contents) → all.low ≤ℤ one.low → one.high ≤ℤ all.high → all.low ≤ℤ two.low → two.high ≤ℤ all.high
      → Grown P (AreStepsWithin number one (length J.entries)) J K → Grown P (AreStepsWithin number two (length K.entries)) K L → Grown P (AreStepsWithin number all (length J.entries)) J L
  grown_then number one two all J K L low high low' high' g h = record {
    added = g.added ++ h.added;
    behind = h.behind ∙ ap (λ es. es ++ h.added) g.behind ∙ append_assoc J.entries g.added h.added;
    such = All-append (IsStepWithin number all (length J.entries)) g.added h.added
        (All-weaker (IsStepWithin number one (length J.entries)) (IsStepWithin number all (length J.entries)) (within_more number one all (length J.entries) (length J.entries) low high (omega arith)) g.added g.such)
        (All-weaker (IsStepWithin number two (length K.entries)) (IsStepWithin number all (length J.entries))
        (within_more number two all (length J.entries) (length K.entries) low' high' (grown_longer (AreStepsWithin number one (length J.entries)) J K g)) h.added h.such);
    lawful = h.lawful;
    limit = h.limit ∙ g.limit;
  }

  pub grown_wider : (number : ℕ) (one all : Range) (J K : Contents) → all.low ≤ℤ one.low → one.high ≤ℤ all.high
      → Grown P (AreStepsWithin number one (length J.entries)) J K → Grown P (AreStepsWithin number all (length J.entries)) J K
  grown_wider number one all J K low high g =
      grown_weaker (AreStepsWithin number one (length J.entries)) (AreStepsWithin number all (length J.entries)) J K
      (All-weaker (IsStepWithin number one (length J.entries)) (IsStepWithin number all (length J.entries)) (within_more number one all (length J.entries) (length J.entries) low high (omega arith))) g

  -- ---- the entry is made

  -- the parent of an entry stands before it
  parent_before : (J : List JEntry) → IsLawful P J → (k : ℕ) (d : JEntry) → k < length J → (get_or J k d).parent ≤ k
  parent_before J lawful k d h =
      let next : IsNext P (take k J) (get_or J k d) = IsNext-at P [] J k d lawful h in
      omega (arith, IsParent-within (get_or J k d).kind (take k J) (get_or J k d).parent next.parent, length-take-le k J (omega (arith, h)))

  asked_at : (J : List JEntry) (e : JEntry) → IsAsked e.kind → IsSomeAnd (slice_get (J ++ e ∷ []) (length J)) (λ d. IsAsked d.kind)
  asked_at [] e asked = asked
  asked_at (d ∷ J) e asked = asked_at J e asked

  module _ (depth : ℕ) (bx : List Range) (J : Contents) where
    pub entered : (entry : Option JEntry) → IsSearched P depth bx J entry → IsEntered P depth bx (with_entry entry J) (number_after entry J)
    entered None here = record {
      box = here.box;
      lawful = here.lawful;
      restricted = here.restricted;
      parent = tt;
      values = nothing (whole_vars P) (position_of-old [] J.entries 0 (omega arith)) ∙ sym here.stands.0;
    }
      where
        nothing : (xs : List Var) → position_of ([] ++ J.entries) 0 ≡ position_of [] 0 → universal_part xs (position_of J.entries 0).prefix ++ (position_of J.entries 0).steps ≡ []
        nothing xs e = ap (λ (p : Position). universal_part xs p.prefix ++ p.steps) e ∙ none xs
          where
            none : (xs : List Var) → universal_part xs [] ++ [] ≡ []
            none [] = refl
            none (x ∷ xs) = refl
    entered (Some e) here = record {
      box = here.box;
      lawful = IsLawful-enter P J.entries e here.lawful here.stands.0;
      restricted = here.restricted;
      parent = asked_at J.entries e here.stands.1;
      values = ap (universal_values P) (position_of-new J.entries e) ∙ here.stands.2;
    }

    pub entered_untried : (entry : Option JEntry) (tried : Range) → IsSearched P depth bx J entry → AreUntried (number_after entry J) tried (with_entry entry J).entries
    entered_untried None tried here = λ k d h step parent between. here.stands.1 k d h (step, parent)
    entered_untried (Some e) tried here = λ k d h step parent between.
        absurd (let before = parent_before (J.entries ++ e ∷ []) (IsLawful-enter P J.entries e here.lawful here.stands.0) k d h in
        omega (arith, before, parent, h, length-append J.entries (e ∷ [])))

    -- what is added behind the entry, with the entry
    pub grown_entered : (entry : Option JEntry) (tried : Range) (K : Contents)
        → Grown P (AreStepsWithin (number_after entry J) tried (length (with_entry entry J).entries)) (with_entry entry J) K → Grown P (IsAdded entry J.entries) J K
    grown_entered None tried K g =
        grown_weaker (AreStepsWithin 0 tried (length J.entries)) (IsAdded None J.entries) J K (All-weaker (IsStepWithin 0 tried (length J.entries)) (LeadsTo 0 (length J.entries)) (leads 0 tried (length J.entries))) g
    grown_entered (Some e) tried K g = record {
      added = e ∷ g.added;
      behind = g.behind ∙ append_assoc J.entries (e ∷ []) g.added;
      such =
          let count : length (J.entries ++ e ∷ []) ≡ suc (length J.entries) = omega (arith, length-append J.entries (e ∷ [])) in
          let n = suc (length J.entries) in
          (refl, All-weaker (IsStepWithin n tried n) (LeadsTo n n) (leads n tried n) g.added (subst (λ last. AreStepsWithin n tried last g.added) count g.such));
      lawful = g.lawful;
      limit = g.limit;
    }

    -- the journal with the entry alone
    pub grown_entry : (entry : Option JEntry) (K : Contents) → IsSearched P depth bx J entry → K ≡ with_entry entry J → Grown P (IsAdded entry J.entries) J K
    grown_entry entry K here same =
        let e = entered entry here in
        let none : Grown P (AreStepsWithin (number_after entry J) (single (pos 0)) (length (with_entry entry J).entries)) (with_entry entry J) K =
        grown_same (AreStepsWithin (number_after entry J) (single (pos 0)) (length (with_entry entry J).entries)) (with_entry entry J) K (All-nil (IsStepWithin (number_after entry J) (single (pos 0)) (length (with_entry entry J).entries))) e.lawful same in
        grown_entered entry (single (pos 0)) K none

  -- what a step for a value adds is of that value
  pub grown_value : (number : ℕ) (v : ℤ) (J K : Contents) → Grown P (IsAdded (Some (step_of number v)) J.entries) J K → Grown P (AreStepsWithin number (single v) (length J.entries)) J K
  grown_value number v J K g = grown_weaker (IsAdded (Some (step_of number v)) J.entries) (AreStepsWithin number (single v) (length J.entries)) J K of_value g
    where
      behind_it : (n : ℕ) (e : JEntry) → LeadsTo (suc n) (suc n) e → IsStepWithin number (single v) n e
      behind_it n e (step, inl at) = (step, inr (omega (arith, at)))
      behind_it n e (step, inr later) = (step, inr (omega (arith, later)))

      first : (d : JEntry) → d ≡ step_of number v → IsStepWithin number (single v) (length J.entries) d
      first d is = (ap (λ (e : JEntry). e.kind) is, inl (ap (λ (e : JEntry). e.parent) is, at_value (ap (λ (e : JEntry). e.value) is)))
        where
          at_value : d.value ≡ v → IsBetween v v d.value
          at_value e = (omega (arith, ints, e), omega (arith, ints, e))

      of_value : (added : List JEntry) → IsAdded (Some (step_of number v)) J.entries added → AreStepsWithin number (single v) (length J.entries) added
      of_value [] added = All-nil (IsStepWithin number (single v) (length J.entries))
      of_value (d ∷ steps) added =
          All-cons (IsStepWithin number (single v) (length J.entries)) d steps (first d added.0)
          (All-weaker (LeadsTo (suc (length J.entries)) (suc (length J.entries))) (IsStepWithin number (single v) (length J.entries)) (behind_it (length J.entries)) steps added.1)

  -- ---- what stays as steps come behind the number

  module _ (depth : ℕ) (bx : List Range) (number : ℕ) (J K : Contents) where
    pub entered_stays : (Such : List JEntry → Type 0) → IsEntered P depth bx J number → Grown P Such J K → IsEntered P depth bx K number
    entered_stays Such here g =
        let within = IsParent-within Step J.entries number here.parent in
        let position : position_of K.entries number ≡ position_of J.entries number = ap (λ es. position_of es number) g.behind ∙ position_of-old J.entries g.added number within in
        record {
          box = here.box;
          lawful = g.lawful;
          restricted = here.restricted;
          parent = subst (λ es. IsParent Step es number) (sym g.behind) (IsParent-append Step J.entries g.added number here.parent);
          values = ap (universal_values P) position ∙ here.values;
        }

    -- values that are apart from those tried stay untried
    pub untried_stays : (tried other : Range) → other.high <ℤ tried.low ⊎ tried.high <ℤ other.low → number ≤ length J.entries → AreUntried number other J.entries
        → Grown P (AreStepsWithin number tried (length J.entries)) J K → AreUntried number other K.entries
    untried_stays tried other apart within before g =
        subst (AreUntried number other) (sym g.behind)
        (All-append (IsUntried other) J.entries g.added before (All-weaker (IsStepWithin number tried (length J.entries)) (IsUntried other) new g.added g.such))
      where
        IsUntried : Range → JEntry → Type 0
        IsUntried range e = e.kind ≡ Step → e.parent ≡ number → IsBetween range.low range.high e.value → ⊥

        other_values : (v : ℤ) → other.high <ℤ tried.low ⊎ tried.high <ℤ other.low → IsBetween tried.low tried.high v → IsBetween other.low other.high v → ⊥
        other_values v (inl below) (a, b) (c, d) = absurd (omega (arith, ints, below, a, d))
        other_values v (inr above) (a, b) (c, d) = absurd (omega (arith, ints, above, b, c))

        new : (e : JEntry) → IsStepWithin number tried (length J.entries) e → IsUntried other e
        new e (step, inl here) kind parent between = other_values e.value apart here.1 between
        new e (step, inr later) kind parent between = absurd (omega (arith, later, parent, within))

  -- ---- a step for the next value

  pub stands_below : (depth : ℕ) (bx : List Range) (number : ℕ) (run : Range) (J : Contents) → IsEntered P depth bx J number → AreUntried number run J.entries
      → run.low ≡ run.high → IsOpenBox P (depth + 1) (set bx depth run) → IsAlivePlay P (set_values P (depth + 1) (set bx depth run))
      → set_values P (depth + 1) (set bx depth run) ≡ set_values P depth bx ++ run.low ∷ [] → IsSearched P (depth + 1) (set bx depth run) J (Some (step_of number run.low))
  stands_below depth bx number run J here untried single_run box play values =
      let position = position_of J.entries number in
      let appended : universal_values P position ++ run.low ∷ [] ≡ set_values P (depth + 1) (set bx depth run) = ap (λ us. us ++ run.low ∷ []) here.values ∙ sym values in
      record {
        box = box;
        lawful = here.lawful;
        restricted = here.restricted;
        stands = (
          record {
            parent = here.parent;
            new = λ k d h same. untried k d h (ap (λ (e : JEntry). e.kind) same) (ap (λ (e : JEntry). e.parent) same) (of_run (get_or J.entries k d).value (ap (λ (e : JEntry). e.value) same));
            appends = (here.restricted, subst (IsAlivePlay P) (sym appended) play);
          },
          tt,
          sym (append_assoc (universal_part (whole_vars P) position.prefix) position.steps (run.low ∷ [])) ∙ appended,
        );
      }
    where
      of_run : (v : ℤ) → v ≡ run.low → IsBetween run.low run.high v
      of_run v e = (omega (arith, ints, e), omega (arith, ints, e, single_run))

  -- ---- behind a variable of the other player

  pub searched_behind : (depth : ℕ) (bx : List Range) (J : Contents) (entry : Option JEntry) → IsOpenBox P (depth + 1) bx → set_values P (depth + 1) bx ≡ set_values P depth bx
      → IsSearched P depth bx J entry → IsSearched P (depth + 1) bx J entry
  searched_behind depth bx J None box values here = record { box = box; lawful = here.lawful; restricted = here.restricted; stands = (values ∙ here.stands.0, here.stands.1) }
  searched_behind depth bx J (Some e) box values here = record { box = box; lawful = here.lawful; restricted = here.restricted; stands = (here.stands.0, here.stands.1, here.stands.2 ∙ sym values) }

pub added_none : (entry : Option JEntry) (J : List JEntry) → IsAdded entry J []
added_none None J = All-nil (LeadsTo 0 (length J))
added_none (Some e) J = tt

pub untried_less : (number : ℕ) (large small : Range) (J : List JEntry) → large.low ≤ℤ small.low → small.high ≤ℤ large.high → AreUntried number large J → AreUntried number small J
untried_less number large small J low high before k d h step parent between = before k d h step parent (more (get_or J k d).value between)
  where
    more : (v : ℤ) → IsBetween small.low small.high v → IsBetween large.low large.high v
    more v (a, b) = (omega (arith, ints, low, a), omega (arith, ints, high, b))
