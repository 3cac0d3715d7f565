-- Each run from a good tableau ends: there are only so many pivots.
use Rattle.std.proofs.Common.{◌≡◌, refl, sym, subst, ℕ, zero, suc, ◌⊎◌, inl, inr, ⊎_elim, List, [], ◌∷◌, ◌++◌, length, length-append, arith, Some, Ok, Err}
use Rattle.qm_model.specs.declared.range.Range.{Range}
use Rattle.qm_model.specs.declared.row.Row.{Row}
use Rattle.qm_model.specs.declared.game.Problem.{Problem}
use Rattle.qm_tableau.specs.declared.choice.Choice.{Choice}
use Rattle.qm_tableau.specs.declared.choice.Choice.TheVariants as choice
use Rattle.qm_tableau.specs.Tables.{Table}
use Rattle.qm_tableau.specs.Leaving.{Placed}
use Rattle.qm_tableau.specs.Good.{IsGood}
use Rattle.qm_tableau.specs.Pivoting.{pivoted}
use Rattle.qm_tableau.specs.Rule.{chosen}
use Rattle.qm_simplex.specs.Ends.{most_pivots}
use Rattle.qm_simplex.specs.Runs.{Leads, Pivot}
use Rattle.qm_simplex.specs.Stops.{Answer, IsRunFrom, after_choice, after_pivot}
use Rattle.qm_simplex.proofs.ShortRuns.{few_pivots}

-- one more pivot at the end of a run
pub pivots_lead_on : (t last u : Table) (ps : List Pivot) (p : Pivot) → Leads t ps last → chosen last ≡ Ok (choice.Pivot p.0 p.1) → pivoted last p.0 p.1 ≡ Ok u → Leads t (ps ++ p ∷ []) u
pivots_lead_on t last u [] p h is there = subst (λ (x : Table). Leads x (p ∷ []) u) (sym h) (is, u, there, refl)
pivots_lead_on t last u (q ∷ ps) p h is there = (h.0, h.1, h.2, pivots_lead_on h.1 last u ps p h.3 is there)

-- the rule names this pivot, and it doesn't leave
record GoesOn (t : Table) (named : Placed Choice) : Type 0 where
  pivot : Pivot
  after : Table
  is : named ≡ Ok (choice.Pivot pivot.0 pivot.1)
  there : pivoted t pivot.0 pivot.1 ≡ Ok after

stops_or_leads : (ps : List Pivot) (p : Pivot) (x : Placed Table) → ((answer : Answer) × (after_pivot ps p x ≡ Some answer)) ⊎ ((u : Table) × (x ≡ Ok u))
stops_or_leads ps p (Ok u) = inr (u, refl)
stops_or_leads ps p (Err l) = inl (_, refl)

stops_or_goes_on : (P : Problem) (cuts : List Row) (bx : List Range) (ps : List Pivot) (t : Table) (x : Placed Choice)
    → ((answer : Answer) × (after_choice P cuts bx ps t x ≡ Some answer)) ⊎ GoesOn t x
stops_or_goes_on P cuts bx ps t (Err l) = inl (_, refl)
stops_or_goes_on P cuts bx ps t (Ok choice.Done) = inl (_, refl)
stops_or_goes_on P cuts bx ps t (Ok (choice.VoidRow r)) = inl (_, refl)
stops_or_goes_on P cuts bx ps t (Ok (choice.Pivot r c)) =
    ⊎_elim (λ stop. inl stop) (λ goes. inr (record { pivot = (r, c); after = goes.0; is = refl; there = goes.1 })) (stops_or_leads ps (r, c) (pivoted t r c))

-- so many pivots lead from here to some tableau
record LeadsFar (t : Table) (n : ℕ) : Type 0 where
  pivots : List Pivot
  last : Table
  leads : Leads t pivots last
  count : length pivots ≡ n

module _ (P : Problem) (cuts : List Row) (bx : List Range) (t : Table) where
  step : (n : ℕ) → LeadsFar t n → ((answer : Answer) × IsRunFrom P cuts bx t answer) ⊎ LeadsFar t (suc n)
  step n far =
      let long = length-append far.pivots in
      let count = far.count in
      ⊎_elim
      (λ stop. inl (stop.0, record { pivots = far.pivots; last = far.last; leads = far.leads; stops = stop.1 }))
      (λ (goes : GoesOn far.last (chosen far.last)). inr (record {
        pivots = far.pivots ++ goes.pivot ∷ [];
        last = goes.after;
        leads = pivots_lead_on t far.last goes.after far.pivots goes.pivot far.leads goes.is goes.there;
        count = omega (arith, long (goes.pivot ∷ []), count);
      })) (stops_or_goes_on P cuts bx far.pivots far.last (chosen far.last))

  ends_or_goes_far : (n : ℕ) → ((answer : Answer) × IsRunFrom P cuts bx t answer) ⊎ LeadsFar t n
  ends_or_goes_far zero = inr (record { pivots = []; last = t; leads = refl; count = refl })
  ends_or_goes_far (suc n) = ⊎_elim (λ run. inl run) (λ far. step n far) (ends_or_goes_far n)

pub run_ends : (P : Problem) (cuts : List Row) (bx : List Range) (t : Table) → IsGood P cuts bx t → (answer : Answer) × IsRunFrom P cuts bx t answer
run_ends P cuts bx t good =
    ⊎_elim (λ run. run)
    (λ (far : LeadsFar t (most_pivots P cuts bx)).
    (let few = few_pivots P cuts bx t far.last far.pivots good far.leads in
    let count = far.count in
    let no : ⊥ = omega (arith, few, count) in absurd no)) (ends_or_goes_far P cuts bx t (most_pivots P cuts bx))
