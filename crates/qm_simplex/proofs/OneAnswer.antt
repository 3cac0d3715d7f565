-- A run has one answer: the rule names one pivot, and a run stops where there is none that doesn't leave.
use Rattle.std.proofs.Common.{◌≡◌, ◌∙◌, refl, sym, ap, ap₂, subst, ℕ, List, [], ◌∷◌, Option, Some, None, Ok}
use Rattle.qm_model.specs.declared.range.Range.{Range}
use Rattle.qm_model.specs.declared.row.Row.{Row}
use Rattle.qm_model.specs.declared.game.Problem.{Problem}
use Rattle.qm_tableau.specs.declared.choice.Choice.{Choice}
use Rattle.qm_tableau.specs.declared.choice.Choice.TheVariants as choice
use Rattle.qm_tableau.specs.Tables.{Table}
use Rattle.qm_tableau.specs.Leaving.{Placed}
use Rattle.qm_tableau.specs.Rule.{chosen}
use Rattle.qm_tableau.specs.Pivoting.{pivoted}
use Rattle.qm_tableau.proofs.Exactness.{same_value}
use Rattle.qm_simplex.specs.Runs.{Leads, Pivot}
use Rattle.qm_simplex.specs.Stops.{Answer, IsRunFrom, after_choice, after_pivot, stop_at}

some_one : (a b : Answer) (x : Option Answer) → x ≡ Some a → x ≡ Some b → a ≡ b
some_one a b x h k = cc

not_none : (a : Answer) (x : Option Answer) → x ≡ Some a → x ≡ None → ⊥
not_none a x h k = cc

row_named : (r c s d : ℕ) (x : Placed Choice) → x ≡ Ok (choice.Pivot r c) → x ≡ Ok (choice.Pivot s d) → r ≡ s
row_named r c s d x h k = cc

column_named : (r c s d : ℕ) (x : Placed Choice) → x ≡ Ok (choice.Pivot r c) → x ≡ Ok (choice.Pivot s d) → c ≡ d
column_named r c s d x h k = cc

table_one : (u v : Table) (x : Placed Table) → x ≡ Ok u → x ≡ Ok v → u ≡ v
table_one u v x h k = same_value u v (sym h ∙ k)

-- where the rule names a pivot that doesn't leave, a run goes on
goes_on : (P : Problem) (cuts : List Row) (bx : List Range) (ps : List Pivot) (t u : Table) (r c : ℕ) → chosen t ≡ Ok (choice.Pivot r c) → pivoted t r c ≡ Ok u → stop_at P cuts bx ps t ≡ None
goes_on P cuts bx ps t u r c h k = ap (after_choice P cuts bx ps t) h ∙ ap (after_pivot ps (r, c)) k

-- two runs from one tableau that stop have the same pivots and the same last tableau, whatever came before
module _ (P : Problem) (cuts : List Row) (bx : List Range) (before others : List Pivot) (one other : Answer) where
  same_run : (t last end : Table) (ps qs : List Pivot) → Leads t ps last → Leads t qs end → stop_at P cuts bx before last ≡ Some one → stop_at P cuts bx others end ≡ Some other
      → (ps ≡ qs) × (last ≡ end)
  same_run t last end [] [] h k stops halts = (refl, sym h ∙ k)
  same_run t last end [] (q ∷ qs) h k stops halts =
      absurd (not_none one (stop_at P cuts bx before t) (subst (λ (x : Table). stop_at P cuts bx before x ≡ Some one) (sym h) stops) (goes_on P cuts bx before t k.1 q.0 q.1 k.0 k.2))
  same_run t last end (p ∷ ps) [] h k stops halts =
      absurd (not_none other (stop_at P cuts bx others t) (subst (λ (x : Table). stop_at P cuts bx others x ≡ Some other) (sym k) halts) (goes_on P cuts bx others t h.1 p.0 p.1 h.0 h.2))
  same_run t last end (p ∷ ps) (q ∷ qs) h k stops halts =
      let rows : p.0 ≡ q.0 = row_named p.0 p.1 q.0 q.1 (chosen t) h.0 k.0 in
      let columns : p.1 ≡ q.1 = column_named p.0 p.1 q.0 q.1 (chosen t) h.0 k.0 in
      let there : pivoted t q.0 q.1 ≡ Ok h.1 = ap₂ (λ (r c : ℕ). pivoted t r c) (sym rows) (sym columns) ∙ h.2 in
      let next : h.1 ≡ k.1 = table_one h.1 k.1 (pivoted t q.0 q.1) there k.2 in
      let rest = same_run k.1 last end ps qs (subst (λ (x : Table). Leads x ps last) next h.3) k.3 stops halts in
      (ap₂ (λ (x : Pivot) (xs : List Pivot). x ∷ xs) (ap₂ (λ (r c : ℕ). (r, c)) rows columns) rest.0, rest.1)

pub one_answer : (P : Problem) (cuts : List Row) (bx : List Range) (t : Table) (one other : Answer) → IsRunFrom P cuts bx t one → IsRunFrom P cuts bx t other → one ≡ other
one_answer P cuts bx t one other h k =
    let same = same_run P cuts bx h.pivots k.pivots one other t h.last k.last h.pivots k.pivots h.leads k.leads h.stops k.stops in
    some_one one other (stop_at P cuts bx k.pivots k.last) (ap₂ (λ (ps : List Pivot) (x : Table). stop_at P cuts bx ps x) (sym same.0) (sym same.1) ∙ h.stops) k.stops
