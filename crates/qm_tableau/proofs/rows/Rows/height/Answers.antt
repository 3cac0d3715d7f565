use Rattle.std.proofs.Common.{◌≡◌, suc, subst, ℕ, List, length, map, All}
use Rattle.qm_math.specs.Fraction.{Fraction}
use Rattle.qm_tableau.specs.Tables.{Numbers}
use Rattle.qm_tableau.specs.Wholes.{fractions_of}
use Rattle.qm_tableau.proofs.KeptRows.{are_whole, fraction_widths, kept_whole}
use Rattle.qm_tableau.proofs.rows.Rows.height.Goals as goal

pub returns-then-self-clause-widths : goal.returns-then-self-clause-widths
returns-then-self-clause-widths c =
    let r = c.self.inside in
    let w = r.fractions.width in
    let a = are_whole r.is_whole r.wholes r.others r.fractions r.spare c.if-self.true c.self.invariant in
    let wide : All (λ row. length row ≡ suc w) r.wholes.rows = subst (λ (n : ℕ). All (λ row. length row ≡ n) r.wholes.rows) a.width c.height.ensures.widths in
    let widths : All (λ row. length row ≡ w) (map fractions_of r.wholes.rows) = fraction_widths r.wholes.rows w wide in
    subst (λ (n : Numbers). All (λ row. length row ≡ n.width) n.rows) c.self.view_is
    (subst (λ (rs : List (List Fraction)). All (λ row. length row ≡ w) rs) (kept_whole r.is_whole r.wholes.rows r.fractions.rows c.if-self.true) widths)
