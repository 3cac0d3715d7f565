use Rattle.std.proofs.Common.{refl, sym, subst}
use Rattle.std.specs.Prelude.{IsOk}
use Rattle.qm_tableau.specs.declared.choice.Choice.{Choice}
use Rattle.qm_tableau.specs.Leaving.{Placed}
use Rattle.qm_tableau.proofs.AlwaysChosen.{always_chosen}
use Rattle.qm_tableau.proofs.laws.the_rule_never_leaves_whole_rows.Goals as goal

pub returns : goal.returns
returns c t rows small = let r = always_chosen t rows small in subst (λ (p : Placed Choice). IsOk p) (sym r.1) refl
