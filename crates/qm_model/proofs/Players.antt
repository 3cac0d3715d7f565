-- Whose move it is.
use Rattle.std.proofs.Common.{◌≡◌, true, false, refl, ap}
use Rattle.qm_model.specs.declared.variable.Player.{Player}
use Rattle.qm_model.specs.declared.variable.Player.TheVariants.{Exists, All as Universal}
use Rattle.qm_model.specs.declared.variable.Var.{Var}
use Rattle.qm_model.specs.Plays.{is_universal}

pub exists_of : (x : Var) → is_universal x ≡ false → x.player ≡ Exists
exists_of x e = by x.player e
  where
    by : (p : Player) → is_universal (record x { player = p }) ≡ false → p ≡ Exists
    by Exists h = refl
    by Universal h = cc

pub universal_of : (x : Var) → is_universal x ≡ true → x.player ≡ Universal
universal_of x e = by x.player e
  where
    by : (p : Player) → is_universal (record x { player = p }) ≡ true → p ≡ Universal
    by Exists h = cc
    by Universal h = refl

pub not_universal : (x : Var) → x.player ≡ Exists → is_universal x ≡ false
not_universal x e = ap (λ (p : Player). is_universal (record x { player = p })) e

pub is_for_all : (x : Var) → x.player ≡ Universal → is_universal x ≡ true
is_for_all x e = ap (λ (p : Player). is_universal (record x { player = p })) e

-- what follows whoever sets the variable
pub by_player : (x : Var) (R : Type 0) → (x.player ≡ Exists → R) → (x.player ≡ Universal → R) → R
by_player x R f g = by x.player f g
  where
    by : (p : Player) → (p ≡ Exists → R) → (p ≡ Universal → R) → R
    by Exists f g = f refl
    by Universal f g = g refl
