-- Verdicts one after another.
use Rattle.std.proofs.Common.{◌≡◌, refl, ap, arith}
use Rattle.qm_trees.specs.Verdicts.{Verdict, Fine, Broken, Left, ◌then◌}

pub then_assoc : (a b c : Verdict) → (a then b) then c ≡ a then (b then c)
then_assoc (Fine m) (Fine n) (Fine k) = ap Fine (omega arith)
then_assoc (Fine m) (Fine n) (Broken r k) = ap (Broken r) (omega arith)
then_assoc (Fine m) (Fine n) (Left l k) = ap (Left l) (omega arith)
then_assoc (Fine m) (Broken r n) c = refl
then_assoc (Fine m) (Left l n) c = refl
then_assoc (Broken r n) b c = refl
then_assoc (Left l n) b c = refl

pub none_then : (v : Verdict) → (Fine 0) then v ≡ v
none_then (Fine n) = ap Fine (omega arith)
none_then (Broken r n) = ap (Broken r) (omega arith)
none_then (Left l n) = ap (Left l) (omega arith)

pub then_none : (v : Verdict) → v then (Fine 0) ≡ v
then_none (Fine n) = ap Fine (omega arith)
then_none (Broken r n) = refl
then_none (Left l n) = refl
