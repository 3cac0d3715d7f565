-- Who wins a goal wins each goal that is no harder.
use Rattle.std.proofs.Common.{ℕ, ◌*◌, ◌<◌, List, [], ◌∷◌, ◌++◌, arith, unsigned_abs, ℤ, pos, ◌≤ℤ◌, length, drop}
use Rattle.std.proofs.Math.Nat.{mul-le-mul_left}
use Rattle.std.proofs.lemmas.Int.{ints}
use Rattle.qm_math.specs.Fraction.{Fraction, IsSame}
use Rattle.qm_math.proofs.Compare.{at_most_trans, below_at_most, at_most_below, below_at_most_weak}
use Rattle.qm_math.proofs.FractionLaws.{same_refl}
use Rattle.qm_math.proofs.FractionOrder.{at_most_congr, below_congr}
use Rattle.qm_model.specs.declared.variable.Player.{Player}
use Rattle.qm_model.specs.declared.variable.Player.TheVariants.{Exists, All as Universal}
use Rattle.qm_model.specs.declared.variable.Var.{Var}
use Rattle.qm_model.specs.declared.game.Problem.{Problem}
use Rattle.qm_model.specs.Plays.{whole_vars}
use Rattle.qm_model.specs.Points.{Point, objective_at}
use Rattle.qm_model.specs.Goals.{Goal, Any, AtLeast, Above, Reaches, IsNoHarder, IsProper}
use Rattle.qm_model.specs.Wins.{MatchPlayer, WinsFrom, Wins}
use Rattle.qm_model.specs.Sound.{IsSound}

-- what reaches the harder goal reaches the other
pub reaches_easier : (q : Fraction) (G H : Goal) → 0 < q.den → IsProper G → IsProper H → IsNoHarder G H → Reaches q H → Reaches q G
reaches_easier q Any H more proper proper' order h = tt
reaches_easier q (AtLeast s) Any more proper proper' order h = absurd order
reaches_easier q (AtLeast s) (AtLeast t) more proper proper' order h = at_most_trans s t q proper' order h
reaches_easier q (AtLeast s) (Above t) more proper proper' order h = at_most_trans s t q proper' order (below_at_most_weak t q h)
reaches_easier q (Above s) Any more proper proper' order h = absurd order
reaches_easier q (Above s) (AtLeast t) more proper proper' order h = below_at_most s t q more order h
reaches_easier q (Above s) (Above t) more proper proper' order h = at_most_below s t q proper order h

-- the same number reaches the same goals, however it is written
pub reaches-same : (p q : Fraction) (G : Goal) → 0 < p.den → 0 < q.den → IsProper G → IsSame p q → Reaches p G → Reaches q G
reaches-same p q Any p_den q_den proper same h = tt
reaches-same p q (AtLeast t) p_den q_den proper same h = at_most_congr t p t q proper p_den (same_refl t) same h
reaches-same p q (Above t) p_den q_den proper same h = below_congr t p t q proper p_den proper q_den (same_refl t) same h

-- the move of either player, each fact led to another
pub match_player : (who : Player) (E E' A A' : Type 0) → (E → E') → (A → A') → MatchPlayer who E A → MatchPlayer who E' A'
match_player Exists E E' A A' f g h = f h
match_player Universal E E' A A' f g h = g h

product_positive : (a b : ℕ) → 0 < a → 0 < b → 0 < a * b
product_positive a b h k = grind (arith, mul-le-mul_left)

-- the objective's denominator is positive
pub objective_den : (P : Problem) (prefix : List ℤ) (y : Point) → pos 1 ≤ℤ P.scale → 0 < y.den → 0 < (objective_at P prefix y).den
objective_den P prefix y scale more = product_positive (unsigned_abs P.scale) y.den (omega (arith, ints, scale)) more

pub wins_from_easier : (P : Problem) (G H : Goal) → pos 1 ≤ℤ P.scale → ((q : Fraction) → 0 < q.den → Reaches q H → Reaches q G)
    → (xs : List Var) (prefix : List ℤ) → WinsFrom P H xs prefix → WinsFrom P G xs prefix
wins_from_easier P G H scale easier [] prefix h = record {
  point = h.point;
  meets = h.meets;
  reaches = easier (objective_at P prefix h.point) (objective_den P prefix h.point scale h.meets.positive) h.reaches;
}
wins_from_easier P G H scale easier (x ∷ xs) prefix h =
    match_player x.player _ _ _ _
    (λ e. (e.0, e.1, wins_from_easier P G H scale easier xs (prefix ++ e.0 ∷ []) e.2))
    (λ a v within legal. wins_from_easier P G H scale easier xs (prefix ++ v ∷ []) (a v within legal))
    h

pub wins_easier : (P : Problem) (prefix : List ℤ) (G H : Goal) → IsSound P → IsProper G → IsProper H → IsNoHarder G H → Wins P prefix H → Wins P prefix G
wins_easier P prefix G H sound proper proper' order h =
    wins_from_easier P G H sound.scale_positive (λ q more reaches. reaches_easier q G H more proper proper' order reaches) (drop (length prefix) (whole_vars P)) prefix h
