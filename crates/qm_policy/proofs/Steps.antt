-- What the answer is from a part on, and small facts of the tests.
use Rattle.std.proofs.Common.{◌≡◌, Bool, ℕ, ◌+◌, ◌*◌, ◌<◌, ◌≤◌, true, List, [], ◌∷◌, length, drop, get_or, All, refl, sym, ap, ◌∙◌, arith, ℤ, pos, unsigned_abs, Ok, Err}
use Rattle.std.specs.Prelude.{◌&&◌, nat_lt, ◌^◌}
use Rattle.std.proofs.Math.Nat.{div-one, mul-le-mul_left}
use Rattle.std.proofs.lemmas.List.{drop_more}
use Rattle.std.proofs.lemmas.List.Elements.{All-cons, All-nil}
use Rattle.std.proofs.lemmas.List.Sums.{sum_by-cons}
use Rattle.qm_math.specs.Fraction.{Fraction, whole, is_at_most}
use Rattle.qm_frac.specs.Checked.{Checked, and_then, added, divided, multiplied}
use Rattle.qm_frac.specs.declared.leaves.Leaves.{Leaves}
use Rattle.qm_frac.specs.Lowest.{IsFrac, IsInRange, lowest_terms, lowest_parts}
use Rattle.qm_frac.proofs.CheckedLaws.{and_then_assoc}
use Rattle.qm_frac.proofs.SignLaws.{signed_abs}
use Rattle.qm_model.proofs.Sizes.{one_le_reach}
use Rattle.qm_frac.proofs.Terms.{in_range_small}
use Rattle.qm_frac.proofs.Divisors.{gcd_of-one}
use Rattle.qm_model.specs.declared.range.Range.{Range}
use Rattle.qm_model.specs.declared.row.Term.{Term}
use Rattle.qm_model.specs.declared.variable.Var.{Var}
use Rattle.qm_model.specs.Sizes.{reach_in_vars, terms_size}
use Rattle.qm_model.proofs.Sizes.{one_le_reach}
use Rattle.qm_trees.specs.Verdicts.{answer_of}
use Rattle.qm_trees.specs.declared.rule.Rule.TheVariants as rule
use Rattle.qm_trees.specs.Evaluation.{least_end_by, zero}
use Rattle.qm_trees.specs.Leaves.{add_terms, are_in_bounds, leaf_objective, leaf_passes, objective_reaches, value_at}
use Rattle.qm_trees.specs.declared.policy.Policy.{Policy, Answer, Leaf, out-Policy}
use Rattle.qm_trees.specs.declared.policy.Policy.TheVariants.{rolls-Answer, rolls-Leaf}
use Rattle.qm_trees.specs.declared.policy.Below.TheViews.{out-roll-Policy}
use Rattle.qm_trees.specs.declared.policy.PolicyPart.{PolicyPart}
use Rattle.qm_trees.specs.declared.policy.Below.TheOpen as node
use Rattle.qm_trees.specs.PolicyJudgement.{judge_end, judge_policy}
use Rattle.qm_model.specs.declared.game.Problem.{Problem}
use Rattle.qm_model.specs.Points.{continuous_vars}
use Rattle.qm_trees.proofs.Moves.{same_count}
use Rattle.qm_trees.proofs.Multipliers.{fracs_say}
use Rattle.qm_cover.proofs.PartSteps.{answer_of-line}
use Rattle.qm_policy.specs.Parts.{judge_answer}
use Rattle.qm_policy.specs.Steps.{add_term}

-- a whole number is in lowest terms
pub lowest_whole : (n : ℤ) → lowest_terms n (pos 1) ≡ whole n
unfolding lowest_parts
lowest_whole n = rw (gcd_of-one (unsigned_abs n), div-one, signed_abs) refl

pub whole_in_range : (n : ℤ) → unsigned_abs n < 2 ^ 127 → IsInRange (lowest_terms n (pos 1))
whole_in_range n h = in_range_small n 1 h (omega arith)

-- a policy that out-of-Answer
out-of-Answer : (parts : List PolicyPart) → out-Policy (Answer parts) ≡ node.Answer parts
out-of-Answer parts = ap out-Policy (sym (rolls-Answer parts)) ∙ out-roll-Policy (node.Answer parts)

pub answer_judged : (P : Problem) (v : Fraction) (rest : List Var) (depth : ℕ) (bx : List Range) (policy : Policy) (parts slice : List PolicyPart) → policy ≡ Answer parts → slice ≡ parts
    → answer_of (judge_answer P v rest depth bx slice) ≡ answer_of (judge_policy P v rest depth bx policy)
answer_judged P v rest depth bx policy parts slice is same = by rest (ap out-Policy is ∙ out-of-Answer parts ∙ sym (ap (λ ps. node.Answer ps) same))
  where
    by : (xs : List Var) → out-Policy policy ≡ node.Answer slice → answer_of (judge_answer P v xs depth bx slice) ≡ answer_of (judge_policy P v xs depth bx policy)
    by [] layer = rw layer refl
    by (x ∷ later) layer = rw layer refl

-- ---- leaves

-- a policy that ends at once
pub out-of-Leaf : (point : List Fraction) → out-Policy (Leaf point) ≡ node.Leaf point
out-of-Leaf point = ap out-Policy (sym (rolls-Leaf point)) ∙ out-roll-Policy (node.Leaf point)

-- a leaf with a value for each continuous variable, each a fraction of the program
pub leaf_judged : (P : Problem) (v : Fraction) (bx : List Range) (policy : Policy) (point : List Fraction) → policy ≡ Leaf point → length point ≡ length (continuous_vars P) → All IsFrac point
    → leaf_passes P v bx point ≡ answer_of (judge_end P v bx (out-Policy policy))
leaf_judged P v bx policy point is count fracs =
    let layer : out-Policy policy ≡ node.Leaf point = ap out-Policy is ∙ out-of-Leaf point in
    rw (layer, same_count (length point) (length (continuous_vars P)) count, (fracs_say point).1 fracs) (sym (answer_of-line rule.Leaf (leaf_passes P v bx point)))

-- ---- bounds

pub bounds_more : (xs : List Var) (ys : List Fraction) (i : ℕ) (x : Var) (y : Fraction) → i < length xs → i < length ys → x ≡ get_or xs i x → y ≡ get_or ys i y
    → true ≡ (nat_lt 0 y.den && is_at_most (whole x.low) y && is_at_most y (whole x.high))
    → are_in_bounds (drop i xs) (drop i ys) ≡ are_in_bounds (drop (i + 1) xs) (drop (i + 1) ys)
bounds_more xs ys i x y h k is at within =
    let first : drop i xs ≡ x ∷ drop (i + 1) xs = drop_more xs i x h ∙ ap (λ z. z ∷ drop (i + 1) xs) (sym is) in
    let second : drop i ys ≡ y ∷ drop (i + 1) ys = drop_more ys i y k ∙ ap (λ z. z ∷ drop (i + 1) ys) (sym at) in
    ap (λ zs. are_in_bounds zs (drop i ys)) first
    ∙ ap (are_in_bounds (x ∷ drop (i + 1) xs)) second
    ∙ ap (λ b. b && are_in_bounds (drop (i + 1) xs) (drop (i + 1) ys)) (sym within)

-- ---- sums of terms

module _ (value : Term → Fraction) (ts : List Term) (i : ℕ) (t : Term) (s : Fraction) (full : Checked Fraction) (h : i < length ts) (is : t ≡ get_or ts i t)
    (whole_sum : add_terms value (drop i ts) s ≡ full) where
  term_then_others : and_then (add_term value t s) (λ r. add_terms value (drop (i + 1) ts) r) ≡ full
  term_then_others =
      let split : drop i ts ≡ t ∷ drop (i + 1) ts = drop_more ts i t h ∙ ap (λ u. u ∷ drop (i + 1) ts) (sym is) in
      and_then_assoc (multiplied (whole t.coef) (value t)) (λ p. added s p) (λ r. add_terms value (drop (i + 1) ts) r)
      ∙ sym (ap (λ us. add_terms value us s) split) ∙ whole_sum

  pub term_leaves : (leaves : Leaves) → Err leaves ≡ add_term value t s → Err leaves ≡ full
  term_leaves leaves e = ap (λ x. and_then x (λ r. add_terms value (drop (i + 1) ts) r)) e ∙ term_then_others

  pub term_added : (r : Fraction) → Ok r ≡ add_term value t s → add_terms value (drop (i + 1) ts) r ≡ full
  term_added r e = ap (λ x. and_then x (λ q. add_terms value (drop (i + 1) ts) q)) e ∙ term_then_others

-- ---- sizes

pub coefs_fit : (xs : List Var) (ts : List Term) → terms_size (reach_in_vars xs) ts ≤ 2 ^ 126 → All (λ t. unsigned_abs t.coef < 2 ^ 127) ts
coefs_fit xs [] h = All-nil (λ t. unsigned_abs t.coef < 2 ^ 127)
coefs_fit xs (t ∷ ts) h =
    let split = sum_by-cons (λ (u : Term). unsigned_abs u.coef * reach_in_vars xs u.var) t ts in
    let more = mul-le-mul_left (unsigned_abs t.coef) (one_le_reach xs t.var) in
    All-cons (λ u. unsigned_abs u.coef < 2 ^ 127) t ts (omega (arith, split, more, h)) (coefs_fit xs ts (omega (arith, split, h)))

-- ---- the objective

-- whether the objective reaches the value goes by what it comes to
pub objective_reaches_by : (P : Problem) (v : Fraction) (bx : List Range) (point : List Fraction)
    → and_then (leaf_objective P bx point) (λ w. let z : Checked Bool = Ok (is_at_most v w) in z) ≡ objective_reaches P v bx point
objective_reaches_by P v bx point =
    let sum = add_terms (value_at least_end_by P bx point) P.terms zero in
    and_then_assoc sum (λ s. and_then (added s (whole P.constant)) third) last ∙ by sum
  where
    last : Fraction → Checked Bool
    last w = Ok (is_at_most v w)

    third : Fraction → Checked Fraction
    third k = divided k (whole P.scale)

    by : (x : Checked Fraction) → and_then x (λ s. and_then (and_then (added s (whole P.constant)) third) last)
        ≡ and_then x (λ s. and_then (added s (whole P.constant)) (λ k. and_then (third k) last))
    by (Ok s) = and_then_assoc (added s (whole P.constant)) third last
    by (Err leaves) = refl
