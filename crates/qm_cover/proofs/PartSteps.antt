-- What the answer is from a part on.
use Rattle.std.proofs.Common.{◌≡◌, ℕ, zero, suc, ◌+◌, ◌<◌, ◌≤◌, ◌≤ℤ◌, Bool, true, false, List, [], ◌∷◌, length, drop, get_or, refl, sym, ap, ◌∙◌, arith, ℤ, pos, ◌+ℤ◌, Ok, Err}
use Rattle.std.specs.Prelude.{nat_eq}
use Rattle.std.proofs.lemmas.Bool.Decides.{nat_tests}
use Rattle.std.proofs.lemmas.List.{drop_more}
use Rattle.qm_frac.specs.Checked.{Checked}
use Rattle.qm_frac.specs.declared.leaves.Leaves.{Leaves}
use Rattle.qm_model.specs.declared.range.Range.{Range}
use Rattle.qm_model.specs.Boxes.{IsInside}
use Rattle.qm_trees.specs.declared.rule.Rule.{Rule}
use Rattle.qm_trees.specs.declared.rule.Rule.TheVariants as rule
use Rattle.qm_trees.specs.Verdicts.{Verdict, Fine, Broken, Left, line, ◌then◌, answer_of}
use Rattle.qm_trees.specs.Ranges.{counts_right, follows_on, is_last_before, judge_each, judge_parts}
use Rattle.qm_cover.specs.Steps.{first_of}
use Rattle.qm_cover.proofs.BoxPlaces.{following}

-- nothing follows the last
pub at_end-is_last_before : {A : Type 0} (xs : List A) (i : ℕ) → i ≤ length xs → nat_eq i (length xs) ≡ is_last_before (drop i xs)
at_end-is_last_before [] zero h = refl
at_end-is_last_before [] (suc i) h = absurd (omega arith)
at_end-is_last_before (x ∷ xs) zero h = grind (arith, nat_tests)
at_end-is_last_before (x ∷ xs) (suc i) h = let rest = at_end-is_last_before xs i (omega arith) in grind (arith, nat_tests)

-- ---- the first fault decides

answer_of-then : (a b : Verdict) → answer_of (a then b) ≡ first_of (answer_of a) (answer_of b)
answer_of-then (Fine m) (Fine n) = refl
answer_of-then (Fine m) (Broken rule n) = refl
answer_of-then (Fine m) (Left leaves n) = refl
answer_of-then (Broken rule n) b = refl
answer_of-then (Left leaves n) b = refl

pub answer_of-line : (rule : Rule) (x : Checked Bool) → answer_of (line rule x) ≡ x
answer_of-line rule (Ok true) = refl
answer_of-line rule (Ok false) = refl
answer_of-line rule (Err leaves) = refl

first_of-assoc : (x y z : Checked Bool) → first_of (first_of x y) z ≡ first_of x (first_of y z)
first_of-assoc (Ok true) y z = refl
first_of-assoc (Ok false) y z = refl
first_of-assoc (Err leaves) y z = refl

-- a line, and what follows
pub answer_of-line_then : (rule : Rule) (x : Checked Bool) (v : Verdict) → answer_of (line rule x then v) ≡ first_of x (answer_of v)
answer_of-line_then rule x v = answer_of-then (line rule x) v ∙ ap (λ y. first_of y (answer_of v)) (answer_of-line rule x)

-- ---- a test that goes from part to part of a range that they cover

module _ {A : Type 0} (range_of : A → Range) (judge : List Range → A → Verdict) (bx : List Range) (covered : Range) (parts : List A) where
  abbrev pub answer_from : ℤ → ℕ → Checked Bool
  answer_from next at = answer_of (judge_each range_of (judge bx) next covered.high (drop at parts))

  abbrev pub whole_answer : Checked Bool
  whole_answer = answer_of (judge_each range_of (judge bx) covered.low covered.high parts)

  -- the parts before this one pass: the box is as it was, and the others answer for all
  pub record ArePassed (now : List Range) (next : ℤ) (at : ℕ) : Type 0 where
    pub same : now ≡ bx
    pub reached : covered.low ≤ℤ next
    pub others : answer_from next at ≡ whole_answer

-- at the part at this place, whose range follows on or doesn't
module _ {A : Type 0} {range_of : A → Range} {judge : List Range → A → Verdict} {bx : List Range} {covered : Range} {parts : List A} {now : List Range} {next : ℤ} {at : ℕ}
    (passed : ArePassed range_of judge bx covered parts now next at) {part : A} (there : at < length parts) (part_is : part ≡ get_or parts at part)
    {last follows : Bool} (follows_is : follows ≡ follows_on next covered.high last (range_of part)) (last_is : last ≡ is_last_before (drop (at + 1) parts)) where
  pub part_inside : follows ≡ true → IsInside (range_of part) covered
  part_inside on = (following next covered last (range_of part) passed.reached (sym follows_is ∙ on)).inside

  abbrev after : ℤ
  after = (range_of part).high +ℤ pos 1

  part_then_others : (answer : Checked Bool) → answer ≡ first_of (Ok follows) (answer_of (judge now part))
      → first_of answer (answer_from range_of judge bx covered parts after (at + 1)) ≡ whole_answer range_of judge bx covered parts
  part_then_others answer told =
      let others : Verdict = judge_each range_of (judge bx) after covered.high (drop (at + 1) parts) in
      let test : follows ≡ follows_on next covered.high (is_last_before (drop (at + 1) parts)) (range_of part) = follows_is ∙ ap (λ l. follows_on next covered.high l (range_of part)) last_is in
      let split : drop at parts ≡ part ∷ drop (at + 1) parts = drop_more parts at part there ∙ ap (λ p. p ∷ drop (at + 1) parts) (sym part_is) in
      ap (λ x. first_of x (answer_of others)) told
      ∙ first_of-assoc (Ok follows) (answer_of (judge now part)) (answer_of others)
      ∙ ap (first_of (Ok follows)) (ap (λ b. first_of (answer_of (judge b part)) (answer_of others)) passed.same ∙ sym (answer_of-then (judge bx part) others))
      ∙ ap (λ b. first_of (Ok b) (answer_of (judge bx part then others))) test
      ∙ sym (answer_of-line_then rule.Cover (Ok (follows_on next covered.high (is_last_before (drop (at + 1) parts)) (range_of part))) (judge bx part then others))
      ∙ sym (ap (λ ps. answer_of (judge_each range_of (judge bx) next covered.high ps)) split)
      ∙ passed.others

  pub part_leaves : (leaves : Leaves) → Err leaves ≡ first_of (Ok follows) (answer_of (judge now part)) → Err leaves ≡ whole_answer range_of judge bx covered parts
  part_leaves leaves told = part_then_others (Err leaves) told

  pub part_fails : Ok false ≡ first_of (Ok follows) (answer_of (judge now part)) → Ok false ≡ whole_answer range_of judge bx covered parts
  part_fails told = part_then_others (Ok false) told

  pub part_passes : Ok true ≡ first_of (Ok follows) (answer_of (judge now part)) → (then_bx : List Range) → then_bx ≡ now → ArePassed range_of judge bx covered parts then_bx after (at + 1)
  part_passes told then_bx stays = record {
    same = stays ∙ passed.same;
    reached = (following next covered last (range_of part) passed.reached (sym follows_is ∙ follows_if_passed follows (answer_of (judge now part)) told)).goes_on;
    others = part_then_others (Ok true) told;
  }
    where
      follows_if_passed : (b : Bool) (below : Checked Bool) → Ok true ≡ first_of (Ok b) below → b ≡ true
      follows_if_passed true below e = refl
      follows_if_passed false below e = cc

-- the line that counts the parts, and the parts
module _ {A : Type 0} (range_of : A → Range) (judge : A → Verdict) (covered : Range) (parts : List A) where
  pub counted_parts : counts_right covered (length parts) ≡ true → answer_of (judge_parts range_of judge covered parts) ≡ answer_of (judge_each range_of judge covered.low covered.high parts)
  counted_parts e =
      answer_of-line_then rule.Cover (Ok (counts_right covered (length parts))) (judge_each range_of judge covered.low covered.high parts)
      ∙ ap (λ b. first_of (Ok b) (answer_of (judge_each range_of judge covered.low covered.high parts))) e

  pub miscounted_parts : counts_right covered (length parts) ≡ false → answer_of (judge_parts range_of judge covered parts) ≡ Ok false
  miscounted_parts e =
      answer_of-line_then rule.Cover (Ok (counts_right covered (length parts))) (judge_each range_of judge covered.low covered.high parts)
      ∙ ap (λ b. first_of (Ok b) (answer_of (judge_each range_of judge covered.low covered.high parts))) e
