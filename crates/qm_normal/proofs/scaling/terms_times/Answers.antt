use Rattle.std.proofs.Common.{◌≡◌, ◌<◌, ◌^◌, ◌++◌, [], ◌∷◌, ap, ◌∙◌, subst, arith, rules, ℤ, unsigned_abs}
use Rattle.std.proofs.lemmas.Grind.{common_steps}
use Rattle.std.specs.Prelude.{All}
use Rattle.std.proofs.lemmas.List.{take_all}
use Rattle.std.proofs.lemmas.List.Elements.{All-more}
use Rattle.qm_math.specs.Fraction.{Fraction}
use Rattle.qm_normal.specs.Rows.{nonzero_from, times}
use Rattle.qm_normal.proofs.NonzeroTerms.{items_ordered, terms_all, terms_more}
use Rattle.qm_normal.proofs.scaling.terms_times.Goals as goal

pub loop-var-preserved : goal.loop-var-preserved
loop-var-preserved c =
    let pushed : c.push_nonzero.new.items.items ≡ c.loop-var.items.items ++ nonzero_from c.loop-var.var (c.in-Some.coef ∷ []) = first_of (search rules, grind (arith, common_steps)) in record {
      items =
          terms_more c.args.d c.args.sums.now c.loop-var.var c.index-sums-var.result c.loop-var.items.items c.push_nonzero.new.items.items _ (omega arith) c.index-sums-var.is
          (pushed ∙ ap (λ (k : ℤ). c.loop-var.items.items ++ nonzero_from c.loop-var.var (k ∷ [])) c.in-Some.ensures.1) c.loop-var.invariant.items;
      narrow =
          All-more (λ (sum : Fraction). unsigned_abs (times c.args.d sum) < 2 ^ 127) c.args.sums.now c.loop-var.var c.index-sums-var.result (omega arith) c.loop-var.invariant.narrow
          (subst (λ (sum : Fraction). unsigned_abs (times c.args.d sum) < 2 ^ 127) c.index-sums-var.is c.in-Some.ensures.0);
    }

pub new-requires : goal.new-requires
new-requires c = items_ordered c.args.d c.args.sums.now c.loop-var.var c.loop-var.items.items (omega arith) c.loop-var.invariant.items

pub returns : goal.returns
returns c = (
  subst (All (λ (sum : Fraction). unsigned_abs (times c.args.d sum) < 2 ^ 127)) (take_all c.loop-var.var c.args.sums.now (omega arith)) c.loop-var.invariant.narrow,
  c.new.ensures ∙ terms_all c.args.d c.args.sums.now c.loop-var.var c.loop-var.items.items (omega arith) c.loop-var.invariant.items,
)
