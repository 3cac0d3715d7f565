use Rattle.std.proofs.Common.{◌≡◌, ◌∙◌, ap, sym, subst, ℤ, List, [], ◌∷◌, ◌++◌, drop}
use Rattle.std.proofs.lemmas.List.{drop_all}
use Rattle.qm_model.specs.declared.range.Range.{Range}
use Rattle.qm_trees.specs.Picks.{fixed}
use Rattle.qm_relax.proofs.FixedRanges.{range_kept, ranges_kept}
use Rattle.qm_relax.proofs.fixed.push_fixed.Goals as goal
use Rattle.qm_relax.proofs.fixed.push_fixed.Goals.{else-is_for_all-via-then-is_for_all+else-used-values, else-is_for_all-via-else-is_for_all}

pub returns-clause-next : goal.returns-clause-next
returns-clause-next c = λ xs bx.
    let x = c.args.var.now in
    let r = c.args.range in
    let out = c.args.out.now in
    let left = drop c.args.used c.args.values.now in
    ap (λ (rs : List Range). rs ++ fixed xs bx left) c.in_ok-push-2.ensures.ok
    ∙ elim c.else-is_for_all.branch [
      | else-is_for_all-via-then-is_for_all+else-used-values w ↦
          subst (λ (us : List ℤ). (out ++ r ∷ []) ++ fixed xs bx us ≡ out ++ fixed (x ∷ xs) (r ∷ bx) us)
          (sym (drop_all c.args.used c.args.values.now w.if-used-values.false)) (ranges_kept x r out xs bx)
      | else-is_for_all-via-else-is_for_all w ↦ range_kept x r out xs bx left (sym c.is_for_all.ensures ∙ w.if-is_for_all.false)
    ]
