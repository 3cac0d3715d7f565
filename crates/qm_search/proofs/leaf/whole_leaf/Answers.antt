use Rattle.std.proofs.Common.{[], ap}
use Rattle.qm_trees.specs.declared.policy.Policy.{Leaf}
use Rattle.qm_trees.specs.declared.refutation.Refute.{Close}
use Rattle.qm_search.proofs.SetLeaves.{leaf_secures, objective_refutes}
use Rattle.qm_search.proofs.leaf.whole_leaf.Goals as goal

pub returns : goal.returns
returns c = λ depth.
    let sound = rw c.problem-problem.ensures.value at c.problem-problem.ensures.sound in
    record {
      positive = c.den-positive.ensures.terms.positive;
      secures = leaf_secures c.args.game.now depth c.args.bx.now sound c.requires.bx c.objective_bound-bound.result c.objective_bound-bound.ensures
          (Leaf c.new.result) c.requires.all_whole c.requires.set c.requires.alive (ap Leaf c.new.ensures);
      refutes = objective_refutes c.args.game.now depth c.args.bx.now sound c.requires.bx c.objective_bound-bound.result c.objective_bound-bound.ensures [] (Close c.new-combo.result) (ap Close c.new-combo.ensures);
    }
