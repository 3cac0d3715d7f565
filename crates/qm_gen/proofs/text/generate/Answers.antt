use Rattle.std.proofs.Common.{ℕ, List, ◌++◌, ap, sym, ◌∙◌}
use Rattle.qm_gen.specs.Generated.{variables}
use Rattle.qm_gen.proofs.Appended.{filter_all}
use Rattle.qm_gen.proofs.Made.{made, made_small, uncertain_part}
use Rattle.qm_gen.proofs.text.generate.Goals as goal

pub returns-clause-text : goal.returns-clause-text
returns-clause-text c =
    made c.args.number c.args.size c.new-draws.result.state c.write_objective.new.draws.state c.new-out.result c.write_objective.new.out c.write_rows.new.out c.write_uncertainty.new.out c.write_lists.new.out
    c.as_slice-2.result.now c.as_slice-3.result.now c.as_slice-4.result.now
    (record {
      from_nothing = c.new-out.ensures;
      from_number = c.new-draws.ensures;
      objective = c.in_ok-write_objective.ensures.text;
      drawn = c.in_ok-write_objective.ensures.state;
      rows = c.in_ok-write_rows.ensures;
      everyone_is = c.as_slice-2.ensures ∙ c.in_ok-everyone.ensures.numbers ∙ filter_all (variables c.args.size);
      existential_is = c.as_slice-3.ensures ∙ c.in_ok-existential.ensures.numbers;
      universal_is = c.as_slice-4.ensures ∙ c.in_ok-universal.ensures.numbers;
      uncertain = c.in_ok-write_uncertainty.ensures ∙ ap (λ (us : List ℕ). c.write_rows.new.out ++ uncertain_part us) (c.as_slice.ensures ∙ sym c.as_slice-4.ensures);
      lists = c.in_ok-write_lists.ensures;
    })

pub returns-clause-small : goal.returns-clause-small
returns-clause-small c = made_small c.args.number c.args.size c.write_lists.new.out c.requires.few (returns-clause-text c)
