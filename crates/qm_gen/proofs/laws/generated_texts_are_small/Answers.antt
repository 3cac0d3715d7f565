use Rattle.std.proofs.Common.{ℕ, ◌≤◌, refl, sym}
use Rattle.std.specs.Prelude.{IsTrue}
use Rattle.std.proofs.lemmas.List.{length-map}
use Rattle.std.proofs.lemmas.List.Elements.{All-map}
use Rattle.qm_model.specs.declared.variable.Var.{Var}
use Rattle.qm_small.specs.Problems.{var_of}
use Rattle.qm_gen.specs.Generated.{generated, generated_problem, generated_text}
use Rattle.qm_gen.proofs.Short.{writable}
use Rattle.qm_gen.proofs.laws.generated_texts_are_small.Goals as goal

pub returns : goal.returns
returns c =
    let small = λ (number size : ℕ) (few : size ≤ 100). c.written_texts_are_small.ensures (generated number size) (writable number size few) in
    let states = λ (number size : ℕ) (few : size ≤ 100). c.small_texts_are_read_the_same.ensures (generated_text number size) (generated_problem number size) (small number size few) in
    record {
      small = small;
      states = states;
      one = λ number size P few other. c.one_problem_a_text.ensures (generated_text number size) P (generated_problem number size) other (states number size few);
      whole = λ number size. All-map (λ (x : Var). IsTrue x.whole) (var_of (generated number size).universal) (generated number size).order (λ k d below. refl);
      wholes = λ number size. sym (length-map (generated number size).order (var_of (generated number size).universal));
    }
