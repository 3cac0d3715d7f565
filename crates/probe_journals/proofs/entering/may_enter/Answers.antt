use Rattle.std.proofs.Common.{◌≡◌, ◌∙◌, ◌++◌, ◌∷◌, [], refl, sym, ap, subst, List, ℤ}
use Rattle.std.proofs.lemmas.Int.{to_z-of_z}
use mir.Syntax.{w64}
use Rattle.qm_journal.specs.Lawful.{IsOpen}
use Rattle.qm_journal.specs.Positions.{position_of}
use Rattle.probe_journals.proofs.entering.may_enter.Goals as goal

pub returns : goal.returns
returns c = λ opens.
    let P = c.args.game.now in
    let longer = rw (to_z-of_z w64 c.args.value c.ranges.value) at c.in_ok-longer.ensures in
    let same : c.args.prefix.now ≡ (position_of c.args.entries.now c.args.parent).prefix ++ c.args.value ∷ [] =
    sym (c.if-not-is_same.ensures refl) ∙ c.as_slice-2.ensures ∙ longer ∙ ap (λ (vs : List ℤ). vs ++ c.args.value ∷ []) (c.as_slice.ensures ∙ c.in_ok-before.ensures) in
    record {
      parent = c.if-not-is_game_parent.ensures refl;
      new = rw (to_z-of_z w64 c.args.value c.ranges.value) at (c.if-not-is_new.ensures refl);
      appends = subst (IsOpen P) same (c.in_ok-opens.ensures opens);
    }
