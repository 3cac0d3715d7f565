use Rattle.std.proofs.Common.{◌≡◌, All, take}
use Rattle.probe_journals.proofs.prefixes.is_new.Given as goal

abbrev pub invariant-loop-earlier : goal.invariant-loop-earlier
invariant-loop-earlier l = All (λ d. d ≡ l.entry → ⊥) (take l.earlier-index l.entries)
