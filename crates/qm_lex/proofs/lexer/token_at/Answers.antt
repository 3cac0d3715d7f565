use Rattle.std.proofs.Common.{◌≡◌, ℕ, ◌+◌, ◌-◌, ◌≤◌, drop, length, length-drop, refl, subst, arith}
use Rattle.std.proofs.lemmas.List.{take_rest}
use Rattle.qm_lex.specs.Texts.{IsLongest}
use Rattle.qm_lex.proofs.lexer.token_at.Goals as goal

pub returns-in-Some : goal.returns-in-Some
returns-in-Some c =
    let text = c.args.text.now in
    let at = c.args.at in
    let kind = c.in-Some.found.kind in
    let n = c.in-Some.found.len in
    let front = rw (take_rest text at) at c.in-Some.ensures in
    let inside : n ≤ length text - at = rw length-drop at front.1.inside in
    let same : n ≡ at + n - at = omega arith in
    let P : ℕ → Type 0 = λ m. IsLongest (drop at text) kind m in (
      refl,
      omega (arith, front.0),
      omega arith,
      record { ordered = omega arith; longest = subst P same front.1 },
    )
