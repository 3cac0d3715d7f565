-- What words ask for, and words that ask for nothing.
use Rattle.std.proofs.Common.{◌≡◌, ◌≤◌, ℕ, List, [], ◌∷◌, ◌∙◌, ap, subst, sym, inr, get_or, arith}
use Rattle.std.specs.Prelude.{codes}
use Rattle.std.specs.Fmt.{decimal}
use Rattle.qm_top.specs.declared.command.Command.{Command}
use Rattle.qm_top.specs.declared.command.Command.TheVariants.{Check, Gen, GenSolve, Solve}
use Rattle.qm_top.specs.Words.{Asks, AsksNodes}

-- the words ask for nothing
abbrev pub AskNothing : List (List ℕ) → Type 0
AskNothing words = (command : Command) → ¬ Asks command words

-- the words for a budget
pub asked_nodes : (words : List (List ℕ)) (number : List ℕ) (nodes others : ℕ) → words ≡ codes "--nodes" ∷ number ∷ []
    → (1 ≤ nodes) × (nodes ≤ 50000000) × (number ≡ decimal nodes) → others ≡ nodes → AsksNodes others words
asked_nodes words number nodes others is spelt same =
    subst (λ n. AsksNodes n words) (sym same) (inr (is ∙ ap (λ word. codes "--nodes" ∷ word ∷ []) spelt.2, (spelt.0, spelt.1)))

-- the words begin with another letter
pub check_isnt_solve : codes "check" ≡ codes "solve" → ⊥
check_isnt_solve same =
    let first : 99 ≡ 115 = ap (λ word. get_or word 0 0) same in
    omega (arith, first)

-- where the words behind FILE ask for no budget, there is no command
pub no_budget_asked : (file : List ℕ) (behind : List (List ℕ)) → ((nodes : ℕ) → ¬ AsksNodes nodes behind) → AskNothing (codes "solve" ∷ file ∷ behind)
no_budget_asked file behind none (Solve nodes) asks =
    let also = asks.3 in
    let same : asks.1 ≡ behind = cc in
    none nodes (subst (AsksNodes nodes) same asks.4)
no_budget_asked file behind none Check asks =
    let is = asks.4 in
    let same : codes "solve" ≡ codes "check" = ap (λ words. get_or words 0 []) is in
    check_isnt_solve (sym same)
no_budget_asked file behind none (Gen number size) asks = let also = asks.3 in cc
no_budget_asked file behind none (GenSolve number size) asks = let also = asks.3 in cc
