-- Words ask for one command.
use Rattle.std.proofs.Common.{◌≡◌, ℕ, List, [], ◌∷◌, inl, inr, refl, sym, ap, subst, ◌∙◌, arith, get_or}
use Rattle.std.specs.Prelude.{codes}
use Rattle.std.specs.Fmt.{decimal}
use Rattle.std.proofs.lemmas.Fmt.{decimal_injective}
use Rattle.qm_top.specs.declared.command.Command.{Command}
use Rattle.qm_top.specs.declared.command.Command.TheVariants.{Check, Gen, GenSolve, Solve}
use Rattle.qm_top.specs.Words.{Asks, AsksGen, AsksNodes}
use Rattle.qm_top.proofs.Asking.{check_isnt_solve}

nodes_once : (words : List (List ℕ)) (nodes others : ℕ) → AsksNodes nodes words → AsksNodes others words → nodes ≡ others
nodes_once words nodes others (inl none) (inl also) = none.1 ∙ sym also.1
nodes_once words nodes others (inl none) (inr named) =
    let is = none.0 in
    let so = named.0 in
    cc
nodes_once words nodes others (inr named) (inl none) =
    let is = none.0 in
    let so = named.0 in
    cc
nodes_once words nodes others (inr named) (inr also) =
    let is = named.0 in
    let so = also.0 in
    let same : decimal nodes ≡ decimal others = cc in
    decimal_injective nodes others (omega (arith, named.1.1)) (omega (arith, also.1.1)) same

one_budget : (words : List (List ℕ)) (nodes others : ℕ) → Asks (Solve nodes) words → Asks (Solve others) words → nodes ≡ others
one_budget words nodes others asks also =
    let is = asks.3 in
    let so = also.3 in
    let same : asks.1 ≡ also.1 = cc in
    nodes_once also.1 nodes others (subst (AsksNodes nodes) same asks.4) also.4

-- the words of `solve` aren't those of `gen`
solve_or_gen : (words : List (List ℕ)) (nodes number size : ℕ) (behind : List (List ℕ)) → Asks (Solve nodes) words → AsksGen number size behind words → ⊥
solve_or_gen words nodes number size behind asks also =
    let is = asks.3 in
    let so = also.3 in
    let same : codes "solve" ≡ codes "gen" = cc in
    cc

-- nor are those of `check` those of either
check_or_solve : (words : List (List ℕ)) (nodes : ℕ) → Asks Check words → Asks (Solve nodes) words → ⊥
check_or_solve words nodes asks also =
    let is = asks.4 in
    let so = also.3 in
    check_isnt_solve (ap (λ ws. get_or ws 0 []) (sym is ∙ so))

check_or_gen : (words : List (List ℕ)) (number size : ℕ) (behind : List (List ℕ)) → Asks Check words → AsksGen number size behind words → ⊥
check_or_gen words number size behind asks also =
    let is = asks.4 in
    let so = also.3 in
    let same : codes "check" ≡ codes "gen" = cc in
    cc

-- the number, the size and what stands behind them are told by the words
one_number : (words : List (List ℕ)) (number size other another : ℕ) (behind behinds : List (List ℕ)) → AsksGen number size behind words → AsksGen other another behinds words → number ≡ other
one_number words number size other another behind behinds asks also =
    let is = asks.3 in
    let so = also.3 in
    let same : decimal number ≡ decimal other = cc in
    decimal_injective number other (omega (arith, asks.0)) (omega (arith, also.0)) same

one_size : (words : List (List ℕ)) (number size other another : ℕ) (behind behinds : List (List ℕ)) → AsksGen number size behind words → AsksGen other another behinds words → size ≡ another
one_size words number size other another behind behinds asks also =
    let is = asks.3 in
    let so = also.3 in
    let same : decimal size ≡ decimal another = cc in
    decimal_injective size another (omega (arith, asks.2)) (omega (arith, also.2)) same

solved_or_not : (words : List (List ℕ)) (number size other another : ℕ) → AsksGen number size [] words → AsksGen other another (codes "--solve" ∷ []) words → ⊥
solved_or_not words number size other another asks also =
    let is = asks.3 in
    let so = also.3 in
    cc

pub one_command : (words : List (List ℕ)) (command other : Command) → Asks command words → Asks other words → command ≡ other
one_command words (Solve nodes) (Solve others) asks also = ap Solve (one_budget words nodes others asks also)
one_command words (Solve nodes) (Gen number size) asks also = absurd (solve_or_gen words nodes number size _ asks also)
one_command words (Solve nodes) (GenSolve number size) asks also = absurd (solve_or_gen words nodes number size _ asks also)
one_command words (Solve nodes) Check asks also = absurd (check_or_solve words nodes also asks)
one_command words Check (Solve nodes) asks also = absurd (check_or_solve words nodes asks also)
one_command words Check Check asks also = refl
one_command words Check (Gen number size) asks also = absurd (check_or_gen words number size _ asks also)
one_command words Check (GenSolve number size) asks also = absurd (check_or_gen words number size _ asks also)
one_command words (Gen number size) Check asks also = absurd (check_or_gen words number size _ also asks)
one_command words (GenSolve number size) Check asks also = absurd (check_or_gen words number size _ also asks)
one_command words (Gen number size) (Solve nodes) asks also = absurd (solve_or_gen words nodes number size _ also asks)
one_command words (Gen number size) (Gen other another) asks also =
    let numbers = one_number words number size other another _ _ asks also in
    let sizes = one_size words number size other another _ _ asks also in
    cc
one_command words (Gen number size) (GenSolve other another) asks also = absurd (solved_or_not words number size other another asks also)
one_command words (GenSolve number size) (Solve nodes) asks also = absurd (solve_or_gen words nodes number size _ also asks)
one_command words (GenSolve number size) (Gen other another) asks also = absurd (solved_or_not words other another number size also asks)
one_command words (GenSolve number size) (GenSolve other another) asks also =
    let numbers = one_number words number size other another _ _ asks also in
    let sizes = one_size words number size other another _ _ asks also in
    cc
