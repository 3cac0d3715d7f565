use Rattle.std.proofs.Common.{rules, arith, ◌≡◌, ℕ, List, Ok, Some, map, Vec, Global, refl, sym, ap, subst, ◌∙◌}
use Rattle.std.specs.Prelude.{slice_get}
use Rattle.std.proofs.lemmas.Grind.{common_steps}
use Rattle.qm_parse.specs.NameTables.{AreDistinct, stands_in}
use Rattle.qm_parse.specs.Symbols.{with_name}
use Rattle.qm_parse.proofs.NameKeys.{names-found, names-inserted, number-at, number-found}
use Rattle.qm_parse.proofs.OneSymbols.{distinct-more}
use Rattle.qm_parse.proofs.names.Names.number.Goals as goal

abbrev bytes : Vec ℕ Global → List ℕ
bytes key = key.items

pub returns-in-Some-clause-number : goal.returns-in-Some-clause-number
returns-in-Some-clause-number c =
    ap (λ (names : List (List ℕ)). slice_get names c.in-Some.number) (sym c.self.view_is) ∙ number-found bytes c.self.inside.set.keys c.args.name.now c.in-Some.number (sym c.in-Some.ensures.index)

pub returns-in-Some-clause-names : goal.returns-in-Some-clause-names
returns-in-Some-clause-names c =
    sym c.self.view_is ∙ names-found bytes c.self.inside.set.keys c.args.name.now (sym c.in-Some.ensures.found) ∙ ap (λ (names : List (List ℕ)). with_name names c.args.name.now) c.self.view_is

pub invariant_of-self-2 : goal.invariant_of-self-2
invariant_of-self-2 c =
    let names = map bytes c.self.inside.set.keys in
    let inserted : c.insert_full.result ≡ Ok (c.in_ok-number.number, c.in_ok-number.field-0-1) = first_of (search rules, grind (arith, common_steps)) in
    let same : c.in_ok-copy.copy.items ≡ c.args.name.now = c.in_ok-copy.ensures.items_if_clones_equal (λ x y h. h) in
    let all = names-inserted bytes c.self.inside.set.keys c.insert_full.new.self.keys c.in_ok-copy.copy c.args.name.now (rw inserted at c.insert_full.ensures.keys) same in
    subst AreDistinct (sym all) (distinct-more names c.args.name.now (stands_in names c.args.name.now) refl c.self.invariant)

pub returns-clause-number : goal.returns-clause-number
returns-clause-number c =
    let inserted : c.insert_full.result ≡ Ok (c.in_ok-number.number, c.in_ok-number.field-0-1) = first_of (search rules, grind (arith, common_steps)) in
    let same : c.in_ok-copy.copy.items ≡ c.args.name.now = c.in_ok-copy.ensures.items_if_clones_equal (λ x y h. h) in
    let stored = rw inserted at c.insert_full.ensures.stored in
    number-at bytes c.insert_full.new.self.keys c.in_ok-number.number stored.0 c.in_ok-copy.copy.items stored.1 stored.2 ∙ ap (λ (x : List ℕ). Some x) same

pub returns-clause-names : goal.returns-clause-names
returns-clause-names c =
    let inserted : c.insert_full.result ≡ Ok (c.in_ok-number.number, c.in_ok-number.field-0-1) = first_of (search rules, grind (arith, common_steps)) in
    let same : c.in_ok-copy.copy.items ≡ c.args.name.now = c.in_ok-copy.ensures.items_if_clones_equal (λ x y h. h) in
    names-inserted bytes c.self.inside.set.keys c.insert_full.new.self.keys c.in_ok-copy.copy c.args.name.now (rw inserted at c.insert_full.ensures.keys) same
    ∙ ap (λ (names : List (List ℕ)). with_name names c.args.name.now) c.self.view_is
