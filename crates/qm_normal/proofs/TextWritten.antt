-- Values meet the normal form exactly where they meet the text.
use Rattle.std.proofs.Common.{◌≡◌, ◌↔◌, cond, ℕ, suc, ◌+◌, ◌<◌, ◌≤◌, Bool, true, false, not, List, [], ◌∷◌, ◌++◌, get_or, length, refl, sym, ap, ◌∙◌, subst, arith, ℤ, pos, ◌*ℤ◌, Ok, Option, Some, None}
use Rattle.std.specs.Prelude.{All, IsTrue, filter, map}
use Rattle.std.proofs.lemmas.List.{length-append, length-map}
use Rattle.std.proofs.lemmas.List.Elements.{All-append, All-cons, All-filter, All-head, All-nil, All-same, All-tail, filter_passes}
use Rattle.std.proofs.lemmas.Bool.{not-true}
use Rattle.qm_math.proofs.Lists.{all_left, all_right}
use Rattle.qm_model.specs.declared.game.Problem.{Problem}
use Rattle.qm_model.specs.declared.row.Row.{Row}
use Rattle.qm_model.specs.Points.{AreWithinOver, HoldsOver}
use Rattle.qm_parse.specs.declared.ast.Ast.{Ast}
use Rattle.qm_parse.specs.declared.ast.AstRow.{AstRow}
use Rattle.qm_parse.specs.declared.ast.AstTerm.{AstTerm}
use Rattle.qm_parse.specs.declared.ast.Named.{Named}
use Rattle.qm_parse.specs.Checks.{Has, NamesRight, bound_uses, row_uses, term_use, term_uses}
use Rattle.qm_normal.specs.declared.fault.Which.{Which}
use Rattle.qm_normal.specs.declared.fault.Which.TheVariants as which
use Rattle.qm_normal.specs.Meaning.{AreWholeOver, HasNamesInOrder, HasNoConstant, IsMet, MeetsProblem, MeetsText, in_game_order, value_over}
use Rattle.qm_normal.specs.Normal.{bound_rows_from, narrow, normal_form, problem_with, rows_from}
use Rattle.qm_normal.specs.Numbers.{HasProperNumbers, IsProperRow}
use Rattle.qm_normal.specs.Rows.{normal_row, related}
use Rattle.qm_normal.specs.Variables.{continuous_names, game_order, is_whole, vars_of, whole_names}
use Rattle.qm_normal.proofs.BoundRows.{IsInExact, IsInRounded, continuous_list, whole_means, within_list}
use Rattle.qm_normal.proofs.NormalBounds.{HasProperEnds}
use Rattle.qm_normal.proofs.NormalDens.{proper_ends}
use Rattle.qm_normal.proofs.NormalSteps.{bind-ok, narrow-ok, normal_parts, same_ok}
use Rattle.qm_normal.proofs.NormalVars.{all_parts}
use Rattle.qm_normal.proofs.RowsWritten.{row_means}

-- ---- names stand in ORDER

term_ordered : (ast : Ast) (term : AstTerm) → All (λ named. Has ast.order named.name) (term_use term) → (name : ℕ) → term.name ≡ Some name → Has ast.order name
unfolding term_use
term_ordered ast term all name e =
    let H : Named → Type 0 = λ named. Has ast.order named.name in
    let used : List Named = record { name = name; at = term.at } ∷ [] in
    let same : used ≡ (let z : List Named = elim term.name [ None ↦ [] | Some n ↦ record { name = n; at = term.at } ∷ [] ] in z) =
    subst (λ (o : Option ℕ). used ≡ (let z : List Named = elim o [ None ↦ [] | Some n ↦ record { name = n; at = term.at } ∷ [] ] in z)) (sym e) refl in
    All-head H (record { name = name; at = term.at }) [] (subst (All H) (sym same) all)

terms_ordered : (ast : Ast) (terms : List AstTerm) → All (λ named. Has ast.order named.name) (term_uses terms) → HasNamesInOrder ast terms
terms_ordered ast terms all = λ k d inside. term_ordered ast (get_or terms k d) (all_parts (λ (named : Named). Has ast.order named.name) term_use terms all k d inside)

rows_ordered : (ast : Ast) (rows : List AstRow) → All (λ named. Has ast.order named.name) (row_uses rows) → All (λ row. HasNamesInOrder ast row.terms) rows
rows_ordered ast rows all = λ k d inside. terms_ordered ast (get_or rows k d).terms (all_parts (λ (named : Named). Has ast.order named.name) (λ (row : AstRow). term_uses row.terms) rows all k d inside)

pub record OrderedNames (ast : Ast) : Type 0 where
  pub objective : HasNamesInOrder ast ast.objective
  pub rows : All (λ row. HasNamesInOrder ast row.terms) ast.rows
  pub uncertain : All (λ row. HasNamesInOrder ast row.terms) ast.uncertain

pub ordered_names : (ast : Ast) → NamesRight ast → OrderedNames ast
ordered_names ast right =
    let H : Named → Type 0 = λ named. Has ast.order named.name in
    let a = all_left H _ ast.universal right.ordered in
    let b = all_left H _ ast.existential a in
    let c = all_left H _ ast.binaries b in
    let d = all_left H _ ast.generals c in
    let e = all_left H _ (bound_uses ast.bounds) d in
    let f = all_left H _ (row_uses ast.uncertain) e in
    record {
      objective = terms_ordered ast ast.objective (all_left H (term_uses ast.objective) (row_uses ast.rows) f);
      rows = rows_ordered ast ast.rows (all_right H (term_uses ast.objective) (row_uses ast.rows) f);
      uncertain = rows_ordered ast ast.uncertain (all_right H _ (row_uses ast.uncertain) e);
    }

-- ---- the rows of a section

pub section_means : (ast : Ast) (den : ℕ) (nums : ℕ → ℤ) → NamesRight ast → 0 < den → (part : ℕ → Which) (number : ℕ) (list : List AstRow) (rows : List Row)
    → All IsProperRow list → All HasNoConstant list → All (λ row. HasNamesInOrder ast row.terms) list → rows_from part ast number list ≡ Ok rows
    → All (HoldsOver den (in_game_order ast nums)) rows ↔ All (IsMet (value_over den nums)) list
unfolding rows_from
section_means ast den nums right some part number [] rows proper none ordered h =
    let Q = HoldsOver den (in_game_order ast nums) in
    (λ k. All-nil (IsMet (value_over den nums)), λ k. All-same Q rows [] (sym (same_ok [] rows h)) (All-nil Q))
section_means ast den nums right some part number (row ∷ list) rows proper none ordered h =
    let Q = HoldsOver den (in_game_order ast nums) in
    let M = IsMet (value_over den nums) in
    let N : AstRow → Type 0 = λ row. HasNamesInOrder ast row.terms in
    let one = bind-ok (narrow (part number) (normal_row (vars_of ast) (game_order ast) row.terms row.right)) _ rows h in
    let others = bind-ok (rows_from part ast (suc number) list) _ rows one.2 in
    let made = related row.relation one.0 in
    let e : made ++ others.0 ≡ rows = same_ok (made ++ others.0) rows others.2 in
    let here = row_means ast row one.0 den nums right (All-head IsProperRow row list proper) (All-head HasNoConstant row list none) (All-head N row list ordered) some
    (narrow-ok (part number) (normal_row (vars_of ast) (game_order ast) row.terms row.right) one.0 one.1) in
    let rest = section_means ast den nums right some part (suc number) list others.0 (All-tail IsProperRow row list proper) (All-tail HasNoConstant row list none) (All-tail N row list ordered) others.1 in (
      λ k. let all = All-same Q (made ++ others.0) rows e k in All-cons M row list (here.0 (all_left Q made others.0 all)) (rest.0 (all_right Q made others.0 all)),
      λ k. All-same Q rows (made ++ others.0) (sym e) (All-append Q made others.0 (here.1 (All-head M row list k)) (rest.1 (All-tail M row list k))),
    )

-- ---- the bounds

unfilter : {A : Type 0} (P : A → Type 0) (test : A → Bool) (xs : List A) → All P (filter test xs) → All P (filter (λ x. not (test x)) xs) → All P xs
unfilter P test [] a b = All-nil P
unfilter P test (x ∷ xs) a b =
    let yes_list = filter test xs in
    let no_list = filter (λ y. not (test y)) xs in
    elim (test x) as (λ c. All P (cond c (x ∷ yes_list) yes_list) → All P (cond (not c) (x ∷ no_list) no_list) → All P (x ∷ xs)) [
      | true ↦ λ p q. All-cons P x xs (All-head P x yes_list p) (unfilter P test xs (All-tail P x yes_list p) q)
      | false ↦ λ p q. All-cons P x xs (All-head P x no_list q) (unfilter P test xs p (All-tail P x no_list q))
    ] a b

get_or-map_behind : (f : Named → ℤ) (w c : List Named) (i : ℕ) → get_or (map f (w ++ c)) (length w + i) (pos 0) ≡ get_or (map f c) i (pos 0)
get_or-map_behind f [] c i = ap (λ (j : ℕ). get_or (map f c) j (pos 0)) (let e : 0 + i ≡ i = omega arith in e)
get_or-map_behind f (x ∷ w) c i =
    ap (λ (j : ℕ). get_or (f x ∷ map f (w ++ c)) j (pos 0)) (let e : suc (length w) + i ≡ suc (length w + i) = omega arith in e) ∙ get_or-map_behind f w c i

pub bounds_mean : (ast : Ast) (den : ℕ) (nums : ℕ → ℤ) (rows : List Row) → HasProperNumbers ast → 0 < den → AreWholeOver den nums ast
    → bound_rows_from ast (length (whole_names ast)) (continuous_names ast) ≡ Ok rows
    → (AreWithinOver den (vars_of ast) (in_game_order ast nums) × All (HoldsOver den (in_game_order ast nums)) rows) ↔ All (IsInExact ast den nums) ast.order
bounds_mean ast den nums rows proper some whole h =
    let w = whole_names ast in
    let c = continuous_names ast in
    let R = IsInRounded ast den nums in
    let X = IsInExact ast den nums in
    let values = in_game_order ast nums in
    let test : Named → Bool = λ named. is_whole ast named.name in
    let other : Named → Bool = λ named. not (is_whole ast named.name) in
    let ends : All (HasProperEnds ast) c = λ k d inside. proper_ends ast (get_or c k d) proper in
    let free : All (λ named. is_whole ast named.name ≡ false) c = λ k d inside. not-true (is_whole ast (get_or c k d).name) (filter_passes other ast.order k d inside) in
    let wholes = filter_passes test ast.order in
    let IsMultiple : Named → Type 0 = λ named. IsTrue (is_whole ast named.name) → (k : ℤ) × (nums named.name ≡ k *ℤ pos den) in
    let multiples : All IsMultiple w = All-filter test IsMultiple ast.order whole in
    let each : (k : ℕ) (d : Named) → k < length w → R (get_or w k d) ↔ X (get_or w k d) =
    λ k d inside.
    let named = get_or w k d in
    let multiple = multiples k d inside (wholes k d inside) in
    whole_means ast den nums named multiple.0 (proper_ends ast named proper) (wholes k d inside) some multiple.1 in
    let long : length w + length c ≤ length values = omega (arith, length-map (game_order ast) (λ (named : Named). nums named.name), length-append w c) in
    let list = continuous_list ast den nums values (length w) c rows ends free long (λ i. get_or-map_behind (λ (named : Named). nums named.name) w c i) h in
    let within = within_list ast den nums (game_order ast) in (
      λ k.
          let all = within.0 k.0 in
          let a = all_left R w c all in
          let b = list.0 (all_right R w c all, k.1) in
          unfilter X test ast.order (λ i d inside. (each i d inside).0 (a i d inside)) b,
      λ k.
          let b = list.1 (All-filter other X ast.order k) in
          let a : All R w = λ i d inside. (each i d inside).1 (All-filter test X ast.order k i d inside) in
          (within.1 (All-append R w c a b.0), b.1),
    )

-- ---- all of it

pub problem_means : (ast : Ast) (P : Problem) (den : ℕ) (nums : ℕ → ℤ) → NamesRight ast → HasProperNumbers ast → All HasNoConstant ast.rows → All HasNoConstant ast.uncertain
    → normal_form ast ≡ Ok P → 0 < den → AreWholeOver den nums ast → MeetsProblem P den (in_game_order ast nums) ↔ MeetsText ast (value_over den nums)
problem_means ast P den nums right proper none none_uncertain h some whole =
    let values = in_game_order ast nums in
    let Q = HoldsOver den values in
    let parts = normal_parts ast P h in
    let names = ordered_names ast right in
    let written = bind-ok (rows_from which.Row ast 0 ast.rows) _ parts.rows parts.rows_are in
    let added = bind-ok (bound_rows_from ast (length (whole_names ast)) (continuous_names ast)) _ parts.rows written.2 in
    let e : written.0 ++ added.0 ≡ parts.rows = same_ok (written.0 ++ added.0) parts.rows added.2 in
    let rows = section_means ast den nums right some which.Row 0 ast.rows written.0 proper.rows none names.rows written.1 in
    let urows = section_means ast den nums right some which.Uncertainty 0 ast.uncertain parts.urows proper.uncertain none_uncertain names.uncertain parts.urows_are in
    let bounds = bounds_mean ast den nums added.0 proper some whole added.1 in
    let Made = problem_with ast parts.rows parts.urows parts.objective in
    let there : MeetsProblem Made den values → MeetsText ast (value_over den nums) =
    λ k.
    let all = All-same Q (written.0 ++ added.0) parts.rows e k.rows in
    record {
      bounds = bounds.0 (k.within, all_right Q written.0 added.0 all);
      rows = rows.0 (all_left Q written.0 added.0 all);
      uncertain = urows.0 k.urows;
    } in
    let back : MeetsText ast (value_over den nums) → MeetsProblem Made den values =
    λ k.
    let b = bounds.1 k.bounds in
    record {
      within = b.0;
      rows = All-same Q parts.rows (written.0 ++ added.0) (sym e) (All-append Q written.0 added.0 (rows.1 k.rows) b.1);
      urows = urows.1 k.uncertain;
    } in
    (λ k. there (subst (λ (R : Problem). MeetsProblem R den values) (sym parts.problem) k), λ k. subst (λ (R : Problem). MeetsProblem R den values) parts.problem (back k))
