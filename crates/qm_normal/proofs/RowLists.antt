-- Rows of a section, and of exact bounds, one after the other.
use Rattle.std.proofs.Common.{◌≡◌, ℕ, suc, ◌+◌, ◌<◌, ◌≤◌, Bool, true, false, true≢false, List, [], ◌∷◌, ◌++◌, length, drop, get_or, Option, Some, None, Result, Ok, Err, refl, sym, ap, ◌∙◌, subst, append_assoc, add-one, arith}
use Rattle.std.specs.Prelude.{MatchOption}
use Rattle.std.specs.Option.{option_and_then, option_map}
use Rattle.std.proofs.lemmas.List.{append-nil, at_drop_more, at_drop_all}
use Rattle.qm_model.specs.declared.row.Row.{Row}
use Rattle.qm_model.specs.declared.variable.Var.{Var}
use Rattle.qm_parse.specs.declared.ast.Ast.{Ast}
use Rattle.qm_parse.specs.declared.ast.AstRow.{AstRow}
use Rattle.qm_parse.specs.declared.ast.Named.{Named}
use Rattle.qm_normal.specs.declared.fault.NormalFault.{NormalFault}
use Rattle.qm_normal.specs.declared.fault.NormalFault.TheVariants as fault
use Rattle.qm_normal.specs.declared.fault.Which.{Which}
use Rattle.qm_normal.specs.declared.fault.Which.TheVariants as which
use Rattle.qm_normal.specs.declared.bound_rows.Bounds.{Bounds}
use Rattle.qm_normal.specs.BoundSteps.{bounds_of, rows_of_both}
use Rattle.qm_normal.specs.Normal.{bind, bound_rows_from, narrow, rows_from, with_front}
use Rattle.qm_normal.specs.Ends.{lower_end, upper_end}
use Rattle.qm_normal.specs.Rows.{bound_row, high_row, low_row, normal_row, related}
use Rattle.qm_normal.specs.Variables.{game_order, name_of, vars_of}

front_more : (front more : List Row) (answer : Result (List Row) NormalFault) → with_front front (with_front more answer) ≡ with_front (front ++ more) answer
unfolding bind
front_more front more (Ok rows) = ap (λ (list : List Row). Ok list) (sym (append_assoc front more rows))
front_more front more (Err wrong) = refl

pub front-nil : (answer : Result (List Row) NormalFault) → with_front [] answer ≡ answer
unfolding bind
front-nil (Ok rows) = refl
front-nil (Err wrong) = refl

front_fault : (front : List Row) (wrong : NormalFault) → with_front front (Err wrong) ≡ Err wrong
unfolding bind
front_fault front wrong = refl

front_end : (front : List Row) → with_front front (Ok []) ≡ Ok front
unfolding bind
front_end front = ap (λ (list : List Row). Ok list) (append-nil front)

-- ---- rows of a section

abbrev row_then : (ℕ → Which) → Ast → ℕ → AstRow → List AstRow → Option Row → Result (List Row) NormalFault
row_then part ast number row rows found = bind (narrow (part number) found) (λ one. with_front (related row.relation one) (rows_from part ast (suc number) rows))

rows-nil : (part : ℕ → Which) (ast : Ast) (number : ℕ) → rows_from part ast number [] ≡ Ok []
unfolding rows_from
rows-nil part ast number = refl

rows-cons : (part : ℕ → Which) (ast : Ast) (number : ℕ) (row : AstRow) (rows : List AstRow)
    → rows_from part ast number (row ∷ rows) ≡ row_then part ast number row rows (normal_row (vars_of ast) (game_order ast) row.terms row.right)
unfolding rows_from
rows-cons part ast number row rows = refl

then_one : (part : ℕ → Which) (ast : Ast) (number : ℕ) (row : AstRow) (rows : List AstRow) (one : Row)
    → row_then part ast number row rows (Some one) ≡ with_front (related row.relation one) (rows_from part ast (suc number) rows)
unfolding bind narrow
then_one part ast number row rows one = refl

then_wide : (part : ℕ → Which) (ast : Ast) (number : ℕ) (row : AstRow) (rows : List AstRow)
    → row_then part ast number row rows None ≡ Err (fault.Wide (part number))
unfolding bind narrow
then_wide part ast number row rows = refl

rows_front : (part : ℕ → Which) (ast : Ast) (rows : List AstRow) (i : ℕ) (row : AstRow) (found : Option Row) → i < length rows → row ≡ get_or rows i row
    → found ≡ normal_row (vars_of ast) (game_order ast) row.terms row.right
    → rows_from part ast i (drop i rows) ≡ row_then part ast i row (drop (i + 1) rows) found
rows_front part ast rows i row found inside is made =
    at_drop_more (rows_from part ast i) rows i row inside ∙ ap (λ (r : AstRow). rows_from part ast i (r ∷ drop (i + 1) rows)) (sym is)
    ∙ rows-cons part ast i row (drop (i + 1) rows) ∙ ap (row_then part ast i row (drop (i + 1) rows)) (sym made)

pub turn_rows : (part : ℕ → Which) (ast : Ast) (rows : List AstRow) (i : ℕ) (row : AstRow) (one : Row) (list new : List Row) (answer : Result (List Row) NormalFault) → i < length rows → row ≡ get_or rows i row
    → Some one ≡ normal_row (vars_of ast) (game_order ast) row.terms row.right → new ≡ list ++ related row.relation one
    → with_front list (rows_from part ast i (drop i rows)) ≡ answer → with_front new (rows_from part ast (i + 1) (drop (i + 1) rows)) ≡ answer
turn_rows part ast rows i row one list new answer inside is made put so_far =
    let rest = rows_from part ast (suc i) (drop (i + 1) rows) in
    ap (λ (n : ℕ). with_front new (rows_from part ast n (drop (i + 1) rows))) (add-one i)
    ∙ ap (λ (front : List Row). with_front front rest) put
    ∙ sym (front_more list (related row.relation one) rest)
    ∙ ap (with_front list) (sym (rows_front part ast rows i row (Some one) inside is made ∙ then_one part ast i row (drop (i + 1) rows) one))
    ∙ so_far

pub wide_rows : (part : ℕ → Which) (ast : Ast) (rows : List AstRow) (i : ℕ) (row : AstRow) (list : List Row) (answer : Result (List Row) NormalFault) → i < length rows → row ≡ get_or rows i row
    → None ≡ normal_row (vars_of ast) (game_order ast) row.terms row.right
    → with_front list (rows_from part ast i (drop i rows)) ≡ answer → answer ≡ Err (fault.Wide (part i))
wide_rows part ast rows i row list answer inside is made so_far =
    sym so_far ∙ ap (with_front list) (rows_front part ast rows i row None inside is made ∙ then_wide part ast i row (drop (i + 1) rows))
    ∙ front_fault list (fault.Wide (part i))

pub last_rows : (part : ℕ → Which) (ast : Ast) (rows : List AstRow) (i : ℕ) (list : List Row) (answer : Result (List Row) NormalFault) → length rows ≤ i
    → with_front list (rows_from part ast i (drop i rows)) ≡ answer → answer ≡ Ok list
last_rows part ast rows i list answer end so_far =
    sym so_far ∙ ap (with_front list) (at_drop_all (rows_from part ast i) rows i end ∙ rows-nil part ast i) ∙ front_end list

-- ---- rows of exact bounds

-- what a call tells of the rows that it put, where it tells whether they are narrow
abbrev pub IsPut : Option (List Row) → Bool → List Row → List Row → Type 0
IsPut found narrow old new = MatchOption found (narrow ≡ false) (λ rows. (narrow ≡ true) × (new ≡ old ++ rows))

abbrev bounds_then : Ast → ℕ → ℕ → List Named → Option (List Row) → Result (List Row) NormalFault
bounds_then ast var name list found = bind (narrow (which.Bound (name_of ast name)) found) (λ rows. with_front rows (bound_rows_from ast (suc var) list))

joined : (part : Which) (low high : Option (List Row))
    → bind (narrow part low) (λ one. bind (narrow part high) (λ other. Ok (one ++ other))) ≡ narrow part (option_and_then (λ one. option_map (λ other. one ++ other) high) low)
unfolding bind narrow
joined part None high = refl
joined part (Some one) None = refl
joined part (Some one) (Some other) = refl

bounds-nil : (ast : Ast) (var : ℕ) → bound_rows_from ast var [] ≡ Ok []
unfolding bound_rows_from
bounds-nil ast var = refl

bounds-cons : (ast : Ast) (var : ℕ) (named : Named) (list : List Named)
    → bound_rows_from ast var (named ∷ list) ≡ bounds_then ast var named.name list (rows_of_both (vars_of ast) var (bounds_of ast named))
unfolding bound_rows_from
bounds-cons ast var named list =
    ap (λ (r : Result (List Row) NormalFault). bind r (λ rows. with_front rows (bound_rows_from ast (suc var) list)))
    (joined (which.Bound (name_of ast named.name)) (bound_row (vars_of ast) (lower_end ast named.name) (low_row var (lower_end ast named.name)))
    (bound_row (vars_of ast) (upper_end ast named.name) (high_row var (upper_end ast named.name))))

bounds_put : (ast : Ast) (var : ℕ) (name : ℕ) (list : List Named) (found : Option (List Row)) (old new : List Row) → IsPut found true old new
    → with_front old (bounds_then ast var name list found) ≡ with_front new (bound_rows_from ast (suc var) list)
unfolding bind narrow
bounds_put ast var name list None old new put = absurd (true≢false put)
bounds_put ast var name list (Some rows) old new put =
    front_more old rows (bound_rows_from ast (suc var) list) ∙ ap (λ (front : List Row). with_front front (bound_rows_from ast (suc var) list)) (sym put.1)

bounds_wide : (ast : Ast) (var : ℕ) (name : ℕ) (list : List Named) (found : Option (List Row)) (old new : List Row) → IsPut found false old new
    → with_front old (bounds_then ast var name list found) ≡ Err (fault.Wide (which.Bound (name_of ast name)))
unfolding bind narrow
bounds_wide ast var name list None old new put = refl
bounds_wide ast var name list (Some rows) old new put = absurd (true≢false (sym put.0))

bounds_front : (ast : Ast) (first : ℕ) (list : List Named) (i : ℕ) (d : Named) → i < length list
    → bound_rows_from ast (first + i) (drop i list) ≡ bounds_then ast (first + i) (get_or list i d).name (drop (i + 1) list) (rows_of_both (vars_of ast) (first + i) (bounds_of ast (get_or list i d)))
bounds_front ast first list i d inside =
    at_drop_more (bound_rows_from ast (first + i)) list i d inside ∙ bounds-cons ast (first + i) (get_or list i d) (drop (i + 1) list)

pub turn_bounds : (ast : Ast) (first : ℕ) (list : List Named) (i : ℕ) (d : Named) (old new : List Row) (answer : Result (List Row) NormalFault) → i < length list
    → IsPut (rows_of_both (vars_of ast) (first + i) (bounds_of ast (get_or list i d))) true old new
    → with_front old (bound_rows_from ast (first + i) (drop i list)) ≡ answer → with_front new (bound_rows_from ast (first + (i + 1)) (drop (i + 1) list)) ≡ answer
turn_bounds ast first list i d old new answer inside put so_far =
    let next : first + (i + 1) ≡ suc (first + i) = omega arith in
    ap (λ (n : ℕ). with_front new (bound_rows_from ast n (drop (i + 1) list))) next
    ∙ sym (bounds_put ast (first + i) (get_or list i d).name (drop (i + 1) list) (rows_of_both (vars_of ast) (first + i) (bounds_of ast (get_or list i d))) old new put)
    ∙ ap (with_front old) (sym (bounds_front ast first list i d inside)) ∙ so_far

pub wide_bounds : (ast : Ast) (first : ℕ) (list : List Named) (i : ℕ) (d : Named) (old new : List Row) (answer : Result (List Row) NormalFault) → i < length list
    → IsPut (rows_of_both (vars_of ast) (first + i) (bounds_of ast (get_or list i d))) false old new
    → with_front old (bound_rows_from ast (first + i) (drop i list)) ≡ answer → answer ≡ Err (fault.Wide (which.Bound (name_of ast (get_or list i d).name)))
wide_bounds ast first list i d old new answer inside put so_far =
    sym so_far ∙ ap (with_front old) (bounds_front ast first list i d inside)
    ∙ bounds_wide ast (first + i) (get_or list i d).name (drop (i + 1) list) (rows_of_both (vars_of ast) (first + i) (bounds_of ast (get_or list i d))) old new put

-- what the call tells, by the text
pub put_seen : (ast : Ast) (vars : List Var) (var : ℕ) (named : Named) (both : Bounds) (told narrow : Bool) (old new : List Row) → vars ≡ vars_of ast → both ≡ bounds_of ast named
    → told ≡ narrow → IsPut (rows_of_both vars var both) told old new → IsPut (rows_of_both (vars_of ast) var (bounds_of ast named)) narrow old new
put_seen ast vars var named both told narrow old new vars_are is same put =
    subst (λ (b : Bool). IsPut (rows_of_both (vars_of ast) var (bounds_of ast named)) b old new) same
    (subst (λ (b : Bounds). IsPut (rows_of_both (vars_of ast) var b) told old new) is (subst (λ (xs : List Var). IsPut (rows_of_both xs var both) told old new) vars_are put))

pub last_bounds : (ast : Ast) (first : ℕ) (list : List Named) (i : ℕ) (front : List Row) (answer : Result (List Row) NormalFault) → length list ≤ i
    → with_front front (bound_rows_from ast (first + i) (drop i list)) ≡ answer → answer ≡ Ok front
last_bounds ast first list i front answer end so_far =
    sym so_far ∙ ap (with_front front) (at_drop_all (bound_rows_from ast (first + i)) list i end ∙ bounds-nil ast (first + i)) ∙ front_end front
