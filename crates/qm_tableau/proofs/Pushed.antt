-- Rows of quantities, one behind the other.
use Rattle.std.proofs.Common.{◌≡◌, ◌∙◌, sym, ap, ℕ, suc, ◌+◌, ◌*◌, ◌<◌, ◌≤◌, ◌^◌, add-one, Bool, true, false, List, [], ◌∷◌, ◌++◌, length, get_or, drop, map, ℤ, pos, ◌+ℤ◌, unsigned_abs, arith}
use Rattle.std.specs.List.{flat_map}
use Rattle.std.proofs.lemmas.Int.{ints}
use Rattle.std.proofs.lemmas.List.{at_drop_more, append_assoc}
use Rattle.std.proofs.lemmas.List.Concat.{flat_map-append}
use Rattle.qm_model.specs.declared.game.Problem.{Problem}
use Rattle.qm_math.specs.Fraction.{Fraction}
use Rattle.std.specs.Prelude.{if◌then◌else◌, ◌==◌}
use Rattle.std.specs.Option.{option_map_or}
use Rattle.std.proofs.lemmas.Option.{slice_get-get_or}
use Rattle.std.proofs.lemmas.List.Sums.{sum_by-cons}
use Rattle.qm_model.specs.declared.row.Term.{Term}
use Rattle.qm_model.specs.Sizes.{reach_in_values, terms_size}
use Rattle.qm_tableau.specs.FirstTable.{HasRoom}
use Rattle.qm_model.specs.declared.range.Range.{Range}
use Rattle.qm_model.specs.declared.row.Row.{Row}
use Rattle.qm_tableau.specs.Quantities.{Quantity, bound_quantities, high_quantity, low_quantity, objective_quantity, quantities, slack_quantity}

coefficient_small : (b : Bool) → unsigned_abs (let z : ℤ = if b then pos 1 +ℤ pos 0 else pos 0 in z) < 2 ^ 127
coefficient_small true = omega arith
coefficient_small false = omega arith

-- a single variable has room where its value and the constant have 64 bits
pub room_of_end : (values : List ℤ) (var : ℕ) (d constant : ℤ) → var < length values → unsigned_abs (get_or values var d) ≤ 2 ^ 63 → unsigned_abs constant ≤ 2 ^ 63
    → HasRoom values constant (record { var = var; coef = pos 1 } ∷ [])
room_of_end values var d constant h near small =
    let t : Term = record { var = var; coef = pos 1 } in
    let reach : reach_in_values values var ≡ unsigned_abs (get_or values var d) = ap (λ o. option_map_or unsigned_abs o 1) (slice_get-get_or values var d h) in
    let size : terms_size (reach_in_values values) (t ∷ []) ≡ 1 * reach_in_values values var + 0 = sum_by-cons (λ (u : Term). unsigned_abs u.coef * reach_in_values values u.var) t [] in
    record {
      ordered = (omega arith, (λ e. omega (arith, ints, e)), tt);
      vars = λ k e g. let z : k ≡ 0 = omega arith in rw z h;
      size = omega (arith, reach, size);
      coefficients = λ v. coefficient_small (var == v);
    }

-- the two rows of a variable are put behind those that are done
pub bounds_done : (f : Quantity → List Fraction) (var : ℕ) (d : Range) (bx : List Range) (done now all : List Fraction) → var < length bx
    → now ≡ (done ++ f (high_quantity var (get_or bx var d))) ++ f (low_quantity var (get_or bx var d))
    → done ++ flat_map f (bound_quantities var (drop var bx)) ≡ all
    → now ++ flat_map f (bound_quantities (var + 1) (drop (var + 1) bx)) ≡ all
bounds_done f var d bx done now all h is before =
    let rest = flat_map f (bound_quantities (suc var) (drop (var + 1) bx)) in
    let a = f (high_quantity var (get_or bx var d)) in
    let b = f (low_quantity var (get_or bx var d)) in
    ap (λ (n : ℕ). now ++ flat_map f (bound_quantities n (drop (var + 1) bx))) (add-one var)
    ∙ ap (λ (xs : List Fraction). xs ++ rest) is
    ∙ append_assoc (done ++ a) b rest ∙ append_assoc done a (b ++ rest)
    ∙ sym (at_drop_more (λ rs. done ++ flat_map f (bound_quantities var rs)) bx var d h) ∙ before

-- the row of a slack is put behind those that are done
pub slack_done : (f : Quantity → List Fraction) (i : ℕ) (d : Row) (rows : List Row) (done now all : List Fraction) → i < length rows
    → now ≡ done ++ f (slack_quantity (get_or rows i d))
    → done ++ flat_map f (map slack_quantity (drop i rows)) ≡ all
    → now ++ flat_map f (map slack_quantity (drop (i + 1) rows)) ≡ all
slack_done f i d rows done now all h is before =
    ap (λ (xs : List Fraction). xs ++ flat_map f (map slack_quantity (drop (i + 1) rows))) is
    ∙ append_assoc done (f (slack_quantity (get_or rows i d))) _
    ∙ sym (at_drop_more (λ rs. done ++ flat_map f (map slack_quantity rs)) rows i d h) ∙ before

-- the rows of all quantities, part by part
pub all_rows : (f : Quantity → List Fraction) (P : Problem) (cuts : List Row) (bx : List Range)
    → ((((([] ++ f (objective_quantity P)) ++ flat_map f (bound_quantities 0 bx)) ++ flat_map f (map slack_quantity P.rows)) ++ flat_map f (map slack_quantity P.urows))
    ++ flat_map f (map slack_quantity cuts))
    ≡ flat_map f (quantities P cuts bx)
all_rows f P cuts bx =
    let a = f (objective_quantity P) in
    let b = flat_map f (bound_quantities 0 bx) in
    let c = flat_map f (map slack_quantity P.rows) in
    let d = flat_map f (map slack_quantity P.urows) in
    let e = flat_map f (map slack_quantity cuts) in
    let slacks : flat_map f (map slack_quantity P.urows ++ map slack_quantity cuts) ≡ d ++ e = flat_map-append f (map slack_quantity P.urows) (map slack_quantity cuts) in
    let parts : flat_map f (bound_quantities 0 bx ++ (map slack_quantity P.rows ++ (map slack_quantity P.urows ++ map slack_quantity cuts))) ≡ b ++ (c ++ (d ++ e)) =
    flat_map-append f (bound_quantities 0 bx) (map slack_quantity P.rows ++ (map slack_quantity P.urows ++ map slack_quantity cuts))
    ∙ ap (λ (xs : List Fraction). b ++ xs)
    (flat_map-append f (map slack_quantity P.rows) (map slack_quantity P.urows ++ map slack_quantity cuts) ∙ ap (λ (xs : List Fraction). c ++ xs) slacks) in
    append_assoc (((a ++ b) ++ c)) d e ∙ append_assoc (a ++ b) c (d ++ e) ∙ append_assoc a b (c ++ (d ++ e)) ∙ ap (λ (xs : List Fraction). a ++ xs) (sym parts)
