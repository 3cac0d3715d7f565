-- Each list of values in game order is that of numbers given by names.
use Rattle.std.proofs.Common.{◌≡◌, ◌≢◌, cond, ℕ, eqb, Bool, true, not, List, [], ◌∷◌, ◌++◌, get_or, length, refl, sym, ap, ap₂, ◌∙◌, subst, arith, ℤ, pos}
use Rattle.std.specs.Prelude.{All, AllPairs, map}
use Rattle.std.proofs.lemmas.Bool.{false_from_ne_true, false≢true}
use Rattle.std.proofs.lemmas.Bool.Decides.{Decides-eqb}
use Rattle.std.proofs.lemmas.List.{length-map}
use Rattle.std.proofs.lemmas.List.Elements.{All-append, All-head, All-tail, filter_passes}
use Rattle.std.proofs.lemmas.List.Kept.{AllPairs-cons, AllPairs-filter}
use Rattle.qm_parse.specs.declared.ast.Ast.{Ast}
use Rattle.qm_parse.specs.declared.ast.Named.{Named}
use Rattle.qm_parse.specs.Checks.{NamesRight}
use Rattle.qm_parse.proofs.OnceOnly.{AllPairs-head, AllPairs-tail}
use Rattle.qm_normal.specs.Meaning.{in_game_order}
use Rattle.qm_normal.specs.Variables.{continuous_names, game_order, is_whole, var_of, vars_of, whole_names}

abbrev Apart : Named → Named → Type 0
Apart one other = one.name ≢ other.name

-- the value of a name, by its place in the list of names
abbrev num_of : List Named → List ℤ → ℕ → ℤ
num_of [] values name = pos 0
num_of (named ∷ order) [] name = pos 0
num_of (named ∷ order) (v ∷ values) name = cond (eqb named.name name) v (num_of order values name)

map_same : (f g : Named → ℤ) (xs : List Named) → All (λ x. f x ≡ g x) xs → map f xs ≡ map g xs
map_same f g [] same = refl
map_same f g (x ∷ xs) same = ap₂ (λ (v : ℤ) (vs : List ℤ). v ∷ vs) (All-head (λ (y : Named). f y ≡ g y) x xs same) (map_same f g xs (All-tail (λ (y : Named). f y ≡ g y) x xs same))

named_values : (order : List Named) (values : List ℤ) → length values ≡ length order → AllPairs Apart order → map (λ (named : Named). num_of order values named.name) order ≡ values
named_values [] [] long once = refl
named_values [] (v ∷ values) long once = absurd (omega (arith, long))
named_values (named ∷ order) [] long once = absurd (omega (arith, long))
named_values (named ∷ order) (v ∷ values) long once =
    let rest = num_of order values in
    let here : num_of (named ∷ order) (v ∷ values) named.name ≡ v = ap (λ b. cond b v (rest named.name)) ((Decides-eqb named.name named.name).1 refl) in
    let others = AllPairs-head Apart named order once in
    let later : map (λ (other : Named). num_of (named ∷ order) (v ∷ values) other.name) order ≡ map (λ (other : Named). rest other.name) order =
    map_same (λ (other : Named). num_of (named ∷ order) (v ∷ values) other.name) (λ (other : Named). rest other.name) order
    (λ k d inside.
    let other = get_or order k d in
    ap (λ b. cond b v (rest other.name)) (false_from_ne_true (eqb named.name other.name) (λ e. others k d inside ((Decides-eqb named.name other.name).0 e)))) in
    ap₂ (λ (w : ℤ) (vs : List ℤ). w ∷ vs) here (later ∙ named_values order values (omega (arith, long)) (AllPairs-tail Apart named order once))

pairs_joined : (xs ys : List Named) → AllPairs Apart xs → AllPairs Apart ys → All (λ x. All (Apart x) ys) xs → AllPairs Apart (xs ++ ys)
pairs_joined [] ys one other cross = other
pairs_joined (x ∷ xs) ys one other cross =
    AllPairs-cons Apart x (xs ++ ys) (All-append (Apart x) xs ys (AllPairs-head Apart x xs one) (All-head (λ (y : Named). All (Apart y) ys) x xs cross))
    (pairs_joined xs ys (AllPairs-tail Apart x xs one) other (All-tail (λ (y : Named). All (Apart y) ys) x xs cross))

-- game order holds each name once
pub game_order_once : (ast : Ast) → NamesRight ast → AllPairs Apart (game_order ast)
game_order_once ast right =
    let test : Named → Bool = λ named. is_whole ast named.name in
    let other : Named → Bool = λ named. not (is_whole ast named.name) in
    let w = whole_names ast in
    let c = continuous_names ast in
    pairs_joined w c (AllPairs-filter Apart test ast.order right.once) (AllPairs-filter Apart other ast.order right.once)
    (λ k d inside i e within same.
    let whole : is_whole ast (get_or w k d).name ≡ true = filter_passes test ast.order k d inside in
    let free : not (is_whole ast (get_or c i e).name) ≡ true = filter_passes other ast.order i e within in
    let both : not true ≡ true = subst (λ (b : Bool). not b ≡ true) whole (subst (λ (m : ℕ). not (is_whole ast m) ≡ true) (sym same) free) in
    false≢true both)

pub values_named : (ast : Ast) (values : List ℤ) → NamesRight ast → length values ≡ length (vars_of ast) → (nums : ℕ → ℤ) × (in_game_order ast nums ≡ values)
values_named ast values right long =
    (num_of (game_order ast) values, named_values (game_order ast) values (long ∙ length-map (game_order ast) (var_of ast)) (game_order_once ast right))
