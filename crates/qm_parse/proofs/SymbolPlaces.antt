-- Places behind more bytes, and names behind more tokens.
use Rattle.std.proofs.Common.{◌≡◌, ℕ, ◌+◌, ◌-◌, ◌≤◌, List, [], ◌∷◌, ◌++◌, take, drop, refl, sym, ap, ◌∙◌, arith}
use Rattle.std.specs.Prelude.{if◌then◌else◌, ◌==◌}
use Rattle.std.proofs.Math.Seq.{take-add}
use Rattle.qm_lex.specs.Places.{line_behind, column_behind}

pub line_behind-++ : (line : ℕ) (xs ys : List ℕ) → line_behind line (xs ++ ys) ≡ line_behind (line_behind line xs) ys
line_behind-++ line [] ys = refl
line_behind-++ line (x ∷ xs) ys = line_behind-++ (if x == 10 then line + 1 else line) xs ys

pub column_behind-++ : (column : ℕ) (xs ys : List ℕ) → column_behind column (xs ++ ys) ≡ column_behind (column_behind column xs) ys
column_behind-++ column [] ys = refl
column_behind-++ column (x ∷ xs) ys = column_behind-++ (if x == 10 then 1 else column + 1) xs ys

-- bytes up to a place, in two pieces
take-through : (at to : ℕ) (xs : List ℕ) → at ≤ to → take to xs ≡ take at xs ++ take (to - at) (drop at xs)
take-through at to xs h =
    let whole : at + (to - at) ≡ to = omega arith in
    ap (λ n. take n xs) (sym whole) ∙ take-add at (to - at) xs

pub line-through : (at to : ℕ) (xs : List ℕ) → at ≤ to → line_behind 1 (take to xs) ≡ line_behind (line_behind 1 (take at xs)) (take (to - at) (drop at xs))
line-through at to xs h = ap (line_behind 1) (take-through at to xs h) ∙ line_behind-++ 1 (take at xs) (take (to - at) (drop at xs))

pub column-through : (at to : ℕ) (xs : List ℕ) → at ≤ to → column_behind 1 (take to xs) ≡ column_behind (column_behind 1 (take at xs)) (take (to - at) (drop at xs))
column-through at to xs h = ap (column_behind 1) (take-through at to xs h) ∙ column_behind-++ 1 (take at xs) (take (to - at) (drop at xs))
