-- The first words of a list, and those behind them.
use Rattle.std.proofs.Common.{◌≡◌, ◌-◌, ◌<◌, ◌≤◌, List, [], ◌∷◌, ◌∙◌, length, map, get_or, take, drop, string_bytes, String, Global, length-drop, sym, ap, arith}
use Rattle.std.proofs.Math.Seq.{take-length}

pub first_word : (ws : List (String Global)) (v : String Global) → 1 ≤ length ws → v ≡ get_or ws 0 v → map string_bytes ws ≡ string_bytes v ∷ map string_bytes (drop 1 ws)
first_word [] v some first = absurd (omega arith)
first_word (x ∷ ws) v some first = ap (λ a. string_bytes a ∷ map string_bytes ws) (sym first)

-- the words behind the first, as a pattern lends them
pub words_behind : {T : Type 0} (ws : List T) → take (length ws - 1) (drop 1 ws) ≡ drop 1 ws
words_behind ws = ap (λ n. take n (drop 1 ws)) (sym (length-drop 1 ws)) ∙ take-length (drop 1 ws)

pub two_words : (ws : List (String Global)) (v w : String Global) → 2 ≤ length ws → length ws < 3 → v ≡ get_or ws 0 v → w ≡ get_or ws 1 w
    → map string_bytes ws ≡ string_bytes v ∷ string_bytes w ∷ []
two_words [] v w some few first second = absurd (omega arith)
two_words (x ∷ []) v w some few first second = absurd (omega arith)
two_words (x ∷ y ∷ []) v w some few first second =
    ap (λ a. string_bytes a ∷ string_bytes y ∷ []) (sym first) ∙ ap (λ b. string_bytes v ∷ string_bytes b ∷ []) (sym second)
two_words (x ∷ y ∷ z ∷ ws) v w some few first second = absurd (omega arith)

pub three_words : (ws : List (String Global)) (u v w : String Global) → 3 ≤ length ws → length ws < 4 → u ≡ get_or ws 0 u → v ≡ get_or ws 1 v → w ≡ get_or ws 2 w
    → map string_bytes ws ≡ string_bytes u ∷ string_bytes v ∷ string_bytes w ∷ []
three_words [] u v w some few first second third = absurd (omega arith)
three_words (x ∷ []) u v w some few first second third = absurd (omega arith)
three_words (x ∷ y ∷ []) u v w some few first second third = absurd (omega arith)
three_words (x ∷ y ∷ z ∷ []) u v w some few first second third =
    ap (λ a. string_bytes a ∷ string_bytes y ∷ string_bytes z ∷ []) (sym first)
    ∙ ap (λ b. string_bytes u ∷ string_bytes b ∷ string_bytes z ∷ []) (sym second)
    ∙ ap (λ c. string_bytes u ∷ string_bytes v ∷ string_bytes c ∷ []) (sym third)
three_words (x ∷ y ∷ z ∷ t ∷ ws) u v w some few first second third = absurd (omega arith)
