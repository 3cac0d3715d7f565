-- The text of a line tells its words, and where it ends.
use Rattle.std.proofs.Common.{◌≡◌, ℕ, ◌<◌, ◌≤◌, List, [], ◌∷◌, ◌++◌, append_assoc, get_or, drop, length, map, refl, sym, ap, ◌∙◌, subst, arith}
use Rattle.std.specs.Prelude.{◌^◌}
use Rattle.qm_math.proofs.Lists.{cons-rest, cons-first}
use Rattle.qm_certfile.specs.Lines.{Word, Line, line_text, text_of}
use Rattle.qm_certfile.specs.Numbers.{greatest}
use Rattle.qm_certfile.specs.TreeLines.{Lines, joined}
use Rattle.qm_certfile.proofs.LineTexts.{text_of_append}
use Rattle.qm_certfile.proofs.NumberWords.{AreVisible, not_empty}

-- words of visible bytes
abbrev pub AreWords : List Word → Type 0
AreWords [] = Unit {0}
AreWords (w ∷ ws) = AreVisible w × AreWords ws

pub words_append : (ws more : List Word) → AreWords ws → AreWords more → AreWords (ws ++ more)
words_append [] more p q = q
words_append (w ∷ ws) more p q = (p.0, words_append ws more p.1 q)

-- a space or LF ends a word
word_split : (w v : Word) (a b : ℕ) (x y : List ℕ) → AreVisible w → AreVisible v → a ≤ 32 → b ≤ 32 → w ++ a ∷ x ≡ v ++ b ∷ y → (w ≡ v) × (a ≡ b) × (x ≡ y)
word_split [] [] a b x y p q k l e = (refl, cons-first _ _ _ _ e, cons-rest _ _ _ _ e)
word_split [] (c ∷ v) a b x y p q k l e = let same : a ≡ c = cons-first _ _ _ _ e in let above = q.0 in absurd (omega arith)
word_split (c ∷ w) [] a b x y p q k l e = let same : c ≡ b = cons-first _ _ _ _ e in let above = p.0 in absurd (omega arith)
word_split (c ∷ w) (d ∷ v) a b x y p q k l e =
    let rest = word_split w v a b x y p.1 q.1 k l (cons-rest _ _ _ _ e) in
    let same = cons-first _ _ _ _ e in
    (λ i. same i ∷ rest.0 i, rest.1, rest.2)

pub line_split : (w v : Word) (ws vs : List Word) (x y : List ℕ) → AreWords (w ∷ ws) → AreWords (v ∷ vs) → line_text (w ∷ ws) ++ x ≡ line_text (v ∷ vs) ++ y
    → (w ∷ ws ≡ v ∷ vs) × (x ≡ y)
line_split w v [] [] x y p q e =
    let here = word_split w v 10 10 x y p.0 q.0 (omega arith) (omega arith) (sym (append_assoc w (10 ∷ []) x) ∙ e ∙ append_assoc v (10 ∷ []) y) in
    (ap (λ u. u ∷ []) here.0, here.2)
line_split w v [] (v2 ∷ vs) x y p q e =
    let here = word_split w v 10 32 x (line_text (v2 ∷ vs) ++ y) p.0 q.0 (omega arith) (omega arith) (sym (append_assoc w (10 ∷ []) x) ∙ e ∙ append_assoc v (32 ∷ line_text (v2 ∷ vs)) y) in
    absurd (omega (arith, here.1))
line_split w v (w2 ∷ ws) [] x y p q e =
    let here = word_split w v 32 10 (line_text (w2 ∷ ws) ++ x) y p.0 q.0 (omega arith) (omega arith) (sym (append_assoc w (32 ∷ line_text (w2 ∷ ws)) x) ∙ e ∙ append_assoc v (10 ∷ []) y) in
    absurd (omega (arith, here.1))
line_split w v (w2 ∷ ws) (v2 ∷ vs) x y p q e =
    let here = word_split w v 32 32 (line_text (w2 ∷ ws) ++ x) (line_text (v2 ∷ vs) ++ y) p.0 q.0 (omega arith) (omega arith)
    (sym (append_assoc w (32 ∷ line_text (w2 ∷ ws)) x) ∙ e ∙ append_assoc v (32 ∷ line_text (v2 ∷ vs)) y) in
    let rest = line_split w2 v2 ws vs x y p.1 q.1 here.2 in
    (λ i. here.0 i ∷ rest.0 i, rest.1)

-- the same, with more lines behind
pub first_line : (w v : Word) (ws vs : List Word) (b c x y : List ℕ) → AreWords (w ∷ ws) → AreWords (v ∷ vs)
    → (line_text (w ∷ ws) ++ b) ++ x ≡ (line_text (v ∷ vs) ++ c) ++ y → (w ∷ ws ≡ v ∷ vs) × (b ++ x ≡ c ++ y)
first_line w v ws vs b c x y p q e =
    line_split w v ws vs (b ++ x) (c ++ y) p q (sym (append_assoc (line_text (w ∷ ws)) b x) ∙ e ∙ append_assoc (line_text (v ∷ vs)) c y)

pub first_of_line : (b : ℕ) (bs : List ℕ) (ws : List Word) (more x : List ℕ) → get_or ((line_text ((b ∷ bs) ∷ ws) ++ more) ++ x) 0 0 ≡ b
first_of_line b bs [] more x = refl
first_of_line b bs (w ∷ ws) more x = refl

pub word_same : (n : ℕ) {l m : Line} → l ≡ m → get_or l n [] ≡ get_or m n []
word_same n e = ap (λ l. get_or l n []) e

pub words_behind : (n : ℕ) {l m : Line} → l ≡ m → drop n l ≡ drop n m
words_behind n e = ap (drop n) e

-- ---- words that spell values

-- each word tells its value, where that is of no more than 64 digits
pub record Spells {A : Type 0} (word : A → Word) (size : A → ℕ) : Type 0 where
  pub visible : (a : A) → size a < 10 ^ 64 → AreVisible (word a)
  pub same : (a b : A) → size a < 10 ^ 64 → size b < 10 ^ 64 → word a ≡ word b → a ≡ b

module _ {A : Type 0} (word : A → Word) (size : A → ℕ) (spells : Spells word size) where
  pub visible_words : (xs : List A) → greatest (map size xs) < 10 ^ 64 → AreWords (map word xs)
  visible_words [] h = tt
  visible_words (x ∷ xs) h = (spells.visible x (omega arith), visible_words xs (omega arith))

  pub same_words : (xs ys : List A) → greatest (map size xs) < 10 ^ 64 → greatest (map size ys) < 10 ^ 64 → map word xs ≡ map word ys → xs ≡ ys
  same_words [] [] p q e = refl
  same_words [] (y ∷ ys) p q e = absurd (not_empty (word y) (map word ys) e)
  same_words (x ∷ xs) [] p q e = absurd (not_empty (word x) (map word xs) (sym e))
  same_words (x ∷ xs) (y ∷ ys) p q e =
      let first = spells.same x y (omega arith) (omega arith) (word_same 0 e) in
      let rest = same_words xs ys (omega arith) (omega arith) (words_behind 1 e) in
      λ i. first i ∷ rest i

-- ---- lines of trees

-- the text of its lines tells the tree, and where it ends
abbrev pub IsTold : (A : Type 0) → (A → Lines) → (A → ℕ) → A → Type 0
IsTold A lines size a =
    (place : ℕ) (b : A) (x y : List ℕ) → size a < 10 ^ 64 → size b < 10 ^ 64 → text_of (lines a place) ++ x ≡ text_of (lines b place) ++ y → (a ≡ b) × (x ≡ y)

-- and those of as many parts tell the parts
pub parts_told : (A : Type 0) (lines : A → Lines) (size : A → ℕ) (ps : List ((a : A) × IsTold A lines size a)) (qs : List A) (place : ℕ) (x y : List ℕ)
    → length ps ≡ length qs → greatest (map size (map (λ e. e.0) ps)) < 10 ^ 64 → greatest (map size qs) < 10 ^ 64
    → text_of (joined (map lines (map (λ e. e.0) ps)) place) ++ x ≡ text_of (joined (map lines qs) place) ++ y → (map (λ e. e.0) ps ≡ qs) × (x ≡ y)
parts_told A lines size [] [] place x y h k l e = (refl, e)
parts_told A lines size [] (q ∷ qs) place x y h k l e = absurd (omega (arith, h))
parts_told A lines size (p ∷ ps) [] place x y h k l e = absurd (omega (arith, h))
parts_told A lines size (p ∷ ps) (q ∷ qs) place x y h k l e =
    let first = lines p.0 place in
    let more = joined (map lines (map (λ e. e.0) ps)) place in
    let other = lines q place in
    let others = joined (map lines qs) place in
    let told = p.1 place q (text_of more ++ x) (text_of others ++ y) (omega arith) (omega arith)
    (sym (append_assoc (text_of first) (text_of more) x) ∙ ap (λ t. t ++ x) (sym (text_of_append first more)) ∙ e
    ∙ ap (λ t. t ++ y) (text_of_append other others) ∙ append_assoc (text_of other) (text_of others) y) in
    let rest = parts_told A lines size ps qs place x y (omega (arith, h)) (omega arith) (omega arith) told.1 in
    (λ i. told.0 i ∷ rest.0 i, rest.1)

-- what its layer tells, a tree tells
pub told_by_layer : (A L : Type 0) (lines : A → Lines) (size : A → ℕ) (roll : L → A) (out : A → L) (layer_lines : L → Lines) (layer_size : L → ℕ)
    → ((a : A) → roll (out a) ≡ a) → ((z : L) → lines (roll z) ≡ layer_lines z) → ((z : L) → size (roll z) ≡ layer_size z) → (z : L)
    → ((other : L) (place : ℕ) (x y : List ℕ) → layer_size z < 10 ^ 64 → layer_size other < 10 ^ 64 → text_of (layer_lines z place) ++ x ≡ text_of (layer_lines other place) ++ y → (z ≡ other) × (x ≡ y))
    → IsTold A lines size (roll z)
told_by_layer A L lines size roll out layer_lines layer_size back lines_are size_is z told = λ place b x y h k e.
    let there : lines b ≡ layer_lines (out b) = ap lines (sym (back b)) ∙ lines_are (out b) in
    let size_there : size b ≡ layer_size (out b) = ap size (sym (back b)) ∙ size_is (out b) in
    let same = told (out b) place x y (subst (λ n. n < 10 ^ 64) (size_is z) h) (subst (λ n. n < 10 ^ 64) size_there k)
    (sym (ap (λ (f : Lines). text_of (f place) ++ x) (lines_are z)) ∙ e ∙ ap (λ (f : Lines). text_of (f place) ++ y) there) in
    (ap roll same.0 ∙ back b, same.1)
