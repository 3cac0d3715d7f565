-- A line says a node just where it is the node's own line, and the node may stand there.
use Rattle.std.proofs.Common.{◌≡◌, ℕ, Bool, true, false, ◌&&◌, List, [], ◌∷◌, length, map, ℤ, Option, None, Some, Ok, Err, refl, sym, ap, ap₂, ◌∙◌, arith}
use Rattle.std.specs.Prelude.{All, ◌==◌, if◌then◌else◌}
use Rattle.std.specs.Fmt.{signed_decimal}
use Rattle.std.specs.Str.{bytes_eq}
use Rattle.std.proofs.lemmas.Bool.{and_parts}
use Rattle.std.proofs.lemmas.Bool.Decides.{nat_tests}
use Rattle.std.proofs.lemmas.Slice.Eq.{bytes_eq-Decides}
use Rattle.std.proofs.lemmas.List.{length-map}
use Rattle.qm_math.specs.Fraction.{Fraction}
use Rattle.qm_frac.specs.Lowest.{IsFrac}
use Rattle.qm_text.specs.Numbers.{number_word}
use Rattle.qm_certread.specs.declared.fault.Misread.TheVariants as rule
use Rattle.qm_certfile.specs.Lines.{Word, Line}
use Rattle.qm_certfile.specs.WellFormed.{IsWhole}
use Rattle.qm_certread.specs.Spelling.{Said, each, each_of, fraction_word, one, value_word}
use Rattle.qm_certread.specs.Nodes.{Node}
use Rattle.qm_certread.specs.Forms.{is_line, said_as, said_behind}
use Rattle.qm_certread.specs.Fits.{AreValues, IsOne, line_of}
use Rattle.qm_certread.proofs.WordForms.{each_said, each_told, fraction_said, fraction_told_so, value_said, value_told}

-- ---- words of a line

pub bytes_told : (word w : Word) → bytes_eq word w ≡ true → word ≡ w
bytes_told word w e = (bytes_eq-Decides word w).0 e

pub bytes_same : (w : Word) → bytes_eq w w ≡ true
bytes_same w = (bytes_eq-Decides w w).1 refl

pub line_told : (line words : Line) → is_line line words ≡ true → words ≡ line
line_told [] [] e = refl
line_told [] (word ∷ words) e = absurd cc
line_told (w ∷ ws) [] e = absurd cc
line_told (w ∷ ws) (word ∷ words) e =
    let both = and_parts (bytes_eq word w) (is_line ws words) e in
    ap₂ (λ (v : Word) (vs : Line). v ∷ vs) (bytes_told word w both.0) (line_told ws words both.1)

pub line_same : (line : Line) → is_line line line ≡ true
line_same [] = refl
line_same (w ∷ ws) = ap₂ ◌&&◌ (bytes_same w) (line_same ws)

-- a line of this kind
pub record IsBehind {A : Type 0} (kind : Word) (f : Line → Said A) (words : Line) (a : A) : Type 0 where
  pub rest : Line
  pub line : words ≡ kind ∷ rest
  pub says : f rest ≡ Ok a

behind_by : {A : Type 0} (t : Bool) (kind word : Word) (f : Line → Said A) (words : Line) (a : A) → bytes_eq word kind ≡ t
    → (elim (if t then Some words else None) as (λ (_ : Option Line). Said A) [ None ↦ Err rule.Text | Some rest ↦ f rest ]) ≡ Ok a → IsBehind kind f (word ∷ words) a
behind_by {A} true kind word f words a is e = record { rest = words; line = ap (λ w. w ∷ words) (bytes_told word kind is); says = e }
behind_by {A} false kind word f words a is e = absurd cc

pub behind_told : {A : Type 0} (kind : Word) (f : Line → Said A) (words : Line) (a : A) → said_behind (kind ∷ []) f words ≡ Ok a → IsBehind kind f words a
behind_told {A} kind f [] a e = absurd cc
behind_told {A} kind f (word ∷ words) a e = behind_by (bytes_eq word kind) kind word f words a refl e

pub behind_said : {A : Type 0} (kind : Word) (f : Line → Said A) (rest : Line) → said_behind (kind ∷ []) f (kind ∷ rest) ≡ f rest
behind_said {A} kind f rest =
    ap (λ (t : Bool). elim (if t then Some rest else None) as (λ (_ : Option Line). Said A) [ None ↦ Err rule.Text | Some more ↦ f more ]) (bytes_same kind)

pub as_told : {A B : Type 0} (f : A → B) (s : Said A) (b : B) → said_as f s ≡ Ok b → (a : A) × (s ≡ Ok a) × (f a ≡ b)
as_told {A} {B} f (Ok a) b e = (a, refl, cc)
as_told {A} {B} f (Err r) b e = absurd cc

pub one_told : {A : Type 0} (f : Word → Said A) (words : Line) (a : A) → one f words ≡ Ok a → (w : Word) × (words ≡ w ∷ []) × (f w ≡ Ok a)
one_told {A} f [] a e = absurd cc
one_told {A} f (w ∷ []) a e = (w, refl, e)
one_told {A} f (w ∷ next ∷ words) a e = absurd cc

of_by : {A : Type 0} (t : Bool) (f : Word → Said A) (n : ℕ) (words : Line) (xs : List A) → (length words == n) ≡ t → (if t then each f words else Err rule.Text) ≡ Ok xs
    → (length words ≡ n) × (each f words ≡ Ok xs)
of_by {A} true f n words xs is e = (grind (arith, nat_tests), e)
of_by {A} false f n words xs is e = absurd cc

pub each_of_told : {A : Type 0} (f : Word → Said A) (n : ℕ) (words : Line) (xs : List A) → each_of f n words ≡ Ok xs → (length words ≡ n) × (each f words ≡ Ok xs)
each_of_told {A} f n words xs e = of_by (length words == n) f n words xs refl e

pub each_of_said : {A : Type 0} (f : Word → Said A) (n : ℕ) (words : Line) → length words ≡ n → each_of f n words ≡ each f words
each_of_said {A} f n words h = let same : (length words == n) ≡ true = grind (arith, nat_tests) in rw same refl

-- ---- so many values

pub values_told : (n : ℕ) (words : Line) (values : List ℤ) → each_of value_word n words ≡ Ok values → (words ≡ map signed_decimal values) × AreValues n values
values_told n words values e =
    let of = each_of_told value_word n words values e in
    let all = each_told value_word signed_decimal IsWhole value_told words values of.1 in
    (all.0, (sym (length-map values signed_decimal) ∙ sym (ap length all.0) ∙ of.0, all.1))

pub values_said : (n : ℕ) (values : List ℤ) → AreValues n values → each_of value_word n (map signed_decimal values) ≡ Ok values
values_said n values (len, all) =
    each_of_said value_word n (map signed_decimal values) (length-map values signed_decimal ∙ len) ∙ each_said value_word signed_decimal IsWhole value_said values all

pub point_told : (n : ℕ) (words : Line) (point : List Fraction) → each_of fraction_word n words ≡ Ok point → (words ≡ map number_word point) × (length point ≡ n) × All IsFrac point
point_told n words point e =
    let of = each_of_told fraction_word n words point e in
    let all = each_told fraction_word number_word IsFrac fraction_told_so words point of.1 in
    (all.0, sym (length-map point number_word) ∙ sym (ap length all.0) ∙ of.0, all.1)

pub point_said : (n : ℕ) (point : List Fraction) → length point ≡ n → All IsFrac point → each_of fraction_word n (map number_word point) ≡ Ok point
point_said n point len all =
    each_of_said fraction_word n (map number_word point) (length-map point number_word ∙ len) ∙ each_said fraction_word number_word IsFrac fraction_said point all

-- ---- lines of one word behind their kind

module _ {A : Type 0} (says : Word → Said A) (word : A → Word) (Is : A → Type 0) (node : A → Node) (kind : Word) where
  pub one_line_told : ((w : Word) (a : A) → says w ≡ Ok a → (w ≡ word a) × Is a) → ((a : A) → kind ∷ word a ∷ [] ≡ line_of (node a)) → (words : Line) (n : Node)
      → said_as node (said_behind (kind ∷ []) (one says) words) ≡ Ok n → (words ≡ line_of n) × IsOne node Is n
  one_line_told told line words n e =
      let inner = as_told node (said_behind (kind ∷ []) (one says) words) n e in
      let behind = behind_told kind (one says) words inner.0 inner.1 in
      let single = one_told says behind.rest inner.0 behind.says in
      let found = told single.0 inner.0 single.2 in
      (behind.line ∙ ap (λ rest. kind ∷ rest) (single.1 ∙ ap (λ w. w ∷ []) found.0) ∙ line inner.0 ∙ ap line_of inner.2, (inner.0, inner.2, found.1))

  pub one_line_said : ((a : A) → Is a → says (word a) ≡ Ok a) → (a : A) → Is a → said_as node (said_behind (kind ∷ []) (one says) (kind ∷ word a ∷ [])) ≡ Ok (node a)
  one_line_said said a h = ap (said_as node) (behind_said kind (one says) (word a ∷ []) ∙ said a h)
