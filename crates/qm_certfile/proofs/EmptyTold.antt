-- The text of an empty tree tells the tree, and where it ends.
use Rattle.std.proofs.Common.{◌≡◌, ℕ, ◌+◌, ◌<◌, List, [], ◌∷◌, ◌++◌, length, get_or, map, sym, ap, ◌∙◌, subst, arith}
use Rattle.std.specs.Prelude.{◌^◌, codes}
use Rattle.std.specs.Fmt.{decimal}
use Rattle.std.proofs.lemmas.List.{length-map}
use Rattle.qm_trees.specs.declared.empty.Empty.{Empty, out-Empty}
use Rattle.qm_trees.specs.declared.empty.EmptyPart.{EmptyPart, out-EmptyPart}
use Rattle.qm_trees.specs.declared.empty.Empty.TheOpen as none
use Rattle.qm_trees.specs.declared.empty.Empty.TheViews.{roll-Empty, roll-EmptyPart, roll-out-Empty, roll-out-EmptyPart}
use Rattle.qm_trees.specs.declared.empty.Empty.TheFolds.{fold-roll-Empty, fold-roll-EmptyPart, map-Empty, map-EmptyPart, ind-Empty}
use Rattle.qm_certfile.specs.Lines.{text_of}
use Rattle.qm_certfile.specs.Numbers.{empty_number_step, empty_part_number_step, greatest_in_empty, greatest_in_empty_part}
use Rattle.qm_certfile.specs.Styles.{first_style}
use Rattle.qm_certfile.specs.TreeLines.{Lines, joined, empty_step, empty_part_step, empty_lines, empty_part_lines, illegal_lines}
use Rattle.qm_certfile.proofs.NumberWords.{decimal_same, differ, visible_decimal, visible_word}
use Rattle.qm_certfile.proofs.LineSplits.{AreWords, IsTold, told_by_layer, first_line, parts_told, word_same}
use Rattle.qm_certfile.proofs.RowWords.{close_first, close_told, range_told}

abbrev ToldEmpty : Empty → Type 0
ToldEmpty t = IsTold Empty (empty_lines first_style) greatest_in_empty t

abbrev ToldPart : EmptyPart → Type 0
ToldPart r = IsTold EmptyPart (empty_part_lines first_style) greatest_in_empty_part r

-- ---- a node, with what is known of the nodes below it

abbrev Known : Type 0
Known = none.Empty-F ((t : Empty) × ToldEmpty t) ((r : EmptyPart) × ToldPart r)

abbrev Layer : Type 0
Layer = none.Empty-F Empty EmptyPart

abbrev plain : Known → Layer
plain y = map-Empty ((t : Empty) × ToldEmpty t) ((r : EmptyPart) × ToldPart r) Empty EmptyPart (λ e. e.0) (λ e. e.0) y

abbrev layer_lines : Layer → Lines
layer_lines z = empty_step first_style (map-Empty Empty EmptyPart Lines Lines (empty_lines first_style) (empty_part_lines first_style) z)

abbrev layer_number : Layer → ℕ
layer_number z = empty_number_step (map-Empty Empty EmptyPart ℕ ℕ greatest_in_empty greatest_in_empty_part z)

split_words : (var n : ℕ) → var < 10 ^ 64 → n < 10 ^ 64 → AreWords (codes "split" ∷ decimal var ∷ decimal n ∷ [])
split_words var n k h = (visible_word (codes "split") tt, (visible_decimal var k, (visible_decimal n h, tt)))

abbrev first : List ℕ → ℕ
first l = get_or l 0 0

layers_told : (y : Known) (z : Layer) (place : ℕ) (a b : List ℕ) → layer_number (plain y) < 10 ^ 64 → layer_number z < 10 ^ 64
    → text_of (layer_lines (plain y) place) ++ a ≡ text_of (layer_lines z place) ++ b → (plain y ≡ z) × (a ≡ b)
layers_told (none.Split v ps) (none.Split w qs) place a b h k e =
    let lines = empty_part_lines first_style in
    let parts = map (λ (r : (r : EmptyPart) × ToldPart r). r.0) ps in
    let some = length-map parts lines in
    let others = length-map qs lines in
    let some_numbers = length-map parts greatest_in_empty_part in
    let other_numbers = length-map qs greatest_in_empty_part in
    let known = length-map ps (λ (r : (r : EmptyPart) × ToldPart r). r.0) in
    let m : length (map lines parts) < 10 ^ 64 = omega (arith, some, some_numbers) in
    let n : length (map lines qs) < 10 ^ 64 = omega (arith, others, other_numbers) in
    let line = first_line (codes "split") (codes "split") (decimal (v + 1) ∷ decimal (length (map lines parts)) ∷ []) (decimal (w + 1) ∷ decimal (length (map lines qs)) ∷ [])
    (text_of (joined (map lines parts) place)) (text_of (joined (map lines qs) place)) a b (split_words (v + 1) (length (map lines parts)) (omega arith) m)
    (split_words (w + 1) (length (map lines qs)) (omega arith) n) e in
    let variable : v ≡ w = omega (arith, decimal_same (v + 1) (w + 1) (omega arith) (omega arith) (word_same 1 line.0)) in
    let count = decimal_same (length (map lines parts)) (length (map lines qs)) m n (word_same 2 line.0) in
    let told = parts_told EmptyPart lines greatest_in_empty_part ps qs place a b (omega (arith, count, some, others, known)) (omega arith) (omega arith) line.1 in
    (λ i. none.Split (variable i) (told.0 i), told.1)
layers_told (none.Split v ps) (none.Close d) place a b h k e = absurd (differ 115 99 tt (ap first e ∙ close_first d b))
layers_told (none.Close c) (none.Split w qs) place a b h k e = absurd (differ 99 115 tt (sym (close_first c a) ∙ ap first e))
layers_told (none.Close c) (none.Close d) place a b h k e =
    let told = close_told c d a b h k e in
    (ap none.Close told.0, told.1)

empty_told_step : (x : Layer) (y : Known) → plain y ≡ x → ToldEmpty (roll-Empty x)
empty_told_step x y is = subst (λ z. ToldEmpty (roll-Empty z)) is
    (told_by_layer Empty Layer (empty_lines first_style) greatest_in_empty roll-Empty out-Empty layer_lines layer_number roll-out-Empty
    (fold-roll-Empty Lines Lines (empty_step first_style) empty_part_step) (fold-roll-Empty ℕ ℕ empty_number_step empty_part_number_step) (plain y) (layers_told y))

-- ---- parts

abbrev KnownPart : Type 0
KnownPart = none.EmptyPart-F ((t : Empty) × ToldEmpty t) ((r : EmptyPart) × ToldPart r)

abbrev plain_part : KnownPart → none.EmptyPart-F Empty EmptyPart
plain_part y = map-EmptyPart ((t : Empty) × ToldEmpty t) ((r : EmptyPart) × ToldPart r) Empty EmptyPart (λ e. e.0) (λ e. e.0) y

abbrev part_layer_lines : none.EmptyPart-F Empty EmptyPart → Lines
part_layer_lines z = empty_part_step (map-EmptyPart Empty EmptyPart Lines Lines (empty_lines first_style) (empty_part_lines first_style) z)

abbrev part_layer_number : none.EmptyPart-F Empty EmptyPart → ℕ
part_layer_number z = empty_part_number_step (map-EmptyPart Empty EmptyPart ℕ ℕ greatest_in_empty greatest_in_empty_part z)

part_layers_told : (y : KnownPart) (z : none.EmptyPart-F Empty EmptyPart) (place : ℕ) (a b : List ℕ) → part_layer_number (plain_part y) < 10 ^ 64 → part_layer_number z < 10 ^ 64
    → text_of (part_layer_lines (plain_part y) place) ++ a ≡ text_of (part_layer_lines z place) ++ b → (plain_part y ≡ z) × (a ≡ b)
part_layers_told y z place a b h k e =
    let line = range_told y.range z.range (text_of (empty_lines first_style y.below.0 place)) (text_of (empty_lines first_style z.below place)) a b (omega arith) (omega arith) (omega arith) (omega arith) e in
    let below = y.below.1 place z.below a b (omega arith) (omega arith) line.1 in
    let range = line.0 in
    let tree = below.0 in
    (λ i. record { range = range i; below = tree i }, below.1)

part_told_step : (x : none.EmptyPart-F Empty EmptyPart) (y : KnownPart) → plain_part y ≡ x → ToldPart (roll-EmptyPart x)
part_told_step x y is = subst (λ z. ToldPart (roll-EmptyPart z)) is
    (told_by_layer EmptyPart (none.EmptyPart-F Empty EmptyPart) (empty_part_lines first_style) greatest_in_empty_part roll-EmptyPart out-EmptyPart part_layer_lines part_layer_number roll-out-EmptyPart
    (fold-roll-EmptyPart Lines Lines (empty_step first_style) empty_part_step) (fold-roll-EmptyPart ℕ ℕ empty_number_step empty_part_number_step) (plain_part y) (part_layers_told y))

pub empty_told : (t : Empty) → IsTold Empty (empty_lines first_style) greatest_in_empty t
empty_told = ind-Empty ToldEmpty ToldPart empty_told_step part_told_step

-- ---- what is called illegal

-- the text tells the tree that shows it
pub illegal_told : (s : Empty) (place : ℕ) (t : Empty) (a b : List ℕ) → greatest_in_empty s < 10 ^ 64 → greatest_in_empty t < 10 ^ 64
    → text_of (illegal_lines first_style s place) ++ a ≡ text_of (illegal_lines first_style t place) ++ b → (s ≡ t) × (a ≡ b)
illegal_told s place t a b h k e =
    let word : AreWords (codes "illegal" ∷ []) = (visible_word (codes "illegal") tt, tt) in
    let line = first_line (codes "illegal") (codes "illegal") [] [] (text_of (empty_lines first_style s place)) (text_of (empty_lines first_style t place)) a b word word e in
    empty_told s place t a b h k line.1
