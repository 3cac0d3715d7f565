-- The text of a certificate that fits is in form.
use Rattle.std.proofs.Common.{◌≡◌, ◌≢◌, ℕ, zero, suc, ◌+◌, ◌<◌, ◌≤◌, ◌^◌, Bool, true, false, List, [], ◌∷◌, ◌++◌, append_assoc, length, map, ℤ, pos, negsuc, Option, None, Some, Ok, inl, inr, refl, sym, ap, ◌∙◌, subst, arith}
use Rattle.std.specs.Prelude.{All, codes}
use Rattle.std.specs.Fmt.{decimal, signed_decimal}
use Rattle.std.specs.List.{slice_split, onto_first}
use Rattle.std.proofs.lemmas.Bool.Decides.{nat_tests}
use Rattle.std.proofs.lemmas.List.Splits.{slice_split-cons_yes, slice_split-cons_no}
use Rattle.std.proofs.lemmas.Option.{slice_get_within}
use Rattle.memchr.specs.Find.{is_byte}
use Rattle.qm_math.specs.Fraction.{Fraction}
use Rattle.qm_frac.specs.Lowest.{IsFrac}
use Rattle.qm_text.specs.Numbers.{number_word}
use Rattle.qm_model.specs.declared.row_id.RowId.{RowId}
use Rattle.qm_model.specs.declared.row_id.RowId.TheVariants as id
use Rattle.qm_model.specs.declared.variable.Player.{Player}
use Rattle.qm_model.specs.declared.variable.Player.TheVariants.{Exists, All as Universal}
use Rattle.qm_model.specs.declared.game.Problem.{Problem}
use Rattle.qm_model.specs.Plays.{whole_vars}
use Rattle.qm_trees.specs.declared.combination.Entry.{Entry}
use Rattle.qm_trees.specs.Entries.{Combination}
use Rattle.qm_certfile.specs.Lines.{Word, Line, line_text, text_of}
use Rattle.qm_certfile.specs.Numbers.{number_of_row}
use Rattle.qm_certfile.specs.Styles.{first_style, numbered}
use Rattle.qm_certfile.specs.TreeLines.{close_line, entry_word, objective_words}
use Rattle.qm_certfile.specs.WellFormed.{IsWhole}
use Rattle.qm_certfile.proofs.NumberWords.{AreVisible, Lacks, visible_append, visible_decimal, visible_number, visible_signed, visible_word}
use Rattle.qm_certfile.proofs.LineSplits.{AreWords, words_append}
use Rattle.qm_certread.specs.Pieces.{lines_of, words_of}
use Rattle.qm_certread.specs.Nodes.{Node}
use Rattle.qm_certread.specs.Dues.{Due, Claimed, Played, Said as DueLine, Policy, Below, Empty, Refute, Ranges, after, ranges}
use Rattle.qm_certread.specs.Forms.{player_at, said_at}
use Rattle.qm_certread.specs.Reading.{AreSaid}
use Rattle.qm_certread.specs.Fits.{AreFit, FitsAt, FitsMove, IsCount, IsRowEntry, line_of}
use Rattle.qm_certread.proofs.WordCuts.{some_piece}
use Rattle.qm_certread.proofs.LinesFit.{node_said}
use Rattle.qm_certread.proofs.TextLines.{joined, line_joined}

-- ---- pieces

lacks_visible : (mark : ℕ) → mark ≤ 32 → (w : Word) → AreVisible w → Lacks mark w
lacks_visible mark low [] h = tt
lacks_visible mark low (b ∷ bs) h = let above = h.0 in (λ e. absurd (omega (arith, e)), lacks_visible mark low bs h.1)

lacks_append : (s : ℕ) (xs ys : List ℕ) → Lacks s xs → Lacks s ys → Lacks s (xs ++ ys)
lacks_append s [] ys h k = k
lacks_append s (x ∷ xs) ys h k = (h.0, lacks_append s xs ys h.1 k)

is_mark : (mark : ℕ) → is_byte mark mark ≡ true
is_mark mark = grind (arith, nat_tests)

no_mark : (mark b : ℕ) → (b ≡ mark → ⊥) → is_byte mark b ≡ false
no_mark mark b h = let apart : b ≢ mark = h in grind (arith, nat_tests)

split_first : (mark : ℕ) (w rest : List ℕ) → Lacks mark w → slice_split (is_byte mark) (w ++ mark ∷ rest) ≡ w ∷ slice_split (is_byte mark) rest
split_first mark [] rest h = slice_split-cons_yes (is_byte mark) mark rest (is_mark mark)
split_first mark (b ∷ w) rest h = slice_split-cons_no (is_byte mark) b (w ++ mark ∷ rest) (no_mark mark b h.0) ∙ ap (onto_first b) (split_first mark w rest h.1)

split_last : (mark : ℕ) (w : List ℕ) → Lacks mark w → slice_split (is_byte mark) w ≡ w ∷ []
split_last mark [] h = refl
split_last mark (b ∷ w) h = slice_split-cons_no (is_byte mark) b w (no_mark mark b h.0) ∙ ap (onto_first b) (split_last mark w h.1)

words_again : (w : Word) (ws : Line) → AreWords (w ∷ ws) → words_of (joined 32 (w ∷ ws)) ≡ w ∷ ws
words_again w [] h = split_last 32 w (lacks_visible 32 (omega arith) w h.0)
words_again w (next ∷ ws) h = split_first 32 w (joined 32 (next ∷ ws)) (lacks_visible 32 (omega arith) w h.0) ∙ ap (λ l. w ∷ l) (words_again next ws h.1)

lacks_joined : (ws : Line) → AreWords ws → Lacks 10 (joined 32 ws)
lacks_joined [] h = tt
lacks_joined (w ∷ []) h = lacks_visible 10 (omega arith) w h.0
lacks_joined (w ∷ next ∷ ws) h = lacks_append 10 w (32 ∷ joined 32 (next ∷ ws)) (lacks_visible 10 (omega arith) w h.0) (λ e. absurd (omega (arith, e)), lacks_joined (next ∷ ws) h.1)

line_first : (ws : Line) (rest : List ℕ) → AreWords ws → lines_of (line_text ws ++ rest) ≡ joined 32 ws ∷ lines_of rest
line_first ws rest h =
    ap lines_of (ap (λ t. t ++ rest) (line_joined ws) ∙ append_assoc (joined 32 ws) (10 ∷ []) rest) ∙ split_first 10 (joined 32 ws) rest (lacks_joined ws h)

-- ---- lines of visible words

-- a word at least, and each of visible bytes
pub record IsShown (line : Line) : Type 0 where
  pub first : Word
  pub others : Line
  pub is : line ≡ first ∷ others
  pub visible : AreWords (first ∷ others)

shown : (w : Word) (ws : Line) → AreWords (w ∷ ws) → IsShown (w ∷ ws)
shown w ws h = record { first = w; others = ws; is = refl; visible = h }

pub again : (line : Line) → IsShown line → words_of (joined 32 line) ≡ line
again line h = ap (λ l. words_of (joined 32 l)) h.is ∙ words_again h.first h.others h.visible ∙ sym h.is

pub line_first_so : (line : Line) (rest : List ℕ) → IsShown line → lines_of (line_text line ++ rest) ≡ joined 32 line ∷ lines_of rest
line_first_so line rest h =
    ap (λ l. lines_of (line_text l ++ rest)) h.is ∙ line_first (h.first ∷ h.others) rest h.visible ∙ ap (λ l. joined 32 l ∷ lines_of rest) (sym h.is)

visible_whole : (z : ℤ) → IsWhole z → AreVisible (signed_decimal z)
visible_whole (pos n) h = visible_signed (pos n) (omega arith)
visible_whole (negsuc n) h = visible_signed (negsuc n) (omega arith)

visible_count : (n : ℕ) → n < 2 ^ 32 → AreVisible (decimal n)
visible_count n h = visible_decimal n (omega arith)

visible_fraction : (a : Fraction) → IsFrac a → AreVisible (number_word a)
visible_fraction a h = let num = h.num_fits in let den = h.den_fits in visible_number a (omega arith)

visible_row : (row : RowId) → IsCount (number_of_row row) → AreVisible (numbered row)
visible_row (id.Row n) h = (omega arith, visible_count (n + 1) h)
visible_row (id.Uncertain n) h = (omega arith, visible_count (n + 1) h)
visible_row (id.Cut n) h = (omega arith, visible_count (n + 1) h)

visible_entry : (e : Entry) → IsRowEntry e → AreVisible (entry_word first_style e)
visible_entry e h = visible_append (numbered e.row) (61 ∷ number_word e.by) (visible_row e.row h.0) (omega arith, visible_fraction e.by h.1)

visible_all : {A : Type 0} (word : A → Word) (Is : A → Type 0) → ((a : A) → Is a → AreVisible (word a)) → (xs : List A) → All Is xs → AreWords (map word xs)
visible_all {A} word Is each [] all = tt
visible_all {A} word Is each (x ∷ xs) all = (each x (all 0 x (omega arith)), visible_all word Is each xs (λ k d h. all (suc k) d (omega arith)))

visible_objective : (o : Bool) → AreWords (objective_words o)
visible_objective true = (visible_word (codes "o") tt, tt)
visible_objective false = tt

shown_close : (combo : Combination) → All IsRowEntry combo.entries → IsShown (close_line first_style combo)
shown_close combo all =
    shown (codes "close") (objective_words combo.objective ++ map (entry_word first_style) combo.entries) (
      visible_word (codes "close") tt,
      words_append (objective_words combo.objective) (map (entry_word first_style) combo.entries) (visible_objective combo.objective) (visible_all (entry_word first_style) IsRowEntry visible_entry combo.entries all),
    )

shown_alone : (word : Word) → AreVisible word → IsShown (word ∷ [])
shown_alone word h = shown word [] (h, tt)

-- ---- lines that are due

abbrev pub IsClean : Due → Type 0
IsClean Claimed = Unit {0}
IsClean Played = Unit {0}
IsClean (DueLine line) = IsShown line
IsClean (Policy depth) = Unit {0}
IsClean (Below depth) = Unit {0}
IsClean (Empty least) = Unit {0}
IsClean (Refute depth) = Unit {0}
IsClean (Ranges n due) = IsClean due

abbrev AreClean : List Due → Type 0
AreClean [] = Unit {0}
AreClean (d ∷ dues) = IsClean d × AreClean dues

append_clean : (ds es : List Due) → AreClean ds → AreClean es → AreClean (ds ++ es)
append_clean [] es h k = k
append_clean (d ∷ ds) es h k = (h.0, append_clean ds es h.1 k)

ranges_clean : (n : ℕ) (due : Due) → IsClean due → AreClean (ranges n due)
ranges_clean zero due h = tt
ranges_clean (suc n) due h = (h, tt)

pub version_shown : IsShown (codes "certificate" ∷ codes "1" ∷ [])
version_shown = shown (codes "certificate") (codes "1" ∷ []) (visible_word (codes "certificate") tt, (visible_word (codes "1") tt, tt))

pub policy_shown : IsShown (codes "policy" ∷ [])
policy_shown = shown_alone (codes "policy") (visible_word (codes "policy") tt)

pub refute_shown : IsShown (codes "refute" ∷ [])
refute_shown = shown_alone (codes "refute") (visible_word (codes "refute") tt)

pub illegal_shown : IsShown (codes "illegal" ∷ [])
illegal_shown = shown_alone (codes "illegal") (visible_word (codes "illegal") tt)

pub end_shown : IsShown (codes "end" ∷ [])
end_shown = shown_alone (codes "end") (visible_word (codes "end") tt)

module _ (P : Problem) (few : length (whole_vars P) < 2 ^ 32) where
  move_clean : (found : Option Player) (depth : ℕ) (node : Node) → FitsMove P found node → AreClean (after first_style (Policy depth) node) × AreClean (after first_style (Below depth) node)
  move_clean None depth node (point, is, h) = subst (λ n. AreClean (after first_style (Policy depth) n) × AreClean (after first_style (Below depth) n)) is (tt, tt)
  move_clean (Some Exists) depth node (value, is, h) = subst (λ n. AreClean (after first_style (Policy depth) n) × AreClean (after first_style (Below depth) n)) is ((tt, tt), (tt, tt))
  move_clean (Some Universal) depth node (count, is, h) =
      subst (λ n. AreClean (after first_style (Policy depth) n) × AreClean (after first_style (Below depth) n)) is
      (ranges_clean count (Below (depth + 1)) tt, ranges_clean count (Below (depth + 1)) tt)

  after_clean : (d : Due) (node : Node) → FitsAt P d node → IsClean d → AreClean (after first_style d node)
  after_clean Claimed node (inl same) clean =
      subst (λ n. AreClean (after first_style Claimed n)) same (version_shown, (tt, (refute_shown, (tt, (end_shown, tt)))))
  after_clean Claimed node (inr (inl same)) clean =
      subst (λ n. AreClean (after first_style Claimed n)) same (version_shown, (illegal_shown, (tt, (end_shown, tt))))
  after_clean Claimed node (inr (inr (value, is, h))) clean =
      subst (λ n. AreClean (after first_style Claimed n)) is (version_shown, (tt, (policy_shown, (tt, (refute_shown, (tt, (end_shown, tt)))))))
  after_clean Played node (values, is, h) clean = subst (λ n. AreClean (after first_style Played n)) is tt
  after_clean (DueLine line) node same clean = subst (λ n. AreClean (after first_style (DueLine line) n)) same tt
  after_clean (Policy depth) node h clean = (move_clean (player_at P depth) depth node h).0
  after_clean (Below depth) node (inl same) clean = subst (λ n. AreClean (after first_style (Below depth) n)) same (tt, tt)
  after_clean (Below depth) node (inr h) clean = (move_clean (player_at P depth) depth node h).1
  after_clean (Empty least) node (inl (var, split, (count, is, h))) clean = subst (λ n. AreClean (after first_style (Empty least) n)) is (ranges_clean count (Empty (var + 1)) tt)
  after_clean (Empty least) node (inr (combo, is, h)) clean = subst (λ n. AreClean (after first_style (Empty least) n)) is tt
  after_clean (Refute depth) node (inl (inside, (count, is, h))) clean = subst (λ n. AreClean (after first_style (Refute depth) n)) is (ranges_clean count (Refute (depth + 1)) tt)
  after_clean (Refute depth) node (inr (inl (player, (value, whole, (completion, is, h))))) clean = subst (λ n. AreClean (after first_style (Refute depth) n)) is (tt, tt)
  after_clean (Refute depth) node (inr (inr (combo, is, h))) clean = subst (λ n. AreClean (after first_style (Refute depth) n)) is tt
  after_clean (Ranges n due) node (range, is, h) clean = subst (λ m. AreClean (after first_style (Ranges n due) m)) is (clean, ranges_clean n due clean)

  move_shown : (found : Option Player) (node : Node) → FitsMove P found node → IsShown (line_of node)
  move_shown None node (point, is, (len, all)) =
      subst (λ n. IsShown (line_of n)) is (shown (codes "leaf") (map number_word point) (visible_word (codes "leaf") tt, visible_all number_word IsFrac visible_fraction point all))
  move_shown (Some Exists) node (value, is, h) = subst (λ n. IsShown (line_of n)) is (shown (codes "choose") (signed_decimal value ∷ []) (visible_word (codes "choose") tt, (visible_whole value h, tt)))
  move_shown (Some Universal) node (count, is, h) = subst (λ n. IsShown (line_of n)) is (shown (codes "answer") (decimal count ∷ []) (visible_word (codes "answer") tt, (visible_count count h, tt)))

  pub node_shown : (d : Due) (node : Node) → FitsAt P d node → IsClean d → IsShown (line_of node)
  node_shown Claimed node (inl same) clean = subst (λ n. IsShown (line_of n)) same (shown_alone (codes "infeasible") (visible_word (codes "infeasible") tt))
  node_shown Claimed node (inr (inl same)) clean = subst (λ n. IsShown (line_of n)) same (shown_alone (codes "empty") (visible_word (codes "empty") tt))
  node_shown Claimed node (inr (inr (value, is, h))) clean =
      subst (λ n. IsShown (line_of n)) is (shown (codes "optimal") (number_word value ∷ []) (visible_word (codes "optimal") tt, (visible_fraction value h, tt)))
  node_shown Played node (values, is, (len, all)) clean =
      subst (λ n. IsShown (line_of n)) is (shown (codes "legal") (map signed_decimal values) (visible_word (codes "legal") tt, visible_all signed_decimal IsWhole visible_whole values all))
  node_shown (DueLine line) node same clean = subst (λ n. IsShown (line_of n)) same clean
  node_shown (Policy depth) node h clean = move_shown (player_at P depth) node h
  node_shown (Below depth) node (inl same) clean = subst (λ n. IsShown (line_of n)) same illegal_shown
  node_shown (Below depth) node (inr h) clean = move_shown (player_at P depth) node h
  node_shown (Empty least) node (inl (var, (x, at, universal, low), (count, is, h))) clean =
      let inside = slice_get_within (whole_vars P) var x at in
      subst (λ n. IsShown (line_of n)) is
      (shown (codes "split") (decimal (var + 1) ∷ decimal count ∷ []) (visible_word (codes "split") tt, (visible_decimal (var + 1) (omega arith), (visible_count count h, tt))))
  node_shown (Empty least) node (inr (combo, is, (plain, h))) clean = subst (λ n. IsShown (line_of n)) is (shown_close combo h.1)
  node_shown (Refute depth) node (inl (inside, (count, is, h))) clean =
      subst (λ n. IsShown (line_of n)) is (shown (codes "over") (decimal count ∷ []) (visible_word (codes "over") tt, (visible_count count h, tt)))
  node_shown (Refute depth) node (inr (inl (player, (value, whole, (completion, is, (len, all)))))) clean =
      subst (λ n. IsShown (line_of n)) is
      (shown (codes "pick") (signed_decimal value ∷ map signed_decimal completion)
      (visible_word (codes "pick") tt, (visible_whole value whole, visible_all signed_decimal IsWhole visible_whole completion all)))
  node_shown (Refute depth) node (inr (inr (combo, is, h))) clean = subst (λ n. IsShown (line_of n)) is (shown_close combo h.1)
  node_shown (Ranges n due) node (range, is, h) clean =
      subst (λ m. IsShown (line_of m)) is
      (shown (codes "range") (signed_decimal range.low ∷ signed_decimal range.high ∷ []) (visible_word (codes "range") tt, (visible_whole range.low h.0, (visible_whole range.high h.1, tt))))

  -- ---- what fits is said by its own text

  said_by : (dues : List Due) (nodes : List Node) → AreClean dues → AreFit P dues nodes → AreSaid first_style P dues nodes (lines_of (text_of (map line_of nodes)))
  said_by [] [] clean fit = refl
  said_by [] (node ∷ nodes) clean fit = absurd fit
  said_by (d ∷ dues) [] clean fit = absurd fit
  said_by (d ∷ dues) (node ∷ nodes) clean (here, behind) =
      let rest = text_of (map line_of nodes) in
      let line = node_shown d node here clean.0 in
      let more = some_piece (is_byte 10) rest in
      let there : lines_of (line_text (line_of node) ++ rest) ≡ joined 32 (line_of node) ∷ more.0 ∷ more.1 = line_first_so (line_of node) rest line ∙ ap (λ ls. joined 32 (line_of node) ∷ ls) more.2 in
      let says : said_at first_style P d (words_of (joined 32 (line_of node))) ≡ Ok node = ap (said_at first_style P d) (again (line_of node) line) ∙ node_said P few d node here in
      let others = said_by (after first_style d node ++ dues) nodes (append_clean (after first_style d node) dues (after_clean d node here clean.0) clean.1) behind in
      subst (λ ls. AreSaid first_style P (d ∷ dues) (node ∷ nodes) ls) (sym there)
      (says, subst (λ ls. AreSaid first_style P (after first_style d node ++ dues) nodes ls) more.2 others)

  pub fit_said : (nodes : List Node) → AreFit P (Claimed ∷ []) nodes → AreSaid first_style P (Claimed ∷ []) nodes (lines_of (text_of (map line_of nodes)))
  fit_said nodes fit = said_by (Claimed ∷ []) nodes (tt, tt) fit
