-- Small lists of symbols, judged by the definitions.
use Rattle.std.proofs.Common.{◌≡◌, ◌≢◌, ℕ, zero, suc, pos, Bool, true, false, List, [], ◌∷◌, ◌++◌, inl, inr, Some, None, AllPairs, Err, refl, sym, ap, ◌∙◌, arith}
use Rattle.qm_math.specs.Fraction.{Fraction}
use Rattle.qm_math.proofs.Lists.{cons-nonempty}
use Rattle.qm_lex.specs.declared.place.Place.{Place}
use Rattle.qm_lex.specs.declared.token.Keyword.{Keyword}
use Rattle.qm_lex.specs.declared.token.Keyword.TheVariants as keyword
use Rattle.qm_model.specs.declared.game.Sense.TheVariants.{Max}
use Rattle.qm_parse.specs.declared.ast.Ast.{Ast}
use Rattle.qm_parse.specs.declared.ast.AstBound.{AstBound}
use Rattle.qm_parse.specs.declared.ast.AstRow.{AstRow}
use Rattle.qm_parse.specs.declared.ast.AstTerm.{AstTerm}
use Rattle.qm_parse.specs.declared.ast.Relation.TheVariants.{Less, Greater}
use Rattle.qm_parse.specs.declared.fault.What.TheVariants as what
use Rattle.qm_parse.specs.declared.stage.NameList.TheVariants.{Order}
use Rattle.qm_parse.specs.declared.stage.Section.TheVariants as section
use Rattle.qm_parse.specs.declared.unread.Unread.{Unread}
use Rattle.qm_parse.specs.declared.unread.Unread.TheVariants as unread
use Rattle.qm_parse.specs.declared.word.Symbol.{Symbol}
use Rattle.qm_parse.specs.declared.word.Word.{Word}
use Rattle.qm_parse.specs.declared.word.Word.TheVariants.{Name, Number, Sign, Related, Colon, Keyword as Reserved, Infinite}
use Rattle.qm_parse.specs.Drafts.{noted, one, signed_by, turned}
use Rattle.qm_parse.specs.Faults.{CanGoOn}
use Rattle.qm_parse.specs.Parts.{BoundOf, RowOf}
use Rattle.qm_parse.specs.Reading.{empty_ast, empty_draft, leaves, read, start}
use Rattle.qm_parse.specs.Stages.{begun, begun_by, expected, fits_line, followed, has, may_end, may_share_line, missing, moved, next_state, objective_begun, row_begun, section_of, stage_of, step, wanted, with_section}
use Rattle.qm_parse.specs.Texts.{AreSections, Bounded, IsText, KnowColons, Listed, Written, section_written}
use Rattle.qm_parse.proofs.ReadTexts.{text_reads}
use Rattle.qm_parse.proofs.Beginnings.{answered_is_not_failed}

-- a token at a place; the first of its line or not
abbrev first : Word → ℕ → Symbol
first word line = record { word = word; place = record { line = line; column = 1 }; begins_line = true }

abbrev later : Word → ℕ → ℕ → Symbol
later word line column = record { word = word; place = record { line = line; column = column }; begins_line = false }

abbrev two : Fraction
two = record { num = pos 2; den = 1 }

-- MAX, ST
abbrev heading : List Symbol → List Symbol
heading rest = first (Reserved keyword.Max) 1 ∷ first (Reserved keyword.St) 2 ∷ rest

-- ORDER, END
abbrev closing : List Symbol
closing = first (Reserved keyword.Order) 8 ∷ first (Reserved keyword.End) 9 ∷ []

one_section : (written : Written) → section_written written ≡ section.Names Order → AreSections (written ∷ [])
one_section written is = record { once = λ i j d p q. absurd (omega arith); ordered = (0, omega arith, is) }

two_sections : (other written : Written) → section_written other ≢ section.Names Order → section_written written ≡ section.Names Order → AreSections (other ∷ written ∷ [])
two_sections other written apart is = record {
  once = both;
  ordered = (1, omega arith, is);
}
  where
    both : AllPairs (λ one two. section_written one ≢ section_written two) (other ∷ written ∷ [])
    both zero zero d p q = absurd (omega arith)
    both zero (suc zero) d p q = λ e. apart (e ∙ is)
    both zero (suc (suc j)) d p q = absurd (omega arith)
    both (suc i) zero d p q = absurd (omega arith)
    both (suc i) (suc zero) d p q = absurd (omega arith)
    both (suc i) (suc (suc j)) d p q = absurd (omega arith)

-- c: 2 x - y <= - 2
abbrev labelled_row : List Symbol
labelled_row =
    first (Name 0 true) 3 ∷ later Colon 3 2 ∷ later (Number (Some two)) 3 4 ∷ later (Name 1 false) 3 6 ∷ later (Sign true) 3 8 ∷ later (Name 2 false) 3 10 ∷ later (Related Less) 3 12
    ∷ later (Sign true) 3 15 ∷ later (Number (Some two)) 3 17 ∷ closing

abbrev labelled : AstRow
labelled = record {
  terms =
      record { coef = two; name = Some 1; at = record { line = 3; column = 6 } }
      ∷ record { coef = signed_by true one; name = Some 2; at = record { line = 3; column = 10 } } ∷ [];
  relation = Less;
  right = signed_by true two;
  at = record { line = 3; column = 1 };
}

no_nil : (term : AstTerm) (terms : List AstTerm) → term ∷ terms ≢ []
no_nil term terms e = absurd cc

a_labelled_row : RowOf labelled labelled_row closing
unfolding signed_by
a_labelled_row = (
  no_nil _ _,
  refl,
  (
    _,
    inl (0, record { line = 3; column = 1 }, (_, ((true, refl), refl, refl), (refl, refl))),
    (
      _,
      (
        _,
        ([], inl refl, (_, refl, (two, 1, refl, refl, (_, inl (refl, refl), ((false, refl), refl, refl))))),
        (_, (true ∷ [], inr (cons-nonempty true []), (_, (_, (refl, refl), refl), (one, 2, refl, refl, (_, inr (refl, refl), ((false, refl), refl, refl))))), refl),
      ),
      (_, (refl, refl), (_, (true ∷ [], (_, (_, (refl, refl), refl), (two, refl, (refl, refl)))), (inl refl, refl))),
    ),
  ),
)

-- a row with a label
labelled_text : IsText [] (heading labelled_row) (record (empty_ast []) { rows = labelled ∷ [] })
unfolding empty_ast
labelled_text = record {
  text = record { sense = Max; objective = []; rows = labelled ∷ []; sections = Listed Order [] ∷ [] };
  spelled = (_, inr (refl, refl), (_, (_, inr refl, refl), (_, inr (refl, refl), (_, (_, a_labelled_row, refl), (_, (_, (_, (refl, refl), refl), refl), (refl, refl))))));
  sections = one_section (Listed Order []) refl;
  tree = refl;
}

-- BOUNDS, 2 <= x, and on the next line <= INF
abbrev turned_bound : List Symbol
turned_bound =
    first (Reserved keyword.Bounds) 3 ∷ first (Number (Some two)) 4 ∷ later (Related Less) 4 3 ∷ later (Name 0 false) 4 6 ∷ first (Related Less) 5 ∷ later Infinite 5 4 ∷ closing

abbrev at_x : Place
at_x = record { line = 4; column = 6 }

abbrev both_relations : List AstBound
both_relations = record { name = 0; relation = Greater; value = Some two; at = at_x } ∷ record { name = 0; relation = Less; value = None; at = at_x } ∷ []

bounds_and_order : Written → section_written (Bounded (both_relations ∷ [])) ≢ section.Names Order
bounds_and_order written e = absurd cc

a_bound_over_two_lines : BoundOf both_relations (first (Number (Some two)) 4 ∷ later (Related Less) 4 3 ∷ later (Name 0 false) 4 6 ∷ first (Related Less) 5 ∷ later Infinite 5 4 ∷ closing) closing
unfolding signed_by turned
a_bound_over_two_lines = (
  _,
  inr (
    record { name = 0; relation = Greater; value = Some two; at = at_x },
    record { name = 0; relation = Less; value = None; at = at_x },
    refl,
    (
      _,
      (_, ([], (_, refl, (two, refl, (refl, refl)))), (_, (refl, refl), ((false, refl), refl, refl))),
      (refl, refl, (_, (refl, refl), ([], (_, refl, (refl, refl))))),
    ),
  ),
  (inl refl, refl),
)

bound_text : IsText [] (heading turned_bound) (record (empty_ast []) { bounds = both_relations })
unfolding empty_ast
bound_text = record {
  text = record { sense = Max; objective = []; rows = []; sections = Bounded (both_relations ∷ []) ∷ Listed Order [] ∷ [] };
  spelled = (
    _,
    inr (refl, refl),
    (
      _,
      (_, inr refl, refl),
      (
        _,
        inr (refl, refl),
        (_, refl, (_, (_, (_, (refl, refl), (_, a_bound_over_two_lines, refl)), (_, (_, (refl, refl), refl), refl)), (refl, refl))),
      ),
    ),
  );
  sections = two_sections (Bounded (both_relations ∷ [])) (Listed Order []) (bounds_and_order (Listed Order [])) refl;
  tree = refl;
}

-- ---- what is no text

-- symbols that are not read are no text
not_read : (symbols : List Symbol) (fault : Unread) → KnowColons symbols → read start (empty_draft []) symbols (record { line = 1; column = 1 }) ≡ Err fault → (ast : Ast) → ¬ IsText [] symbols ast
not_read symbols fault colons e ast text = answered_is_not_failed ast fault (sym (text_reads [] symbols ast (record { line = 1; column = 1 }) colons text) ∙ e)

keyword_knows : (reserved : Keyword) (n : ℕ) (labels : Bool) → Reserved reserved ≡ Name n labels → ⊥
keyword_knows reserved n labels e = absurd cc

-- ORDER a second time
abbrev order_twice : List Symbol
order_twice = heading (first (Reserved keyword.Order) 7 ∷ closing)

order_twice_read : read start (empty_draft []) order_twice (record { line = 1; column = 1 }) ≡ Err (unread.Expected (record { line = 8; column = 1 }) what.Section)
unfolding read start empty_draft next_state fits_line may_share_line moved step objective_begun followed section_of begun_by begun has with_section stage_of may_end leaves noted expected missing wanted row_begun
order_twice_read = refl

order_twice_is_none : (ast : Ast) → ¬ IsText [] order_twice ast
order_twice_is_none ast =
    not_read order_twice (unread.Expected (record { line = 8; column = 1 }) what.Section) (
      λ n l e. absurd (keyword_knows keyword.Max n l e),
      (
        λ n l e. absurd (keyword_knows keyword.St n l e),
        (λ n l e. absurd (keyword_knows keyword.Order n l e), (λ n l e. absurd (keyword_knows keyword.Order n l e), (λ n l e. absurd (keyword_knows keyword.End n l e), tt))),
      ),
    ) order_twice_read ast

-- no ORDER
abbrev without_order : List Symbol
without_order = heading (first (Reserved keyword.End) 9 ∷ [])

without_order_read : read start (empty_draft []) without_order (record { line = 1; column = 1 }) ≡ Err (unread.Expected (record { line = 9; column = 1 }) what.Order)
unfolding read start empty_draft next_state fits_line may_share_line moved step objective_begun followed section_of begun_by begun has may_end leaves noted expected missing wanted row_begun
without_order_read = refl

without_order_is_none : (ast : Ast) → ¬ IsText [] without_order ast
without_order_is_none ast =
    not_read without_order (unread.Expected (record { line = 9; column = 1 }) what.Order)
    (λ n l e. absurd (keyword_knows keyword.Max n l e), (λ n l e. absurd (keyword_knows keyword.St n l e), (λ n l e. absurd (keyword_knows keyword.End n l e), tt))) without_order_read ast

-- ---- a beginning

-- MAX - x, before a colon: no label may stand there, so x is a name alone, and the colon can't go on
abbrev before_a_colon : List Symbol
before_a_colon = first (Reserved keyword.Max) 1 ∷ later (Sign true) 1 5 ∷ later (Name 0 true) 1 7 ∷ []

abbrev as_a_name : List Symbol
as_a_name = first (Reserved keyword.Max) 1 ∷ later (Sign true) 1 5 ∷ later (Name 0 false) 1 7 ∷ []

abbrev single_term : AstTerm
single_term = record { coef = signed_by true one; name = Some 0; at = record { line = 1; column = 7 } }

as_a_name_text : IsText [] (as_a_name ++ first (Reserved keyword.St) 2 ∷ closing) (record (empty_ast []) { objective = single_term ∷ [] })
unfolding empty_ast
as_a_name_text = record {
  text = record { sense = Max; objective = single_term ∷ []; rows = []; sections = Listed Order [] ∷ [] };
  spelled = (
    _,
    inr (refl, refl),
    (
      _,
      (_, inr refl, (_, (true ∷ [], inl refl, (_, (_, (refl, refl), refl), inl (one, 0, refl, refl, (_, inr (refl, refl), ((false, refl), refl, refl))))), refl)),
      (_, inr (refl, refl), (_, refl, (_, (_, (_, (refl, refl), refl), refl), (refl, refl)))),
    ),
  );
  sections = one_section (Listed Order []) refl;
  tree = refl;
}

abbrev flag_of : Word → Bool
flag_of (Name n labels) = labels
flag_of word = false

sign_knows : (n : ℕ) (labels : Bool) → Sign true ≡ Name n labels → ⊥
sign_knows n labels e = absurd cc

no_colon : (reserved : Keyword) → Reserved reserved ≡ Colon → ⊥
no_colon reserved e = absurd cc

as_a_name_colons : KnowColons (as_a_name ++ first (Reserved keyword.St) 2 ∷ closing)
as_a_name_colons = (
  λ n l e. absurd (keyword_knows keyword.Max n l e),
  (
    λ n l e. absurd (sign_knows n l e),
    (
      λ n l e. inr (sym (ap flag_of e), no_colon keyword.St),
      (λ n l e. absurd (keyword_knows keyword.St n l e), (λ n l e. absurd (keyword_knows keyword.Order n l e), (λ n l e. absurd (keyword_knows keyword.End n l e), tt))),
    ),
  ),
)

before_a_colon_goes_on : CanGoOn before_a_colon
before_a_colon_goes_on = record {
  written = as_a_name;
  same = inr refl;
  more = first (Reserved keyword.St) 2 ∷ closing;
  names = [];
  ast = record (empty_ast []) { objective = single_term ∷ [] };
  colons = as_a_name_colons;
  text = as_a_name_text;
}
