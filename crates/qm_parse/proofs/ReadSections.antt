-- Sections are read.
use Rattle.std.proofs.Common.{◌≡◌, ◌≢◌, ℕ, zero, suc, ◌<◌, true, false, List, [], ◌∷◌, ◌++◌, ◌⊎◌, inl, inr, Some, None, AllPairs, flat_map, fold, length, map, slice_index_or, refl, sym, ap, subst, ◌∙◌, append_assoc, append-nil, arith}
use Rattle.qm_lex.specs.declared.token.Keyword.{Keyword}
use Rattle.qm_lex.specs.declared.token.Keyword.TheVariants as keyword
use Rattle.qm_parse.specs.declared.ast.Ast.{Ast}
use Rattle.qm_parse.specs.declared.ast.AstBound.{AstBound}
use Rattle.qm_parse.specs.declared.ast.AstRow.{AstRow}
use Rattle.qm_parse.specs.declared.ast.Named.{Named}
use Rattle.qm_parse.specs.declared.draft.Draft.{Draft}
use Rattle.qm_parse.specs.declared.stage.NameList.{NameList}
use Rattle.qm_parse.specs.declared.stage.NameList.TheVariants.{Generals, Binaries, Exists, All, Order}
use Rattle.qm_parse.specs.declared.stage.Section.{Section}
use Rattle.qm_parse.specs.declared.stage.Section.TheVariants as section
use Rattle.qm_parse.specs.declared.stage.Seen.{Seen}
use Rattle.qm_parse.specs.declared.stage.Stage.{Stage}
use Rattle.qm_parse.specs.declared.stage.Stage.TheVariants as stage
use Rattle.qm_parse.specs.declared.stage.State.{State}
use Rattle.qm_parse.specs.declared.word.Symbol.{Symbol}
use Rattle.qm_parse.specs.declared.word.Word.{Word}
use Rattle.qm_parse.specs.declared.word.Word.TheVariants.{Keyword as Reserved}
use Rattle.qm_parse.specs.Drafts.{list_noted, listed, noted, with_listed}
use Rattle.qm_parse.specs.Parts.{Each, ListHeading, ListedName, Says}
use Rattle.qm_parse.specs.Reading.{leaves, read, start}
use Rattle.qm_parse.specs.Stages.{begun, begun_by, followed, has, may_share_line, moved, next_state, section_of, stage_of, step, with_section}
use Rattle.qm_parse.specs.Texts.{Bounded, KnowColons, Listed, SectionOf, Uncertain, Written, section_written, with_names, with_written}
use Rattle.qm_parse.proofs.ReadSteps.{AreReadAs, GoesOn, fits_shared, goes_nowhere, goes_then, reads_symbol, state_at}
use Rattle.qm_parse.proofs.ReadWords.{FirstFits, name_goes, says_colons}
use Rattle.qm_parse.proofs.ReadRows.{IsBetween, rows_begin, rows_go}
use Rattle.qm_parse.proofs.ReadObjectives.{heading_goes, uncertainty_heading}
use Rattle.qm_parse.proofs.ReadBounds.{PartEnds, bounds_begin, bounds_go, names_ends, row_end_ends, rows_begin_ends}

-- ---- the keyword that begins a section

part_moves : (s : Stage) (seen : Seen) (symbol : Symbol) (reserved : Keyword) (next : State) → PartEnds s → symbol.word ≡ Reserved reserved → followed seen (Reserved reserved) ≡ Some next
    → next_state (state_at s seen) symbol ≡ Some next
unfolding next_state moved
part_moves s seen symbol reserved next ends is follows =
    let steps : step s symbol.word ≡ None = ap (step s) is ∙ ends.steps reserved in
    let after : followed seen symbol.word ≡ Some next = ap (followed seen) is ∙ follows in
    rw (fits_shared s symbol (ap (may_share_line s) is ∙ ends.shares reserved), steps, ends.ends) after

keyword_stays : (symbol : Symbol) (reserved : Keyword) → symbol.word ≡ Reserved reserved → leaves symbol.word ≡ false
unfolding leaves
keyword_stays symbol reserved is = ap leaves is

-- a keyword behind a part leaves the draft as it was
pub keyword_reads : (s : Stage) (seen : Seen) (draft : Draft) (reserved : Keyword) (next : State) (symbols rest : List Symbol) → PartEnds s → followed seen (Reserved reserved) ≡ Some next
    → Says (Reserved reserved) symbols rest → AreReadAs (state_at s seen) draft symbols next draft rest
keyword_reads s seen draft reserved next [] rest ends follows p = absurd p
keyword_reads s seen draft reserved next (symbol ∷ symbols) rest ends follows p =
    let keeps : noted s seen.uncertainty symbol.word symbol.place draft ≡ draft =
    ap (λ w. noted s seen.uncertainty w symbol.place draft) p.0 ∙ ends.keeps seen.uncertainty reserved symbol.place draft in
    λ end. reads_symbol (state_at s seen) next draft symbol symbols (part_moves s seen symbol reserved next ends p.0 follows) (keyword_stays symbol reserved p.0) end
    ∙ ap (λ d. read next d symbols end) keeps
    ∙ ap (λ xs. read next draft xs end) p.1

begun_new : (seen : Seen) (part : Section) → has seen part ≡ false → begun seen part ≡ Some (state_at (stage_of part) (with_section seen part))
unfolding begun
begun_new seen part e = rw e refl

-- the keyword of a section that has not begun yet
section_reads : (s : Stage) (seen : Seen) (draft : Draft) (reserved : Keyword) (part : Section) (symbols rest : List Symbol) → PartEnds s → followed seen (Reserved reserved) ≡ begun seen part
    → has seen part ≡ false → Says (Reserved reserved) symbols rest → AreReadAs (state_at s seen) draft symbols (state_at (stage_of part) (with_section seen part)) draft rest
section_reads s seen draft reserved part symbols rest ends follows new p =
    keyword_reads s seen draft reserved (state_at (stage_of part) (with_section seen part)) symbols rest ends (follows ∙ begun_new seen part new) p

pub any_fits : (s : Stage) (symbols : List Symbol) → ((word : Word) → may_share_line s word ≡ true) → FirstFits s symbols
any_fits s [] shares = tt
any_fits s (symbol ∷ symbols) shares = fits_shared s symbol (shares symbol.word)

-- ---- lists of names

abbrev names_added : NameList → Ast → List Named → Ast
names_added Generals ast names = record ast { generals = ast.generals ++ names }
names_added Binaries ast names = record ast { binaries = ast.binaries ++ names }
names_added Exists ast names = record ast { existential = ast.existential ++ names }
names_added All ast names = record ast { universal = ast.universal ++ names }
names_added Order ast names = record ast { order = ast.order ++ names }

names_added-none : (list : NameList) (ast : Ast) → names_added list ast [] ≡ ast
names_added-none Generals ast = ap (λ names. record ast { generals = names }) (append-nil ast.generals)
names_added-none Binaries ast = ap (λ names. record ast { binaries = names }) (append-nil ast.binaries)
names_added-none Exists ast = ap (λ names. record ast { existential = names }) (append-nil ast.existential)
names_added-none All ast = ap (λ names. record ast { universal = names }) (append-nil ast.universal)
names_added-none Order ast = ap (λ names. record ast { order = names }) (append-nil ast.order)

names_added-more : (list : NameList) (ast : Ast) (named : Named) (names : List Named) → names_added list (names_added list ast (named ∷ [])) names ≡ names_added list ast (named ∷ names)
names_added-more Generals ast named names = ap (λ all. record ast { generals = all }) (append_assoc ast.generals (named ∷ []) names)
names_added-more Binaries ast named names = ap (λ all. record ast { binaries = all }) (append_assoc ast.binaries (named ∷ []) names)
names_added-more Exists ast named names = ap (λ all. record ast { existential = all }) (append_assoc ast.existential (named ∷ []) names)
names_added-more All ast named names = ap (λ all. record ast { universal = all }) (append_assoc ast.universal (named ∷ []) names)
names_added-more Order ast named names = ap (λ all. record ast { order = all }) (append_assoc ast.order (named ∷ []) names)

listed_is : (list : NameList) (named : Named) (ast : Ast) → listed list named ast ≡ names_added list ast (named ∷ [])
unfolding listed
listed_is Generals named ast = refl
listed_is Binaries named ast = refl
listed_is Exists named ast = refl
listed_is All named ast = refl
listed_is Order named ast = refl

name_is : (list : NameList) (named : Named) (ast : Ast) (draft : Draft) → IsBetween ast draft → IsBetween (names_added list ast (named ∷ [])) (with_listed list named.name named.at draft)
unfolding with_listed
name_is list named ast draft is = record { ast_is = ap (listed list named) is.ast_is ∙ listed_is list named ast; terms_are = is.terms_are; sign_is = is.sign_is }

pub names_go : (seen : Seen) (list : NameList) (ast : Ast) (names : List Named) (draft : Draft) (symbols rest : List Symbol) → IsBetween ast draft → KnowColons symbols → Each ListedName names symbols rest
    → GoesOn seen (stage.Names list) draft symbols (stage.Names list) (IsBetween (names_added list ast names)) rest
unfolding step may_share_line noted list_noted
names_go seen list ast [] draft symbols rest is colons p =
    goes_nowhere seen (stage.Names list) draft symbols rest (IsBetween (names_added list ast [])) p (subst (λ a. IsBetween a draft) (sym (names_added-none list ast)) is) colons
names_go seen list ast (named ∷ names) draft symbols rest is colons (between, first, others) =
    goes_then seen (stage.Names list) (stage.Names list) (stage.Names list) draft symbols between rest (IsBetween (names_added list ast (named ∷ []))) (IsBetween (names_added list ast (named ∷ names)))
    (name_goes seen (stage.Names list) (stage.Names list) draft named.name named.at symbols between (IsBetween (names_added list ast (named ∷ []))) colons (λ labels. refl) (λ labels. refl)
    (λ labels. name_is list named ast draft is) first)
    (λ d holds known.
    subst (λ a. GoesOn seen (stage.Names list) d between (stage.Names list) (IsBetween a) rest) (names_added-more list ast named names)
    (names_go seen list (names_added list ast (named ∷ [])) names d between rest holds known others))

-- the keyword that heads a list of names
pub record HeadedBy (list : NameList) (symbols rest : List Symbol) : Type 0 where
  pub reserved : Keyword
  pub follows : (seen : Seen) → followed seen (Reserved reserved) ≡ begun seen (section.Names list)
  pub says : Says (Reserved reserved) symbols rest

headed : (list : NameList) (symbols rest : List Symbol) → ListHeading list symbols rest → HeadedBy list symbols rest
unfolding followed section_of begun_by
headed Generals symbols rest (inl p) = record { reserved = keyword.Generals; follows = λ seen. refl; says = p }
headed Generals symbols rest (inr p) = record { reserved = keyword.General; follows = λ seen. refl; says = p }
headed Binaries symbols rest (inl p) = record { reserved = keyword.Binaries; follows = λ seen. refl; says = p }
headed Binaries symbols rest (inr p) = record { reserved = keyword.Binary; follows = λ seen. refl; says = p }
headed Exists symbols rest p = record { reserved = keyword.Exists; follows = λ seen. refl; says = p }
headed All symbols rest p = record { reserved = keyword.All; follows = λ seen. refl; says = p }
headed Order symbols rest p = record { reserved = keyword.Order; follows = λ seen. refl; says = p }

-- ---- what has not begun yet is empty in the tree

pub record Untouched (seen : Seen) (ast : Ast) : Type 0 where
  pub uncertain : seen.uncertainty ≡ false → ast.uncertain ≡ []
  pub bounds : seen.bounds ≡ false → ast.bounds ≡ []
  pub generals : seen.generals ≡ false → ast.generals ≡ []
  pub binaries : seen.binaries ≡ false → ast.binaries ≡ []
  pub existential : seen.exists ≡ false → ast.existential ≡ []
  pub universal : seen.all ≡ false → ast.universal ≡ []
  pub order : seen.order ≡ false → ast.order ≡ []

begun_already : {A : Type 0} → true ≡ false → A
begun_already e = absurd cc

untouched_names : (seen : Seen) (ast : Ast) (list : NameList) (names : List Named) → Untouched seen ast → Untouched (with_section seen (section.Names list)) (with_names list names ast)
unfolding with_section
untouched_names seen ast Generals names u = record {
  uncertain = u.uncertain;
  bounds = u.bounds;
  generals = λ e. begun_already e;
  binaries = u.binaries;
  existential = u.existential;
  universal = u.universal;
  order = u.order;
}
untouched_names seen ast Binaries names u = record {
  uncertain = u.uncertain;
  bounds = u.bounds;
  generals = u.generals;
  binaries = λ e. begun_already e;
  existential = u.existential;
  universal = u.universal;
  order = u.order;
}
untouched_names seen ast Exists names u = record {
  uncertain = u.uncertain;
  bounds = u.bounds;
  generals = u.generals;
  binaries = u.binaries;
  existential = λ e. begun_already e;
  universal = u.universal;
  order = u.order;
}
untouched_names seen ast All names u = record {
  uncertain = u.uncertain;
  bounds = u.bounds;
  generals = u.generals;
  binaries = u.binaries;
  existential = u.existential;
  universal = λ e. begun_already e;
  order = u.order;
}
untouched_names seen ast Order names u = record {
  uncertain = u.uncertain;
  bounds = u.bounds;
  generals = u.generals;
  binaries = u.binaries;
  existential = u.existential;
  universal = u.universal;
  order = λ e. begun_already e;
}

untouched_more : (seen : Seen) (ast : Ast) (written : Written) → Untouched seen ast → Untouched (with_section seen (section_written written)) (with_written ast written)
unfolding with_section
untouched_more seen ast (Uncertain rows) u = record {
  uncertain = λ e. begun_already e;
  bounds = u.bounds;
  generals = u.generals;
  binaries = u.binaries;
  existential = u.existential;
  universal = u.universal;
  order = u.order;
}
untouched_more seen ast (Bounded bounds) u = record {
  uncertain = u.uncertain;
  bounds = λ e. begun_already e;
  generals = u.generals;
  binaries = u.binaries;
  existential = u.existential;
  universal = u.universal;
  order = u.order;
}
untouched_more seen ast (Listed list names) u = untouched_names seen ast list names u

names_added-new : (seen : Seen) (list : NameList) (ast : Ast) (names : List Named) → Untouched seen ast → has seen (section.Names list) ≡ false → names_added list ast names ≡ with_names list names ast
unfolding has
names_added-new seen Generals ast names u e = ap (λ before. record ast { generals = before ++ names }) (u.generals e)
names_added-new seen Binaries ast names u e = ap (λ before. record ast { binaries = before ++ names }) (u.binaries e)
names_added-new seen Exists ast names u e = ap (λ before. record ast { existential = before ++ names }) (u.existential e)
names_added-new seen All ast names u e = ap (λ before. record ast { universal = before ++ names }) (u.universal e)
names_added-new seen Order ast names u e = ap (λ before. record ast { order = before ++ names }) (u.order e)

-- ---- a section

-- a section was read, and another may follow
abbrev SectionRead : Seen → Seen → Stage → Ast → Draft → List Symbol → List Symbol → Type 0
SectionRead seen after s ast draft symbols rest =
    (next : Stage) × PartEnds next × (behind : Draft) × IsBetween ast behind × KnowColons rest × AreReadAs (state_at s seen) draft symbols (state_at next after) behind rest

pub rows_end : (next : Stage) → (next ≡ stage.RowsBegin) ⊎ (next ≡ stage.RowEnd) → PartEnds next
rows_end next (inl e) = subst PartEnds (sym e) rows_begin_ends
rows_end next (inr e) = subst PartEnds (sym e) row_end_ends

uncertain_goes : (seen : Seen) (ast : Ast) (s : Stage) (rows : List AstRow) (draft : Draft) (symbols rest : List Symbol) → PartEnds s → IsBetween ast draft → KnowColons symbols
    → has seen section.Uncertainty ≡ false → Untouched seen ast → SectionOf (Uncertain rows) symbols rest
    → SectionRead seen (with_section seen section.Uncertainty) s (with_written ast (Uncertain rows)) draft symbols rest
unfolding followed section_of begun_by stage_of with_section has may_share_line
uncertain_goes seen ast s rows draft symbols rest ends is colons new untouched (behind_keyword, says, (behind_heading, heading, written)) =
    let after = with_section seen section.Uncertainty in
    let (d, holds, known, reads) = heading_goes after ast stage.UncertaintyHeading (λ x. x) draft behind_keyword behind_heading uncertainty_heading is
    (says_colons (Reserved keyword.Uncertainty) symbols behind_keyword colons says) heading in
    let (next, where_next, (e, all, last, further)) = rows_go after ast stage.RowsBegin rows d behind_heading rest rows_begin holds known (any_fits stage.RowsBegin behind_heading (λ w. refl)) written in (
      next,
      rows_end next where_next,
      e,
      subst (λ a. IsBetween a e) (ap (λ before. record ast { uncertain = before ++ rows }) (untouched.uncertain new)) all,
      last,
      λ end. section_reads s seen draft keyword.Uncertainty section.Uncertainty symbols behind_keyword ends refl new says end ∙ reads end ∙ further end,
    )

bounded_goes : (seen : Seen) (ast : Ast) (s : Stage) (bounds : List (List AstBound)) (draft : Draft) (symbols rest : List Symbol) → PartEnds s → IsBetween ast draft → KnowColons symbols
    → has seen section.Bounds ≡ false → Untouched seen ast → SectionOf (Bounded bounds) symbols rest
    → SectionRead seen (with_section seen section.Bounds) s (with_written ast (Bounded bounds)) draft symbols rest
unfolding followed section_of begun_by stage_of with_section has may_share_line
bounded_goes seen ast s bounds draft symbols rest ends is colons new untouched (behind_keyword, says, written) =
    let after = with_section seen section.Bounds in
    let (next, next_ends, (e, all, last, further)) = bounds_go after ast stage.BoundsBegin bounds draft behind_keyword rest bounds_begin is
    (says_colons (Reserved keyword.Bounds) symbols behind_keyword colons says) (any_fits stage.BoundsBegin behind_keyword (λ w. refl)) written in (
      next,
      next_ends,
      e,
      subst (λ a. IsBetween a e) (ap (λ before. record ast { bounds = before ++ flat_map (λ b. b) bounds }) (untouched.bounds new)) all,
      last,
      λ end. section_reads s seen draft keyword.Bounds section.Bounds symbols behind_keyword ends refl new says end ∙ further end,
    )

listed_goes : (seen : Seen) (ast : Ast) (s : Stage) (list : NameList) (names : List Named) (draft : Draft) (symbols rest : List Symbol) → PartEnds s → IsBetween ast draft → KnowColons symbols
    → has seen (section.Names list) ≡ false → Untouched seen ast → SectionOf (Listed list names) symbols rest
    → SectionRead seen (with_section seen (section.Names list)) s (with_written ast (Listed list names)) draft symbols rest
unfolding stage_of
listed_goes seen ast s list names draft symbols rest ends is colons new untouched (behind_keyword, heading, written) =
    let after = with_section seen (section.Names list) in
    let head = headed list symbols behind_keyword heading in
    let (e, all, last, further) = names_go after list ast names draft behind_keyword rest is (says_colons (Reserved head.reserved) symbols behind_keyword colons head.says) written in (
      stage.Names list,
      names_ends list,
      e,
      subst (λ a. IsBetween a e) (names_added-new seen list ast names untouched new) all,
      last,
      λ end. section_reads s seen draft head.reserved (section.Names list) symbols behind_keyword ends (head.follows seen) new head.says end ∙ further end,
    )

section_goes : (seen : Seen) (ast : Ast) (s : Stage) (written : Written) (draft : Draft) (symbols rest : List Symbol) → PartEnds s → IsBetween ast draft → KnowColons symbols
    → has seen (section_written written) ≡ false → Untouched seen ast → SectionOf written symbols rest
    → SectionRead seen (with_section seen (section_written written)) s (with_written ast written) draft symbols rest
section_goes seen ast s (Uncertain rows) draft symbols rest ends is colons new untouched p = uncertain_goes seen ast s rows draft symbols rest ends is colons new untouched p
section_goes seen ast s (Bounded bounds) draft symbols rest ends is colons new untouched p = bounded_goes seen ast s bounds draft symbols rest ends is colons new untouched p
section_goes seen ast s (Listed list names) draft symbols rest ends is colons new untouched p = listed_goes seen ast s list names draft symbols rest ends is colons new untouched p

-- ---- sections

-- each of the sections is new where it begins
abbrev pub AreNew : Seen → List Written → Type 0
AreNew seen [] = Unit {0}
AreNew seen (written ∷ sections) = (has seen (section_written written) ≡ false) × AreNew (with_section seen (section_written written)) sections

-- the sections that have begun behind them
abbrev pub seen_behind : Seen → List Written → Seen
seen_behind seen [] = seen
seen_behind seen (written ∷ sections) = seen_behind (with_section seen (section_written written)) sections

pub sections_go : (seen : Seen) (ast : Ast) (s : Stage) (sections : List Written) (draft : Draft) (symbols rest : List Symbol) → PartEnds s → IsBetween ast draft → KnowColons symbols
    → AreNew seen sections → Untouched seen ast → Each SectionOf sections symbols rest
    → SectionRead seen (seen_behind seen sections) s (fold with_written ast sections) draft symbols rest
sections_go seen ast s [] draft symbols rest ends is colons new untouched p =
    (s, ends, draft, is, subst KnowColons p colons, λ end. ap (λ xs. read (state_at s seen) draft xs end) p)
sections_go seen ast s (written ∷ sections) draft symbols rest ends is colons new untouched (between, first, others) =
    let (middle, middle_ends, d, holds, known, reads) = section_goes seen ast s written draft symbols between ends is colons new.0 untouched first in
    let (next, next_ends, e, all, last, further) = sections_go (with_section seen (section_written written)) (with_written ast written) middle sections d between rest middle_ends holds known new.1
    (untouched_more seen ast written untouched) others in
    (next, next_ends, e, all, last, λ end. reads end ∙ further end)

-- another section does not begin by this one
has_other : (seen : Seen) (one other : Section) → one ≢ other → has (with_section seen one) other ≡ has seen other
unfolding has with_section
has_other seen section.Uncertainty section.Uncertainty apart = absurd (apart refl)
has_other seen section.Bounds section.Bounds apart = absurd (apart refl)
has_other seen (section.Names Generals) (section.Names Generals) apart = absurd (apart refl)
has_other seen (section.Names Binaries) (section.Names Binaries) apart = absurd (apart refl)
has_other seen (section.Names Exists) (section.Names Exists) apart = absurd (apart refl)
has_other seen (section.Names All) (section.Names All) apart = absurd (apart refl)
has_other seen (section.Names Order) (section.Names Order) apart = absurd (apart refl)
has_other seen section.Uncertainty (section.Names Generals) apart = refl
has_other seen section.Bounds (section.Names Generals) apart = refl
has_other seen one other apart = refl

are_new : (seen : Seen) (sections : List Written)
    → ((k : ℕ) (d : Written) → k < length sections → has seen (section_written (slice_index_or sections k d)) ≡ false)
    → AllPairs (λ one other. section_written one ≢ section_written other) sections → AreNew seen sections
are_new seen [] none once = tt
are_new seen (written ∷ sections) none once = (
  none 0 written (omega arith),
  are_new (with_section seen (section_written written)) sections
      (λ k d p. has_other seen (section_written written) (section_written (slice_index_or sections k d)) (once 0 (suc k) d (omega arith) (omega arith)) ∙ none (suc k) d (omega arith))
      (λ i j d p q. once (suc i) (suc j) d (omega arith) (omega arith)),
)

none_begun : (part : Section) → has start.seen part ≡ false
unfolding has start
none_begun section.Uncertainty = refl
none_begun section.Bounds = refl
none_begun (section.Names Generals) = refl
none_begun (section.Names Binaries) = refl
none_begun (section.Names Exists) = refl
none_begun (section.Names All) = refl
none_begun (section.Names Order) = refl

pub are_new_first : (sections : List Written) → AllPairs (λ one other. section_written one ≢ section_written other) sections → AreNew start.seen sections
are_new_first sections once = are_new start.seen sections (λ k d p. none_begun (section_written (slice_index_or sections k d))) once

ordered_stays : (seen : Seen) (part : Section) → seen.order ≡ true → (with_section seen part).order ≡ true
unfolding with_section
ordered_stays seen section.Uncertainty e = e
ordered_stays seen section.Bounds e = e
ordered_stays seen (section.Names Generals) e = e
ordered_stays seen (section.Names Binaries) e = e
ordered_stays seen (section.Names Exists) e = e
ordered_stays seen (section.Names All) e = e
ordered_stays seen (section.Names Order) e = refl

ordered_behind : (seen : Seen) (sections : List Written) → seen.order ≡ true → (seen_behind seen sections).order ≡ true
ordered_behind seen [] e = e
ordered_behind seen (written ∷ sections) e = ordered_behind (with_section seen (section_written written)) sections (ordered_stays seen (section_written written) e)

order_begins : (seen : Seen) (part : Section) → part ≡ section.Names Order → (with_section seen part).order ≡ true
unfolding with_section
order_begins seen part e = ap (λ p. (with_section seen p).order) e

-- where ORDER is among the sections it has begun behind them
pub ordered_at : (seen : Seen) (sections : List Written) (k : ℕ) → k < length (map section_written sections) → slice_index_or (map section_written sections) k (section.Names Order) ≡ section.Names Order
    → (seen_behind seen sections).order ≡ true
ordered_at seen [] k p e = absurd (omega arith)
ordered_at seen (written ∷ sections) zero p e = ordered_behind (with_section seen (section_written written)) sections (order_begins seen (section_written written) e)
ordered_at seen (written ∷ sections) (suc k) p e = ordered_at (with_section seen (section_written written)) sections k (omega arith) e
