-- What is read as sections is written so, each once.
use Rattle.std.proofs.Common.{◌≡◌, ◌≢◌, ℕ, zero, suc, ◌<◌, ◌≤◌, length, get_or, Bool, true, false, List, [], ◌∷◌, ◌++◌, map, Option, Some, None, refl, sym, ap, subst, arith, ◌∙◌, ◌⊎◌, inl, inr, All as Every, AllPairs}
use Rattle.std.specs.Prelude.{if◌then◌else◌, Ok, Contains, fold}
use Rattle.std.proofs.lemmas.List.Elements.{All-cons}
use Rattle.std.proofs.lemmas.List.Kept.{AllPairs-cons}
use Rattle.qm_lex.specs.declared.place.Place.{Place}
use Rattle.qm_lex.specs.declared.token.Keyword.{Keyword}
use Rattle.qm_lex.specs.declared.token.Keyword.TheVariants as keyword
use Rattle.qm_parse.specs.declared.ast.Ast.{Ast}
use Rattle.qm_parse.specs.declared.ast.Named.{Named}
use Rattle.qm_parse.specs.declared.draft.Draft.{Draft}
use Rattle.qm_parse.specs.declared.stage.NameList.{NameList}
use Rattle.qm_parse.specs.declared.stage.NameList.TheVariants.{Generals, Binaries, Exists, All, Order}
use Rattle.qm_parse.specs.declared.stage.Section.{Section}
use Rattle.qm_parse.specs.declared.stage.Section.TheVariants as section
use Rattle.qm_parse.specs.declared.stage.Seen.{Seen}
use Rattle.qm_parse.specs.declared.stage.Stage.TheVariants.{Ended, RowsBegin}
use Rattle.qm_parse.specs.declared.stage.State.{State}
use Rattle.qm_parse.specs.declared.word.Symbol.{Symbol}
use Rattle.qm_parse.specs.declared.word.Word.{Word}
use Rattle.qm_parse.specs.declared.word.Word.TheVariants.{Keyword as Reserved}
use Rattle.qm_parse.specs.Parts.{◌then◌, Each, Says, ListHeading}
use Rattle.qm_parse.specs.Texts.{SectionOf, Written, section_written, with_names, with_written}
use Rattle.qm_parse.specs.Texts.Written.{Uncertain, Bounded, Listed}
use Rattle.qm_parse.specs.Reading.{finished, read}
use Rattle.qm_parse.specs.Stages.{begun, begun_by, followed, has, may_end, moved, section_of, stage_of, step, with_section}
use Rattle.qm_parse.proofs.WrittenSteps.{state, symbol, Goes, goes, IsClean, SectionFollows}
use Rattle.qm_parse.proofs.WrittenHeadings.{heading_read}
use Rattle.qm_parse.proofs.WrittenRows.{rows_read}
use Rattle.qm_parse.proofs.WrittenBounds.{bounds_read, joined}
use Rattle.qm_parse.proofs.WrittenNames.{names_read, with_listed_names}

-- a section that has begun is kept, and so is one that has not
has_itself : (seen : Seen) (part : Section) → has (with_section seen part) part ≡ true
unfolding has with_section
has_itself seen section.Uncertainty = refl
has_itself seen section.Bounds = refl
has_itself seen (section.Names Generals) = refl
has_itself seen (section.Names Binaries) = refl
has_itself seen (section.Names Exists) = refl
has_itself seen (section.Names All) = refl
has_itself seen (section.Names Order) = refl

has_before : (seen : Seen) (one other : Section) → has (with_section seen one) other ≡ false → has seen other ≡ false
unfolding has with_section
has_before seen section.Uncertainty section.Uncertainty e = absurd cc
has_before seen section.Bounds section.Bounds e = absurd cc
has_before seen (section.Names Generals) (section.Names Generals) e = absurd cc
has_before seen (section.Names Binaries) (section.Names Binaries) e = absurd cc
has_before seen (section.Names Exists) (section.Names Exists) e = absurd cc
has_before seen (section.Names All) (section.Names All) e = absurd cc
has_before seen (section.Names Order) (section.Names Order) e = absurd cc
has_before seen one other e = e

has_apart : (seen : Seen) (one other : Section) → has (with_section seen one) other ≡ false → one ≢ other
has_apart seen one other e same =
    let own : has (with_section seen one) other ≡ true = subst (λ (s : Section). has (with_section seen one) s ≡ true) same (has_itself seen one) in
    cc

-- nothing was read of the section
abbrev pub is_empty : Ast → Section → Type 0
is_empty ast section.Uncertainty = ast.uncertain ≡ []
is_empty ast section.Bounds = ast.bounds ≡ []
is_empty ast (section.Names Generals) = ast.generals ≡ []
is_empty ast (section.Names Binaries) = ast.binaries ≡ []
is_empty ast (section.Names Exists) = ast.existential ≡ []
is_empty ast (section.Names All) = ast.universal ≡ []
is_empty ast (section.Names Order) = ast.order ≡ []

-- nothing was read of sections that have not begun
pub record AreEmpty (seen : Seen) (ast : Ast) : Type 0 where
  pub empty : (part : Section) → has seen part ≡ false → is_empty ast part

still_empty : (written : Written) (part : Section) (ast : Ast) → section_written written ≢ part → is_empty ast part → is_empty (with_written ast written) part
still_empty (Uncertain rows) section.Uncertainty ast apart e = absurd (apart refl)
still_empty (Bounded bounds) section.Bounds ast apart e = absurd (apart refl)
still_empty (Listed Generals names) (section.Names Generals) ast apart e = absurd (apart refl)
still_empty (Listed Binaries names) (section.Names Binaries) ast apart e = absurd (apart refl)
still_empty (Listed Exists names) (section.Names Exists) ast apart e = absurd (apart refl)
still_empty (Listed All names) (section.Names All) ast apart e = absurd (apart refl)
still_empty (Listed Order names) (section.Names Order) ast apart e = absurd (apart refl)
still_empty written part ast apart e = e

are_still_empty : (seen : Seen) (written : Written) (before after : Ast)
    → after ≡ with_written before written → AreEmpty seen before → AreEmpty (with_section seen (section_written written)) after
are_still_empty seen written before after e a = record {
  empty = λ part h.
      subst (λ (t : Ast). is_empty t part) (sym e)
      (still_empty written part before (has_apart seen (section_written written) part h) (a.empty part (has_before seen (section_written written) part h)));
}

-- a section was read
pub record SectionPast (seen : Seen) (before : Draft) (symbols : List Symbol) (end : Place) (ast : Ast) : Type 0 where
  pub part : Written
  pub draft : Draft
  pub rest : List Symbol
  pub shorter : length rest < length symbols
  pub spelled : SectionOf part symbols rest
  pub tree : draft.ast ≡ with_written before.ast part
  pub fresh : has seen (section_written part) ≡ false
  pub clean : IsClean draft
  pub follows : SectionFollows (with_section seen (section_written part)) draft rest end ast

-- or the text ends
pub record EndPast (seen : Seen) (before : Draft) (symbols : List Symbol) (ast : Ast) : Type 0 where
  pub spelled : Says (Reserved keyword.End) symbols []
  pub tree : ast ≡ before.ast
  pub ordered : seen.order ≡ true

abbrev SectionOrEnd : Seen → Draft → List Symbol → Place → Ast → Type 0
SectionOrEnd seen before symbols end ast = SectionPast seen before symbols end ast ⊎ EndPast seen before symbols ast

none_behind : (seen : Seen) (before : Draft) (first : Symbol) (symbols : List Symbol) (end : Place) (ast : Ast) → Goes Ended seen before first symbols end ast → ⊥
unfolding moved step may_end
none_behind seen before first symbols end ast g = let e = g.moves in cc

ended : (seen : Seen) (before : Draft) (symbols : List Symbol) (end : Place) (ast : Ast)
    → read (state Ended seen) before symbols end ≡ Ok ast → (symbols ≡ []) × (ast ≡ before.ast)
unfolding read finished
ended seen before [] end ast e = (refl, cc)
ended seen before (first ∷ symbols) end ast e = absurd (none_behind seen before first symbols end ast (goes Ended seen before first symbols end ast e))

unless : (b : Bool) (made next : State) → ◌≡◌ {A = Option State} (if b then None else Some made) (Some next) → (b ≡ false) × (next ≡ made)
unless true made next e = absurd cc
unless false made next e = (refl, cc)

if_so : (b : Bool) (made next : State) → ◌≡◌ {A = Option State} (if b then Some made else None) (Some next) → (b ≡ true) × (next ≡ made)
if_so true made next e = (refl, cc)
if_so false made next e = absurd cc

-- a section begins that has not begun before
pub record Begins (seen : Seen) (part : Section) (before : Draft) (symbols : List Symbol) (end : Place) (ast : Ast) : Type 0 where
  pub fresh : has seen part ≡ false
  pub reads : read (state (stage_of part) (with_section seen part)) before symbols end ≡ Ok ast

begins : (seen : Seen) (part : Section) (next : State) (before : Draft) (symbols : List Symbol) (end : Place) (ast : Ast)
    → begun seen part ≡ Some next → read next before symbols end ≡ Ok ast → Begins seen part before symbols end ast
unfolding begun
begins seen part next before symbols end ast e r =
    let found = unless (has seen part) (state (stage_of part) (with_section seen part)) next e in
    record { fresh = found.0; reads = subst (λ (s : State). read s before symbols end ≡ Ok ast) found.1 r }

uncertain_section : (place : Place) (line : Bool) (seen : Seen) (before : Draft) (symbols : List Symbol) (end : Place) (ast : Ast)
    → IsClean before → AreEmpty seen before.ast → Begins seen section.Uncertainty before symbols end ast
    → SectionPast seen before (symbol (Reserved keyword.Uncertainty) place line ∷ symbols) end ast
unfolding stage_of with_section
uncertain_section place line seen before symbols end ast clean none b =
    let later = with_section seen section.Uncertainty in
    let h = heading_read later before symbols end ast b.reads in
    let r = rows_read later before h.rest end ast clean (subst (λ (d : Draft). read (state RowsBegin later) d h.rest end ≡ Ok ast) h.found.1 h.reads) in
    let empty : before.ast.uncertain ≡ [] = none.empty section.Uncertainty b.fresh in
    record {
      part = Uncertain r.rows;
      draft = r.draft;
      rest = r.rest;
      shorter = (let k : length h.rest < length symbols = h.shorter in let l : length r.rest ≤ length h.rest = r.within in omega arith);
      spelled = (symbols, (refl, refl), (h.rest, h.found.0, r.written));
      tree = r.tree ∙ (λ i. record before.ast { uncertain = empty i ++ r.rows });
      fresh = b.fresh;
      clean = r.clean;
      follows = r.follows;
    }

bounded_section : (place : Place) (line : Bool) (seen : Seen) (before : Draft) (symbols : List Symbol) (end : Place) (ast : Ast)
    → IsClean before → AreEmpty seen before.ast → Begins seen section.Bounds before symbols end ast
    → SectionPast seen before (symbol (Reserved keyword.Bounds) place line ∷ symbols) end ast
unfolding stage_of with_section
bounded_section place line seen before symbols end ast clean none b =
    let r = bounds_read (with_section seen section.Bounds) before symbols end ast clean b.reads in
    let empty : before.ast.bounds ≡ [] = none.empty section.Bounds b.fresh in
    record {
      part = Bounded r.bounds;
      draft = r.draft;
      rest = r.rest;
      shorter = (let l : length r.rest ≤ length symbols = r.within in omega arith);
      spelled = (symbols, (refl, refl), r.written);
      tree = r.tree ∙ (λ i. record before.ast { bounds = empty i ++ joined r.bounds });
      fresh = b.fresh;
      clean = r.clean;
      follows = r.follows;
    }

listed_tree : (list : NameList) (names : List Named) (ast : Ast) → is_empty ast (section.Names list) → with_listed_names list names ast ≡ with_names list names ast
listed_tree Generals names ast empty = λ i. record ast { generals = empty i ++ names }
listed_tree Binaries names ast empty = λ i. record ast { binaries = empty i ++ names }
listed_tree Exists names ast empty = λ i. record ast { existential = empty i ++ names }
listed_tree All names ast empty = λ i. record ast { universal = empty i ++ names }
listed_tree Order names ast empty = λ i. record ast { order = empty i ++ names }

listed_section : (list : NameList) (first : Symbol) (seen : Seen) (before : Draft) (symbols : List Symbol) (end : Place) (ast : Ast)
    → ListHeading list (first ∷ symbols) symbols → IsClean before → AreEmpty seen before.ast → Begins seen (section.Names list) before symbols end ast
    → SectionPast seen before (first ∷ symbols) end ast
unfolding stage_of
listed_section list first seen before symbols end ast heading clean none b =
    let r = names_read (with_section seen (section.Names list)) list before symbols end ast clean b.reads in
    record {
      part = Listed list r.names;
      draft = r.draft;
      rest = r.rest;
      shorter = (let l : length r.rest ≤ length symbols = r.within in omega arith);
      spelled = (symbols, heading, r.written);
      tree = r.tree ∙ listed_tree list r.names before.ast (none.empty (section.Names list) b.fresh);
      fresh = b.fresh;
      clean = r.clean;
      follows = r.follows;
    }

ending : (place : Place) (line : Bool) (seen : Seen) (before : Draft) (symbols : List Symbol) (next : State) (end : Place) (ast : Ast)
    → followed seen (Reserved keyword.End) ≡ Some next → read next before symbols end ≡ Ok ast
    → EndPast seen before (symbol (Reserved keyword.End) place line ∷ symbols) ast
unfolding followed
ending place line seen before symbols next end ast e r =
    let found = if_so seen.order (state Ended seen) next e in
    let last = ended seen before symbols end ast (subst (λ (s : State). read s before symbols end ≡ Ok ast) found.1 r) in
    record { spelled = (refl, last.0); tree = last.1; ordered = found.0 }

by_keyword : (k : Keyword) (place : Place) (line : Bool) (seen : Seen) (before : Draft) (symbols : List Symbol) (next : State) (end : Place) (ast : Ast)
    → IsClean before → AreEmpty seen before.ast → followed seen (Reserved k) ≡ Some next → read next before symbols end ≡ Ok ast
    → SectionOrEnd seen before (symbol (Reserved k) place line ∷ symbols) end ast
unfolding followed begun_by section_of
by_keyword keyword.End place line seen before symbols next end ast clean none e r = inr (ending place line seen before symbols next end ast e r)
by_keyword keyword.Uncertainty place line seen before symbols next end ast clean none e r =
    inl (uncertain_section place line seen before symbols end ast clean none (begins seen section.Uncertainty next before symbols end ast e r))
by_keyword keyword.Bounds place line seen before symbols next end ast clean none e r =
    inl (bounded_section place line seen before symbols end ast clean none (begins seen section.Bounds next before symbols end ast e r))
by_keyword keyword.Generals place line seen before symbols next end ast clean none e r =
    inl (listed_section Generals (symbol (Reserved keyword.Generals) place line) seen before symbols end ast (inl (refl, refl)) clean none
    (begins seen (section.Names Generals) next before symbols end ast e r))
by_keyword keyword.General place line seen before symbols next end ast clean none e r =
    inl (listed_section Generals (symbol (Reserved keyword.General) place line) seen before symbols end ast (inr (refl, refl)) clean none
    (begins seen (section.Names Generals) next before symbols end ast e r))
by_keyword keyword.Binaries place line seen before symbols next end ast clean none e r =
    inl (listed_section Binaries (symbol (Reserved keyword.Binaries) place line) seen before symbols end ast (inl (refl, refl)) clean none
    (begins seen (section.Names Binaries) next before symbols end ast e r))
by_keyword keyword.Binary place line seen before symbols next end ast clean none e r =
    inl (listed_section Binaries (symbol (Reserved keyword.Binary) place line) seen before symbols end ast (inr (refl, refl)) clean none
    (begins seen (section.Names Binaries) next before symbols end ast e r))
by_keyword keyword.Exists place line seen before symbols next end ast clean none e r =
    inl (listed_section Exists (symbol (Reserved keyword.Exists) place line) seen before symbols end ast (refl, refl) clean none
    (begins seen (section.Names Exists) next before symbols end ast e r))
by_keyword keyword.All place line seen before symbols next end ast clean none e r =
    inl (listed_section All (symbol (Reserved keyword.All) place line) seen before symbols end ast (refl, refl) clean none
    (begins seen (section.Names All) next before symbols end ast e r))
by_keyword keyword.Order place line seen before symbols next end ast clean none e r =
    inl (listed_section Order (symbol (Reserved keyword.Order) place line) seen before symbols end ast (refl, refl) clean none
    (begins seen (section.Names Order) next before symbols end ast e r))
by_keyword k place line seen before symbols next end ast clean none e r = absurd cc

by_word : (word : Word) (place : Place) (line : Bool) (seen : Seen) (before : Draft) (symbols : List Symbol) (next : State) (end : Place) (ast : Ast)
    → IsClean before → AreEmpty seen before.ast → followed seen word ≡ Some next → read next before symbols end ≡ Ok ast
    → SectionOrEnd seen before (symbol word place line ∷ symbols) end ast
unfolding followed
by_word (Reserved k) place line seen before symbols next end ast clean none e r = by_keyword k place line seen before symbols next end ast clean none e r
by_word word place line seen before symbols next end ast clean none e r = absurd cc

section_or_end : (seen : Seen) (before : Draft) (symbols : List Symbol) (end : Place) (ast : Ast)
    → IsClean before → AreEmpty seen before.ast → SectionFollows seen before symbols end ast → SectionOrEnd seen before symbols end ast
section_or_end seen before symbols end ast clean none f =
    subst (λ (s : List Symbol). SectionOrEnd seen before s end ast) (sym f.parts)
    (by_word f.first.word f.first.place f.first.begins_line seen before f.rest f.next end ast clean none f.moves f.reads)

-- sections up to END, each of them new
pub record SectionsPast (seen : Seen) (before : Draft) (symbols : List Symbol) (ast : Ast) : Type 0 where
  pub parts : List Written
  pub last : List Symbol
  pub spelled : Each SectionOf parts symbols last
  pub ended : Says (Reserved keyword.End) last []
  pub tree : ast ≡ fold with_written before.ast parts
  pub fresh : Every (λ part. has seen (section_written part) ≡ false) parts
  pub once : AllPairs (λ one other. section_written one ≢ section_written other) parts
  pub ordered : (seen.order ≡ true) ⊎ Contains (map section_written parts) (section.Names Order)

no_section : (seen : Seen) (before : Draft) (symbols : List Symbol) (ast : Ast) → EndPast seen before symbols ast → SectionsPast seen before symbols ast
no_section seen before symbols ast e = record {
  parts = [];
  last = symbols;
  spelled = refl;
  ended = e.spelled;
  tree = e.tree;
  fresh = λ k d below. absurd (omega arith);
  once = λ i j d below inside. absurd (omega arith);
  ordered = inl e.ordered;
}

contains_behind : {X : Type 0} (x y : X) (xs : List X) → Contains xs y → Contains (x ∷ xs) y
contains_behind x y xs c = (suc c.0, (let h : c.0 < length xs = c.1 in omega arith), c.2)

-- ORDER has begun: before, or by this section
order_begun : (seen : Seen) (part : Written) (parts : List Written)
    → ((with_section seen (section_written part)).order ≡ true) ⊎ Contains (map section_written parts) (section.Names Order)
    → (seen.order ≡ true) ⊎ Contains (map section_written (part ∷ parts)) (section.Names Order)
unfolding with_section
order_begun seen part parts (inr c) = inr (contains_behind (section_written part) (section.Names Order) (map section_written parts) c)
order_begun seen (Listed Order names) parts (inl e) = inr (0, omega arith, refl)
order_begun seen (Uncertain rows) parts (inl e) = inl e
order_begun seen (Bounded bounds) parts (inl e) = inl e
order_begun seen (Listed Generals names) parts (inl e) = inl e
order_begun seen (Listed Binaries names) parts (inl e) = inl e
order_begun seen (Listed Exists names) parts (inl e) = inl e
order_begun seen (Listed All names) parts (inl e) = inl e

one_section : (seen : Seen) (before : Draft) (symbols : List Symbol) (end : Place) (ast : Ast)
    → (p : SectionPast seen before symbols end ast) → SectionsPast (with_section seen (section_written p.part)) p.draft p.rest ast
    → SectionsPast seen before symbols ast
one_section seen before symbols end ast p q =
    let own = section_written p.part in
    record {
      parts = p.part ∷ q.parts;
      last = q.last;
      spelled = (p.rest, p.spelled, q.spelled);
      ended = q.ended;
      tree = q.tree ∙ ap (λ (a : Ast). fold with_written a q.parts) p.tree;
      fresh = All-cons (λ part. has seen (section_written part) ≡ false) p.part q.parts p.fresh
          (λ k d below. has_before seen own (section_written (get_or q.parts k d)) (q.fresh k d below));
      once = AllPairs-cons (λ one other. section_written one ≢ section_written other) p.part q.parts
          (λ k d below. has_apart seen own (section_written (get_or q.parts k d)) (q.fresh k d below)) q.once;
      ordered = order_begun seen p.part q.parts q.ordered;
    }

sections_behind : (seen : Seen) (before : Draft) (symbols : List Symbol) (end : Place) (ast : Ast)
    → ((later : Seen) (draft : Draft) (rest : List Symbol) → length rest < length symbols → IsClean draft → AreEmpty later draft.ast → SectionFollows later draft rest end ast
    → SectionsPast later draft rest ast)
    → AreEmpty seen before.ast → SectionOrEnd seen before symbols end ast → SectionsPast seen before symbols ast
sections_behind seen before symbols end ast again none (inl p) =
    one_section seen before symbols end ast p
    (again (with_section seen (section_written p.part)) p.draft p.rest p.shorter p.clean (are_still_empty seen p.part before.ast p.draft.ast p.tree none) p.follows)
sections_behind seen before symbols end ast again none (inr e) = no_section seen before symbols ast e

sections_within : (n : ℕ) (seen : Seen) (before : Draft) (symbols : List Symbol) (end : Place) (ast : Ast)
    → length symbols ≤ n → IsClean before → AreEmpty seen before.ast → SectionFollows seen before symbols end ast → SectionsPast seen before symbols ast
sections_within zero seen before symbols end ast within clean none f =
    sections_behind seen before symbols end ast (λ later draft rest short c a g. absurd (omega arith)) none (section_or_end seen before symbols end ast clean none f)
sections_within (suc n) seen before symbols end ast within clean none f =
    sections_behind seen before symbols end ast
    (λ later draft rest short c a g. sections_within n later draft rest end ast (omega arith) c a g)
    none (section_or_end seen before symbols end ast clean none f)

pub sections_read : (seen : Seen) (before : Draft) (symbols : List Symbol) (end : Place) (ast : Ast)
    → IsClean before → AreEmpty seen before.ast → SectionFollows seen before symbols end ast → SectionsPast seen before symbols ast
sections_read seen before symbols end ast clean none f = sections_within (length symbols) seen before symbols end ast (omega arith) clean none f
