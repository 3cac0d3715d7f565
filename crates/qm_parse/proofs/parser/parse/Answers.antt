use Rattle.std.proofs.Common.{rules, ◌≡◌, ◌≢◌, Ok, Err, length, subst, sym, arith}
use Rattle.std.proofs.lemmas.Grind.{common_steps}
use Rattle.qm_lex.specs.Places.{place_of}
use Rattle.qm_parse.specs.declared.unread.Unread.TheVariants as unread
use Rattle.qm_parse.specs.declared.fault.ParseFault.{ParseFault}
use Rattle.qm_parse.specs.Parsing.{IsParsed}
use Rattle.qm_parse.specs.Reading.{empty_draft, read, start}
use Rattle.qm_parse.specs.Symbols.{names_of}
use Rattle.qm_parse.proofs.Parsed.{AreOf, known-parsed, right-parsed, wrong-parsed}
use Rattle.qm_parse.proofs.SymbolNumbers.{numbers-spelled}
use Rattle.qm_parse.proofs.parser.parse.Goals as goal

pub symbols-requires-clause-numbers : goal.symbols-requires-clause-numbers
symbols-requires-clause-numbers c = numbers-spelled c.args.text.now 0 c.args.tokens.now (length c.args.text.now) c.requires.tokens

pub judged-requires : goal.judged-requires
judged-requires c =
    let named : c.in_ok-spelled.spelled.names ≡ names_of c.args.text.now c.args.tokens.now = first_of (search rules, grind (arith, common_steps)) in
    let are : AreOf c.args.text.now c.args.tokens.now c.as_slice.result.now = first_of (search rules, grind (arith, common_steps)) in
    let is : read start (empty_draft c.in_ok-spelled.spelled.names) c.as_slice.result.now c.in_ok-spelled.spelled.end ≡ Ok c.in-Ok.ast = first_of (search rules, grind (arith, common_steps)) in
    record { known = λ fault first. known-parsed c.args.text.now c.args.tokens.now c.in_ok-spelled.spelled.names c.as_slice.result.now c.in_ok-spelled.spelled.end c.in-Ok.ast fault named are is first }

pub returns-in-Ok : goal.returns-in-Ok
returns-in-Ok c =
    let ended : c.in_ok-spelled.spelled.end ≡ place_of c.args.text.now (length c.args.text.now) = first_of (search rules, grind (arith, common_steps)) in
    let named : c.in_ok-spelled.spelled.names ≡ names_of c.args.text.now c.args.tokens.now = first_of (search rules, grind (arith, common_steps)) in
    let are : AreOf c.args.text.now c.args.tokens.now c.as_slice.result.now = first_of (search rules, grind (arith, common_steps)) in
    let is : read start (empty_draft c.in_ok-spelled.spelled.names) c.as_slice.result.now c.in_ok-spelled.spelled.end ≡ Ok c.in-Ok.ast = first_of (search rules, grind (arith, common_steps)) in
    right-parsed c.args.text.now c.args.tokens.now c.in_ok-spelled.spelled.names c.as_slice.result.now c.in_ok-spelled.spelled.end c.in-Ok.ast c.judged.result named are ended is c.judged.ensures

pub returns : goal.returns
returns c =
    let ended : c.in_ok-spelled.spelled.end ≡ place_of c.args.text.now (length c.args.text.now) = first_of (search rules, grind (arith, common_steps)) in
    let named : c.in_ok-spelled.spelled.names ≡ names_of c.args.text.now c.args.tokens.now = first_of (search rules, grind (arith, common_steps)) in
    let are : AreOf c.args.text.now c.args.tokens.now c.as_slice.result.now = first_of (search rules, grind (arith, common_steps)) in
    let is : c.in-Err.wrong ≢ unread.Memory → read start (empty_draft c.in_ok-spelled.spelled.names) c.as_slice.result.now c.in_ok-spelled.spelled.end ≡ Err c.in-Err.wrong = first_of (search rules, grind (arith, common_steps)) in
    let answered = wrong-parsed c.args.text.now c.args.tokens.now c.in_ok-spelled.spelled.names c.as_slice.result.now c.in_ok-spelled.spelled.end c.in-Err.wrong named are ended is in
    subst (λ (f : ParseFault). IsParsed c.args.text.now c.args.tokens.now (Err f)) (sym c.fault_of.ensures) answered
