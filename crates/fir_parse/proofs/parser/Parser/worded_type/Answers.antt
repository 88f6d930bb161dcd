-- A type by its first word.
use Rattle.std.proofs.Common.{sym, ap, ◌∙◌}
use Rattle.fir_parse.specs.Lexemes.{word}
use Rattle.fir_parse.specs.working.States.{mapped}
use Rattle.fir_parse.specs.working.Reads.{rest}
use Rattle.fir_parse.specs.working.Symbols.{a_type}
use Rattle.fir_parse.specs.working.Trees.{tall_type}
use Rattle.fir_parse.specs.working.TypeRules.{type_at, by_type_word}
use Rattle.fir_parse.proofs.Plans.{takes_first, reads_mapped, exits_behind, unsupported_there, refuses_one}
use Rattle.fir_parse.proofs.TypeReads.{same_dimensions}
use Rattle.fir_parse.proofs.TypeViews.{uint_view, sint_view, clock_view, reset_view, async_reset_view}
use Rattle.fir_parse.proofs.parser.Parser.worded_type.Goals as goal

pub returns-in_err-width-in-UInt-clause-reads : goal.returns-in_err-width-in-UInt-clause-reads
returns-in_err-width-in-UInt-clause-reads c =
    exits_behind _ _ _ _ _ _ c.from_residual.result _ _ c.from_residual.ensures.1
    (takes_first (a_type c.args.depth) _ (word c.args.name.now) c.args.place _ _ c.requires.at_hand c.pass.ensures.rest
    (ap (λ t. mapped (type_at c.args.place) (by_type_word t c.args.depth c.args.place c.args.name.now)) (sym c.in-UInt.ensures)))
    c.in_err-width-in-UInt.ensures.reads

pub returns-in_ok-width-in-UInt-clause-reads : goal.returns-in_ok-width-in-UInt-clause-reads
returns-in_ok-width-in-UInt-clause-reads c =
    reads_mapped _ _ (type_at c.args.place) tall_type _ _ (rest c.dimensions.new.self) c.dimensions.result
    (λ end k. takes_first (a_type c.args.depth) _ (word c.args.name.now) c.args.place _ _ c.requires.at_hand c.pass.ensures.rest
    (ap (λ t. mapped (type_at c.args.place) (by_type_word t c.args.depth c.args.place c.args.name.now)) (sym c.in-UInt.ensures)) end k
    ∙ c.in_ok-width-in-UInt.ensures.reads end _
    ∙ same_dimensions c.args.depth _ _ (sym (uint_view c.in_ok-width-in-UInt.width)) end _ _)
    c.dimensions.ensures.reads

pub returns-in_err-width-in-SInt-clause-reads : goal.returns-in_err-width-in-SInt-clause-reads
returns-in_err-width-in-SInt-clause-reads c =
    exits_behind _ _ _ _ _ _ c.from_residual-in_err-width-in-SInt.result _ _ c.from_residual-in_err-width-in-SInt.ensures.1
    (takes_first (a_type c.args.depth) _ (word c.args.name.now) c.args.place _ _ c.requires.at_hand c.pass-in-SInt.ensures.rest
    (ap (λ t. mapped (type_at c.args.place) (by_type_word t c.args.depth c.args.place c.args.name.now)) (sym c.in-SInt.ensures)))
    c.in_err-width-in-SInt.ensures.reads

pub returns-in_ok-width-in-SInt-clause-reads : goal.returns-in_ok-width-in-SInt-clause-reads
returns-in_ok-width-in-SInt-clause-reads c =
    reads_mapped _ _ (type_at c.args.place) tall_type _ _ (rest c.dimensions-in-SInt.new.self) c.dimensions-in-SInt.result
    (λ end k. takes_first (a_type c.args.depth) _ (word c.args.name.now) c.args.place _ _ c.requires.at_hand c.pass-in-SInt.ensures.rest
    (ap (λ t. mapped (type_at c.args.place) (by_type_word t c.args.depth c.args.place c.args.name.now)) (sym c.in-SInt.ensures)) end k
    ∙ c.in_ok-width-in-SInt.ensures.reads end _
    ∙ same_dimensions c.args.depth _ _ (sym (sint_view c.in_ok-width-in-SInt.width)) end _ _)
    c.dimensions-in-SInt.ensures.reads

pub returns-in-Clock-clause-reads : goal.returns-in-Clock-clause-reads
returns-in-Clock-clause-reads c =
    reads_mapped _ _ (type_at c.args.place) tall_type _ _ (rest c.dimensions-in-Clock.new.self) c.dimensions-in-Clock.result
    (λ end k. takes_first (a_type c.args.depth) _ (word c.args.name.now) c.args.place _ _ c.requires.at_hand c.pass-in-Clock.ensures.rest
    (ap (λ t. mapped (type_at c.args.place) (by_type_word t c.args.depth c.args.place c.args.name.now)) (sym c.in-Clock.ensures)) end k
    ∙ same_dimensions c.args.depth _ _ (sym clock_view) end _ _)
    c.dimensions-in-Clock.ensures.reads

pub returns-in-Reset-clause-reads : goal.returns-in-Reset-clause-reads
returns-in-Reset-clause-reads c =
    reads_mapped _ _ (type_at c.args.place) tall_type _ _ (rest c.dimensions-in-Reset.new.self) c.dimensions-in-Reset.result
    (λ end k. takes_first (a_type c.args.depth) _ (word c.args.name.now) c.args.place _ _ c.requires.at_hand c.pass-in-Reset.ensures.rest
    (ap (λ t. mapped (type_at c.args.place) (by_type_word t c.args.depth c.args.place c.args.name.now)) (sym c.in-Reset.ensures)) end k
    ∙ same_dimensions c.args.depth _ _ (sym reset_view) end _ _)
    c.dimensions-in-Reset.ensures.reads

pub returns-in-AsyncReset-clause-reads : goal.returns-in-AsyncReset-clause-reads
returns-in-AsyncReset-clause-reads c =
    reads_mapped _ _ (type_at c.args.place) tall_type _ _ (rest c.dimensions-in-AsyncReset.new.self) c.dimensions-in-AsyncReset.result
    (λ end k. takes_first (a_type c.args.depth) _ (word c.args.name.now) c.args.place _ _ c.requires.at_hand c.pass-in-AsyncReset.ensures.rest
    (ap (λ t. mapped (type_at c.args.place) (by_type_word t c.args.depth c.args.place c.args.name.now)) (sym c.in-AsyncReset.ensures)) end k
    ∙ same_dimensions c.args.depth _ _ (sym async_reset_view) end _ _)
    c.dimensions-in-AsyncReset.ensures.reads

pub returns-in-Missing-clause-reads : goal.returns-in-Missing-clause-reads
returns-in-Missing-clause-reads c =
    unsupported_there (a_type c.args.depth) c.args.place c.args.name.now (word c.args.name.now) c.args.place _ _ c.requires.at_hand
    (ap (λ t. mapped (type_at c.args.place) (by_type_word t c.args.depth c.args.place c.args.name.now)) (sym c.in-Missing.ensures)) c.unsupported.ensures

pub returns-in-Name-clause-reads : goal.returns-in-Name-clause-reads
returns-in-Name-clause-reads c =
    refuses_one (a_type c.args.depth) (word c.args.name.now) c.args.place _ c.requires.at_hand
    (ap (λ t. mapped (type_at c.args.place) (by_type_word t c.args.depth c.args.place c.args.name.now)) (sym c.in-Name.ensures))
