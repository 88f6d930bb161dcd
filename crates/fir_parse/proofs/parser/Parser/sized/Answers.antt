use Rattle.std.proofs.Common.{true, false, sym, ap, ◌∙◌}
use Rattle.fir_ast.specs.Expressions.{Expression}
use Rattle.fir_parse.specs.declared.lexeme.Mark.TheVariants.{Less}
use Rattle.fir_parse.specs.declared.words.Applied.{Applied}
use Rattle.fir_parse.specs.working.ExpressionRules.{sized_by}
use Rattle.fir_parse.specs.Lexemes.{mark}
use Rattle.fir_parse.specs.working.Reading.{read_on}
use Rattle.fir_parse.specs.working.Reads.{rest}
use Rattle.fir_parse.specs.working.States.{State}
use Rattle.fir_parse.specs.working.Symbols.{behind_word}
use Rattle.fir_parse.proofs.BehindWords.{sized_first, not_sized, name_reads}
use Rattle.fir_parse.proofs.ExpressionViews.{literal_view}
use Rattle.fir_parse.proofs.Plans.{exits_behind, stays_before}
use Rattle.fir_parse.proofs.parser.Parser.sized.Goals as goal
use Rattle.fir_parse.specs.Limits.{everywhere}

pub returns-in_err-literal-in-UInt-clause-reads : goal.returns-in_err-literal-in-UInt-clause-reads
returns-in_err-literal-in-UInt-clause-reads c =
    exits_behind _ _ _ _ _ _ c.from_residual.result _ (λ (k : Expression → State). k) c.from_residual.ensures.1
    (sized_first false c.args.depth c.args.place c.args.word.now _ _ c.requires.at_hand.1 (ap (λ (x : Applied). sized_by x c.args.depth c.args.place c.args.word.now) (sym c.in-UInt.ensures)))
    c.in_err-literal-in-UInt.ensures.reads

pub returns-in_ok-literal-in-UInt-clause-reads : goal.returns-in_ok-literal-in-UInt-clause-reads
returns-in_ok-literal-in-UInt-clause-reads c = λ end k.
    sized_first false c.args.depth c.args.place c.args.word.now _ _ c.requires.at_hand.1 (ap (λ (x : Applied). sized_by x c.args.depth c.args.place c.args.word.now) (sym c.in-UInt.ensures)) end k
    ∙ c.in_ok-literal-in-UInt.ensures.reads end k
    ∙ ap (λ (e : Expression). read_on everywhere end (k e) (rest c.sized_literal.new.self)) (sym (literal_view c.in_ok-literal-in-UInt.literal))

pub returns-in_err-literal-in-SInt-clause-reads : goal.returns-in_err-literal-in-SInt-clause-reads
returns-in_err-literal-in-SInt-clause-reads c =
    exits_behind _ _ _ _ _ _ c.from_residual-in_err-literal-in-SInt.result _ (λ (k : Expression → State). k) c.from_residual-in_err-literal-in-SInt.ensures.1
    (sized_first true c.args.depth c.args.place c.args.word.now _ _ c.requires.at_hand.1 (ap (λ (x : Applied). sized_by x c.args.depth c.args.place c.args.word.now) (sym c.in-SInt.ensures)))
    c.in_err-literal-in-SInt.ensures.reads

pub returns-in_ok-literal-in-SInt-clause-reads : goal.returns-in_ok-literal-in-SInt-clause-reads
returns-in_ok-literal-in-SInt-clause-reads c = λ end k.
    sized_first true c.args.depth c.args.place c.args.word.now _ _ c.requires.at_hand.1 (ap (λ (x : Applied). sized_by x c.args.depth c.args.place c.args.word.now) (sym c.in-SInt.ensures)) end k
    ∙ c.in_ok-literal-in-SInt.ensures.reads end k
    ∙ ap (λ (e : Expression). read_on everywhere end (k e) (rest c.sized_literal-in-SInt.new.self)) (sym (literal_view c.in_ok-literal-in-SInt.literal))

pub returns-in_default-clause-reads : goal.returns-in_default-clause-reads
returns-in_default-clause-reads c =
    name_reads c.args.depth c.args.place c.args.word.now _ c.named.result
    (stays_before (behind_word c.args.depth c.args.place c.args.word.now) _ (mark Less) _ _ c.requires.at_hand.1
    (ap (λ (x : Applied). sized_by x c.args.depth c.args.place c.args.word.now) (sym c.of.ensures) ∙ not_sized c.of.result c.args.depth c.args.place c.args.word.now c.in_default.not-UInt c.in_default.not-SInt))
    c.named.ensures.named c.named.ensures.why
