use Rattle.std.proofs.Common.{◌+◌, refl, sym, ap, ◌∙◌}
use Rattle.fir_ast.specs.Expressions.{Parts}
use Rattle.fir_parse.specs.declared.lexeme.Mark.TheVariants.{Dot}
use Rattle.fir_parse.specs.working.ExpressionRules.{dot_rest}
use Rattle.fir_parse.specs.Lexemes.{mark}
use Rattle.fir_parse.specs.working.Reading.{read_on}
use Rattle.fir_parse.specs.working.Reads.{rest}
use Rattle.fir_parse.specs.working.States.{State, wants}
use Rattle.fir_parse.specs.working.Symbols.{parts}
use Rattle.fir_parse.proofs.ExpressionViews.{field_view}
use Rattle.fir_parse.proofs.Plans.{takes_first, ended, ended_too_tall, exits_before}
use Rattle.fir_parse.proofs.parser.Parser.subfield.Goals as goal
use Rattle.fir_parse.specs.Limits.{everywhere}

pub returns-in_err-name-clause-reads : goal.returns-in_err-name-clause-reads
returns-in_err-name-clause-reads c =
    exits_before _ _ _ _ _ _ c.from_residual.result _ _ c.from_residual.ensures.1
    (takes_first (parts c.args.depth c.args.height) (dot_rest c.args.depth c.args.height c.args.dot) (mark Dot) _ _ _ c.requires.at_hand c.pass.ensures.rest refl)
    c.in_err-name.ensures.reads

pub returns-in_err-end_form-clause-reads : goal.returns-in_err-end_form-clause-reads
returns-in_err-end_form-clause-reads c =
    exits_before _ _ _ _ _ _ c.from_residual-in_err-end_form.result _ (λ (k : Parts → State). k) c.from_residual-in_err-end_form.ensures.1
    (λ end k. takes_first (parts c.args.depth c.args.height) (dot_rest c.args.depth c.args.height c.args.dot) (mark Dot) _ _ _ c.requires.at_hand c.pass.ensures.rest refl end k ∙ c.in_ok-name.ensures.reads end _)
    (ended_too_tall (c.args.height + 1) c.in_ok-name.name.place _ _ _ c.in_err-end_form.ensures.ends)

pub returns-clause-reads : goal.returns-clause-reads
returns-clause-reads c = λ end k.
    takes_first (parts c.args.depth c.args.height) (dot_rest c.args.depth c.args.height c.args.dot) (mark Dot) _ _ _ c.requires.at_hand c.pass.ensures.rest refl end k
    ∙ c.in_ok-name.ensures.reads end _
    ∙ ended (c.args.height + 1) c.in_ok-name.name.place _ end _ c.in_ok-end_form.ensures.ends
    ∙ ap (λ (f : Parts → Parts). read_on everywhere end (wants (parts c.args.depth (c.args.height + 1)) (λ ps. k (f ps))) (rest c.field_name.new.self)) (sym (field_view c.args.dot c.in_ok-name.name.place c.in_ok-name.name.name))
