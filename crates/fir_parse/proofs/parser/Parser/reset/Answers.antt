use Rattle.std.proofs.Common.{refl, None, option_map}
use Rattle.fir_ast.specs.working.Views.{reset_of}
use Rattle.fir_parse.specs.declared.lexeme.Lexeme.TheVariants.{LineEnd}
use Rattle.fir_parse.specs.Lexemes.{line_end}
use Rattle.fir_parse.specs.working.PartPlans.{reset_part_plan}
use Rattle.fir_parse.specs.working.States.{wants}
use Rattle.fir_parse.specs.working.Symbols.{a_reset}
use Rattle.fir_parse.proofs.Plans.{found, takes_one, reads_behind}
use Rattle.fir_parse.proofs.ReadAlike.{resets_by_word}
use Rattle.fir_parse.proofs.parser.Parser.reset.Goals as goal

pub returns-in-LineEnd-clause-reads : goal.returns-in-LineEnd-clause-reads
returns-in-LineEnd-clause-reads c = takes_one (a_reset c.args.depth) None line_end _ _ _ (found _ c.peek-next.result LineEnd c.peek-next.ensures c.in-LineEnd.is) c.pass.ensures.rest refl

pub returns-in_default-clause-reads : goal.returns-in_default-clause-reads
returns-in_default-clause-reads c =
    reads_behind (wants (a_reset c.args.depth)) (λ k. reset_part_plan c.args.depth k) (option_map reset_of) _ _ _ c.reset_part.result
    (resets_by_word c.args.depth _ c.peek-next.result.lexeme c.peek-next.result.place c.peek-next.ensures c.in_default.not-LineEnd)
    c.reset_part.ensures.reads
