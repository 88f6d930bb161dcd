use Rattle.std.proofs.Common.{refl, sym, ◌∙◌}
use Rattle.fir_ast.specs.Statements.{skip}
use Rattle.fir_parse.specs.declared.lexeme.Lexeme.TheVariants.{End}
use Rattle.fir_parse.specs.working.States.{wants}
use Rattle.fir_parse.specs.working.StatementTrees.{begun_of}
use Rattle.fir_parse.specs.working.Symbols.{a_line_end, behind_first, statement}
use Rattle.fir_parse.proofs.Plans.{found, refused, reads_behind, ends_here, unsupported_there, stands_there}
use Rattle.fir_parse.proofs.StatementReads.{alike, goes_on_no_further, missing_alone, skip_alone}
use Rattle.fir_parse.proofs.parser.Parser.one_word.Goals as goal

pub returns-in-End-clause-reads : goal.returns-in-End-clause-reads
returns-in-End-clause-reads c = rw (c.refused.ensures, c.in-End.is) (ends_here (behind_first c.args.depth c.args.place c.args.name.now) _ (found _ c.args.next End c.requires.at_hand c.in-End.is))

pub returns-in-Missing-clause-reads : goal.returns-in-Missing-clause-reads
returns-in-Missing-clause-reads c =
    unsupported_there (behind_first c.args.depth c.args.place c.args.name.now) _ _ _ c.args.next.place _ c.unsupported.result
    (stands_there _ c.args.next.lexeme c.args.next.place c.requires.at_hand c.in_default.not-End)
    (missing_alone c.args.depth c.args.place c.args.name.now c.args.next.lexeme c.args.next.place c.requires.other (sym c.in-Missing.is ∙ c.of.ensures))
    c.unsupported.ensures

pub returns-in-Skip : goal.returns-in-Skip
returns-in-Skip c = record {
  reads = reads_behind (wants (behind_first c.args.depth c.args.place c.args.name.now)) (λ k. wants a_line_end (λ q. k (statement (skip c.args.place)))) begun_of _ _ _ c.skip.result
      (λ end k. alike _ _ c.args.next.lexeme c.args.next.place _ end c.requires.at_hand refl (skip_alone c.args.depth c.args.place c.args.name.now k _ _ c.requires.other (sym c.in-Skip.is ∙ c.of.ensures)))
      c.skip.ensures.reads;
  deep = c.skip.ensures.deep c.args.depth;
  nearer = c.skip.ensures.nearer;
}

pub returns-in_default-of-clause-reads : goal.returns-in_default-of-clause-reads
returns-in_default-of-clause-reads c =
    refused (behind_first c.args.depth c.args.place c.args.name.now) _ c.args.next.lexeme c.args.next.place _ c.requires.at_hand c.refused-in_default-of.ensures
    (goes_on_no_further c.args.depth c.args.place c.args.name.now c.args.next.lexeme c.args.next.place c.requires.other (λ e. c.in_default-of.not-Missing (c.of.ensures ∙ e)) (λ e. c.in_default-of.not-Skip (c.of.ensures ∙ e)))
