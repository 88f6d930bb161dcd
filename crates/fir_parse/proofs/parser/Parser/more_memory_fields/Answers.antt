use Rattle.std.proofs.Common.{[], ◌∷◌, ◌++◌, map, refl, ap, ◌∙◌, arith}
use Rattle.std.proofs.lemmas.List.{append-nil}
use Rattle.fir_ast.specs.working.Views.{memory_part_of}
use Rattle.fir_parse.specs.declared.lexeme.Lexeme.TheVariants.{LevelCloses}
use Rattle.fir_parse.specs.Lexemes.{level_closes}
use Rattle.fir_parse.specs.working.Reading.{read_on}
use Rattle.fir_parse.specs.working.Reads.{rest}
use Rattle.fir_parse.specs.working.States.{wants}
use Rattle.fir_parse.specs.working.Symbols.{a_memory_field, more_memory_fields}
use Rattle.fir_parse.proofs.LoopReads.{pushed}
use Rattle.fir_parse.proofs.Plans.{exits_behind, found, takes_one}
use Rattle.fir_parse.proofs.ReadAlike.{one_field_more}
use Rattle.fir_parse.proofs.parser.Parser.more_memory_fields.Goals as goal
use Rattle.fir_parse.specs.Limits.{everywhere}

pub returns-in-LevelCloses-clause-reads : goal.returns-in-LevelCloses-clause-reads
returns-in-LevelCloses-clause-reads c = λ end k.
    c.loop-self.invariant.alike end k
    ∙ takes_one (more_memory_fields c.args.depth) [] level_closes _ _ _ (found _ c.peek-next.result LevelCloses c.peek-next.ensures c.in-LevelCloses.is) c.pass.ensures.rest refl end (λ fs. k (map memory_part_of c.loop-self.fields.items ++ fs))
    ∙ ap (λ fs. read_on everywhere end (k fs) (rest c.pass.new.self)) (append-nil (map memory_part_of c.loop-self.fields.items))

pub returns-in_err-field-in_default-clause-reads : goal.returns-in_err-field-in_default-clause-reads
returns-in_err-field-in_default-clause-reads c =
    exits_behind (λ k. wants (more_memory_fields c.args.depth) (λ fs. k (map memory_part_of c.args.before.items ++ fs))) (wants (a_memory_field c.args.depth)) (λ fs. map memory_part_of fs.items) _ _ _ c.from_residual.result _
    (λ k f. wants (more_memory_fields c.args.depth) (λ fs. k (map memory_part_of c.loop-self.fields.items ++ f ∷ fs))) c.from_residual.ensures.1
    (λ end k.
    c.loop-self.invariant.alike end k
    ∙ one_field_more c.args.depth _ c.peek-next.result.lexeme c.peek-next.result.place c.peek-next.ensures c.in_default.not-LevelCloses end (λ fs. k (map memory_part_of c.loop-self.fields.items ++ fs)))
    c.in_err-field-in_default.ensures.reads

pub loop-self-preserved : goal.loop-self-preserved
loop-self-preserved c = record {
  alike = λ end k.
      c.loop-self.invariant.alike end k
      ∙ one_field_more c.args.depth _ c.peek-next.result.lexeme c.peek-next.result.place c.peek-next.ensures c.in_default.not-LevelCloses end (λ fs. k (map memory_part_of c.loop-self.fields.items ++ fs))
      ∙ c.in_ok-field-in_default.ensures.reads end _
      ∙ pushed (λ h. wants (more_memory_fields c.args.depth) h) memory_part_of c.loop-self.fields.items _ c.in_ok-field-in_default.field c.in_ok-push-in_default.ensures.items end k _;
  nearer = omega (arith, c.in_ok-field-in_default.ensures.nearer);
}
