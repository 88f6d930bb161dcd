use Rattle.std.proofs.Common.{[], ◌++◌, map, refl, ap, ◌∙◌, arith}
use Rattle.std.proofs.lemmas.List.{append-nil}
use Rattle.fir_ast.specs.working.Views.{module_of}
use Rattle.fir_parse.specs.declared.lexeme.Lexeme.TheVariants.{LevelCloses}
use Rattle.fir_parse.specs.Lexemes.{level_closes}
use Rattle.fir_parse.specs.working.Reading.{read_on}
use Rattle.fir_parse.specs.working.Reads.{rest}
use Rattle.fir_parse.specs.working.States.{wants}
use Rattle.fir_parse.specs.working.Symbols.{first_module, more_modules}
use Rattle.fir_parse.proofs.LoopReads.{pushed}
use Rattle.fir_parse.proofs.Plans.{exits_behind, found, takes_one}
use Rattle.fir_parse.proofs.ReadAlike.{one_module_more}
use Rattle.fir_parse.proofs.parser.Parser.more_modules.Goals as goal
use Rattle.fir_parse.specs.Limits.{everywhere}

pub returns-in-LevelCloses-clause-reads : goal.returns-in-LevelCloses-clause-reads
returns-in-LevelCloses-clause-reads c = λ end k.
    c.loop-self.invariant.alike end k
    ∙ takes_one more_modules [] level_closes _ _ _ (found _ c.peek-next.result LevelCloses c.peek-next.ensures c.in-LevelCloses.is) c.pass.ensures.rest refl end (λ ms. k (map module_of c.loop-self.modules.items ++ ms))
    ∙ ap (λ ms. read_on everywhere end (k ms) (rest c.pass.new.self)) (append-nil (map module_of c.loop-self.modules.items))

pub returns-in_err-module-in_default-clause-reads : goal.returns-in_err-module-in_default-clause-reads
returns-in_err-module-in_default-clause-reads c =
    exits_behind (λ k. wants more_modules (λ ms. k (map module_of c.args.before.items ++ ms))) (wants first_module) (λ ms. map module_of ms.items) _ _ _ c.from_residual.result _
    (λ k ms. k (map module_of c.loop-self.modules.items ++ ms)) c.from_residual.ensures.1
    (λ end k.
    c.loop-self.invariant.alike end k
    ∙ one_module_more _ c.peek-next.result.lexeme c.peek-next.result.place c.peek-next.ensures c.in_default.not-LevelCloses end (λ ms. k (map module_of c.loop-self.modules.items ++ ms)))
    c.in_err-module-in_default.ensures.reads

pub loop-self-preserved : goal.loop-self-preserved
loop-self-preserved c = record {
  alike = λ end k.
      c.loop-self.invariant.alike end k
      ∙ one_module_more _ c.peek-next.result.lexeme c.peek-next.result.place c.peek-next.ensures c.in_default.not-LevelCloses end (λ ms. k (map module_of c.loop-self.modules.items ++ ms))
      ∙ c.in_ok-module-in_default.ensures.reads end (λ ms. k (map module_of c.loop-self.modules.items ++ ms))
      ∙ pushed (λ h. wants more_modules h) module_of c.loop-self.modules.items _ c.in_ok-module-in_default.module c.in_ok-push-in_default.ensures.items end k _;
  nearer = omega (arith, c.in_ok-module-in_default.ensures.nearer);
}
