use Rattle.std.proofs.Common.{◌≡◌, [], ◌∷◌, ◌++◌, map, ◌∙◌}
use Rattle.fir_ast.specs.working.Views.{module_of}
use Rattle.fir_parse.specs.working.States.{wants}
use Rattle.fir_parse.specs.working.Symbols.{first_module, more_modules}
use Rattle.fir_parse.proofs.LoopReads.{pushed}
use Rattle.fir_parse.proofs.Plans.{reads_behind}
use Rattle.fir_parse.proofs.parser.Parser.modules.Goals as goal

pub returns-clause-reads : goal.returns-clause-reads
returns-clause-reads c =
    reads_behind (wants first_module) (λ k. wants more_modules (λ ms. k (map module_of c.push.new.self.items ++ ms))) (λ ms. map module_of ms.items) _ _ _ c.more_modules.result
    (λ end k.
    c.in_ok-first.ensures.reads end k
    ∙ pushed (λ h. wants more_modules h) module_of [] _ c.in_ok-first.first (let e : c.push.new.self.items ≡ [] ++ c.in_ok-first.first ∷ [] = cc c.in_ok-push.ensures.items in e) end k _)
    c.more_modules.ensures.reads
