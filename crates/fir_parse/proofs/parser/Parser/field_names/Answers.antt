use Rattle.std.proofs.Common.{◌≡◌, [], ◌∷◌, ◌++◌, map, ◌∙◌}
use Rattle.fir_ast.specs.working.Views.{named_of}
use Rattle.fir_parse.specs.working.MemoryRules.{names_plan}
use Rattle.fir_parse.specs.working.States.{wants}
use Rattle.fir_parse.specs.working.Symbols.{more_names}
use Rattle.fir_parse.proofs.LoopReads.{pushed}
use Rattle.fir_parse.proofs.Plans.{reads_behind}
use Rattle.fir_parse.proofs.parser.Parser.field_names.Goals as goal

pub returns-clause-reads : goal.returns-clause-reads
returns-clause-reads c =
    reads_behind (λ k. names_plan k) (λ k. wants more_names (λ ns. k (map named_of c.push.new.self.items ++ ns))) (λ ns. map named_of ns.items) _ _ _ c.more_names.result
    (λ end k.
    c.in_ok-mark.ensures.reads end _ ∙ c.in_ok-first.ensures.reads end _
    ∙ pushed (λ h. wants more_names h) named_of [] _ c.in_ok-first.first (let e : c.push.new.self.items ≡ [] ++ c.in_ok-first.first ∷ [] = cc c.in_ok-push.ensures.items in e) end k _)
    c.more_names.ensures.reads
