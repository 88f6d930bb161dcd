use Rattle.std.proofs.Common.{◌≡◌, [], ◌∷◌, ◌++◌, map, ◌∙◌}
use Rattle.fir_ast.specs.working.Views.{memory_part_of}
use Rattle.fir_parse.specs.working.States.{wants}
use Rattle.fir_parse.specs.working.Symbols.{a_memory_field, more_memory_fields}
use Rattle.fir_parse.proofs.LoopReads.{pushed}
use Rattle.fir_parse.proofs.Plans.{reads_behind}
use Rattle.fir_parse.proofs.parser.Parser.memory_fields.Goals as goal

pub returns-clause-reads : goal.returns-clause-reads
returns-clause-reads c =
    reads_behind (λ k. wants (a_memory_field c.args.depth) (λ f. wants (more_memory_fields c.args.depth) (λ fs. k (f ∷ fs)))) (λ k. wants (more_memory_fields c.args.depth) (λ fs. k (map memory_part_of c.push.new.self.items ++ fs))) (λ fs. map memory_part_of fs.items) _ _ _ c.more_memory_fields.result
    (λ end k.
    c.in_ok-first.ensures.reads end _
    ∙ pushed (λ h. wants (more_memory_fields c.args.depth) h) memory_part_of [] _ c.in_ok-first.first (let e : c.push.new.self.items ≡ [] ++ c.in_ok-first.first ∷ [] = cc c.in_ok-push.ensures.items in e) end k _)
    c.more_memory_fields.ensures.reads
