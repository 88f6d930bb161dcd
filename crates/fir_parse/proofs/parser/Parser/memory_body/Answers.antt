use Rattle.std.proofs.Common.{◌≡◌, ℕ, [], ◌∷◌, map, refl, sym, ap, ◌∙◌}
use Rattle.fir_ast.specs.declared.place.Place.{Place}
use Rattle.fir_ast.specs.working.Views.{memory_part_of}
use Rattle.fir_parse.specs.declared.lexeme.Lexeme.{Lexeme}
use Rattle.fir_parse.specs.declared.lexeme.Lexeme.TheVariants.{LevelOpens}
use Rattle.fir_parse.specs.Lexemes.{level_opens}
use Rattle.fir_parse.specs.working.Seen.{seen}
use Rattle.fir_parse.specs.working.Reading.{step}
use Rattle.fir_parse.specs.working.States.{wants, without}
use Rattle.fir_parse.specs.working.Symbols.{a_memory_body, a_memory_field, more_memory_fields}
use Rattle.fir_parse.proofs.LoopReads.{text_ended}
use Rattle.fir_parse.proofs.Plans.{found, reads_behind, stands_there, stays_before, takes_first}
use Rattle.fir_parse.proofs.parser.Parser.memory_body.Goals as goal

pub returns-in-LevelOpens-clause-reads : goal.returns-in-LevelOpens-clause-reads
returns-in-LevelOpens-clause-reads c =
    reads_behind (wants (a_memory_body c.args.depth)) (λ k. wants (a_memory_field c.args.depth) (λ f. wants (more_memory_fields c.args.depth) (λ fs. k (f ∷ fs)))) (λ fs. map memory_part_of fs.items) _ _ _ c.memory_fields.result
    (takes_first (a_memory_body c.args.depth) _ level_opens _ _ _ (found _ c.peek-next.result LevelOpens c.peek-next.ensures c.in-LevelOpens.is) c.pass.ensures.rest refl)
    c.memory_fields.ensures.reads

pub returns-in-End-clause-reads : goal.returns-in-End-clause-reads
returns-in-End-clause-reads c = text_ended (a_memory_body c.args.depth) _ c.peek-next.result _ c.peek-next.ensures c.in-End.is c.refused.ensures

no_body : (d : ℕ) (l : Lexeme) (p : Place) → (l ≡ LevelOpens → ⊥) → step (a_memory_body d) (seen l) p ≡ without []
no_body d LevelOpens p h = absurd (h refl)
no_body d _ p h = refl

pub returns-in_default-clause-reads : goal.returns-in_default-clause-reads
returns-in_default-clause-reads c =
    stays_before (a_memory_body c.args.depth) _ _ _ _ (stands_there _ c.peek-next.result.lexeme c.peek-next.result.place c.peek-next.ensures c.in_default.not-End)
    (no_body c.args.depth c.peek-next.result.lexeme c.peek-next.result.place c.in_default.not-LevelOpens ∙ ap (λ fs. without (map memory_part_of fs)) (sym c.new.ensures.items))
