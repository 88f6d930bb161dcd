use Rattle.std.proofs.Common.{◌≡◌, [], map, refl, ap, ◌∙◌}
use Rattle.fir_ast.specs.declared.place.Place.{Place}
use Rattle.fir_ast.specs.Statements.{done}
use Rattle.fir_ast.specs.working.Views.{port_of}
use Rattle.fir_parse.specs.declared.lexeme.Lexeme.{Lexeme}
use Rattle.fir_parse.specs.declared.lexeme.Lexeme.TheVariants.{LevelOpens}
use Rattle.fir_parse.specs.Lexemes.{level_opens}
use Rattle.fir_parse.specs.working.Seen.{seen}
use Rattle.fir_parse.specs.working.ModuleTrees.{body_of}
use Rattle.fir_parse.specs.working.Reading.{step}
use Rattle.fir_parse.specs.working.States.{wants, without}
use Rattle.fir_parse.specs.working.Symbols.{a_body, ports_and_statements}
use Rattle.fir_parse.proofs.LoopReads.{text_ended}
use Rattle.fir_parse.proofs.PortReads.{no_ports, no_statements}
use Rattle.fir_parse.proofs.Plans.{found, reads_behind, stands_there, stays_before, takes_first}
use Rattle.fir_parse.proofs.parser.Parser.body.Goals as goal

pub returns-in-LevelOpens-clause-reads : goal.returns-in-LevelOpens-clause-reads
returns-in-LevelOpens-clause-reads c =
    reads_behind (wants a_body) (wants ports_and_statements) body_of _ _ _ c.ports_and_statements.result
    (takes_first a_body _ level_opens _ _ _ (found _ c.peek-next.result LevelOpens c.peek-next.ensures c.in-LevelOpens.is) c.pass.ensures.rest refl)
    c.ports_and_statements.ensures.reads

pub returns-in-End-clause-reads : goal.returns-in-End-clause-reads
returns-in-End-clause-reads c = text_ended a_body _ c.peek-next.result _ c.peek-next.ensures c.in-End.is c.refused.ensures

no_level : (l : Lexeme) (p : Place) → (l ≡ LevelOpens → ⊥) → step a_body (seen l) p ≡ without (record { ports = []; block = done })
no_level LevelOpens p h = absurd (h refl)
no_level _ p h = refl

pub returns-in_default-clause-reads : goal.returns-in_default-clause-reads
returns-in_default-clause-reads c =
    stays_before a_body _ _ _ _ (stands_there _ c.peek-next.result.lexeme c.peek-next.result.place c.peek-next.ensures c.in_default.not-End)
    (no_level c.peek-next.result.lexeme c.peek-next.result.place c.in_default.not-LevelOpens ∙ ap without (no_ports c.new.result.items c.new.ensures.items ∙ no_statements (map port_of c.new.result.items) c.new-in_default.result.items c.new-in_default.ensures.items))
