use Rattle.std.proofs.Common.{refl, rules}
use Rattle.fir_parse.specs.declared.lexeme.Lexeme.TheVariants.{Mark}
use Rattle.fir_parse.specs.declared.lexeme.Mark.TheVariants.{Colon}
use Rattle.fir_parse.specs.working.CircuitRules.{port_rest}
use Rattle.fir_parse.specs.Lexemes.{mark}
use Rattle.fir_parse.specs.working.ModuleTrees.{port_or_of}
use Rattle.fir_parse.specs.working.PartPlans.{invalid_plan}
use Rattle.fir_parse.specs.working.StatementRules.{is_named}
use Rattle.fir_parse.specs.working.States.{wants}
use Rattle.fir_parse.specs.working.Symbols.{behind_port_is}
use Rattle.fir_parse.proofs.Plans.{found, reads_behind, takes_first}
use Rattle.fir_parse.proofs.ReadAlike.{is_not_port}
use Rattle.fir_parse.proofs.parser.Parser.behind_port_is.Goals as goal
use Rattle.fir_parse.proofs.parser.Parser.behind_port_is.Goals.{in_default-via-in-Mark+in_default, in_default-via-in_default}

pub returns-in-Mark-Colon-clause-reads : goal.returns-in-Mark-Colon-clause-reads
returns-in-Mark-Colon-clause-reads c =
    reads_behind (wants (behind_port_is c.args.direction c.args.place c.args.name.now c.args.is_place)) (λ k. port_rest c.args.direction (is_named c.args.is_place) k) port_or_of _ _ _ c.port_named_is.result
    (takes_first (behind_port_is c.args.direction c.args.place c.args.name.now c.args.is_place) _ (mark Colon) _ _ _ (found _ c.peek-next.result (Mark Colon) c.peek-next.ensures (search rules)) c.pass.ensures.rest refl)
    c.port_named_is.ensures.reads

pub returns-in_default-clause-reads : goal.returns-in_default-clause-reads
returns-in_default-clause-reads c =
    reads_behind (wants (behind_port_is c.args.direction c.args.place c.args.name.now c.args.is_place)) (λ k. invalid_plan c.args.place c.args.name.now k) port_or_of _ _ _ c.invalid_name.result
    (is_not_port c.args.direction c.args.place c.args.name.now c.args.is_place _ c.peek-next.result.lexeme c.peek-next.result.place c.peek-next.ensures
    (elim c.in_default.branch [ in_default-via-in-Mark+in_default w ↦ λ h. search rules | in_default-via-in_default w ↦ λ h. search rules ]))
    c.invalid_name.ensures.reads
