use Rattle.std.proofs.Common.{refl, sym, ap}
use Rattle.fir_parse.specs.working.CircuitRules.{behind_port, body_by_word}
use Rattle.fir_parse.specs.Lexemes.{word}
use Rattle.fir_parse.specs.working.ModuleTrees.{port_or_of}
use Rattle.fir_parse.specs.working.PartPlans.{no_port_plan}
use Rattle.fir_parse.specs.working.States.{wants}
use Rattle.fir_parse.specs.working.Symbols.{behind_direction, ports_and_statements}
use Rattle.fir_parse.proofs.LoopReads.{leads_behind}
use Rattle.fir_parse.proofs.Plans.{takes_first}
use Rattle.fir_parse.proofs.parser.Parser.port_or_statement.Goals as goal

pub returns-in-Some-clause-reads : goal.returns-in-Some-clause-reads
returns-in-Some-clause-reads c =
    leads_behind (wants ports_and_statements) (λ x k. behind_port (port_or_of x) k) (wants (behind_direction c.in-Some.direction c.args.place c.args.name.now)) port_or_of _ _ _ c.behind_direction.result
    (λ k x. behind_port x k) (λ x k. refl)
    (takes_first ports_and_statements _ (word c.args.name.now) c.args.place _ _ c.requires.at_hand c.pass.ensures.rest (ap (λ r. body_by_word r c.args.place c.args.name.now) (sym c.in-Some.ensures)))
    c.behind_direction.ensures.reads

pub returns-in-None-clause-reads : goal.returns-in-None-clause-reads
returns-in-None-clause-reads c =
    leads_behind (wants ports_and_statements) (λ x k. behind_port (port_or_of x) k) (λ k. no_port_plan c.args.place c.args.name.now k) port_or_of _ _ _ c.no_port.result
    (λ k x. behind_port x k) (λ x k. refl)
    (takes_first ports_and_statements _ (word c.args.name.now) c.args.place _ _ c.requires.at_hand c.pass.ensures.rest (ap (λ r. body_by_word r c.args.place c.args.name.now) (sym c.in-None.ensures)))
    c.no_port.ensures.reads
