use Rattle.std.proofs.Common.{[], map, refl, ap, ◌∙◌, arith}
use Rattle.fir_ast.specs.Statements.{done}
use Rattle.fir_ast.specs.working.Views.{port_of}
use Rattle.fir_parse.specs.declared.lexeme.Lexeme.TheVariants.{LevelCloses}
use Rattle.fir_parse.specs.working.CircuitRules.{behind_port}
use Rattle.fir_parse.specs.Lexemes.{level_closes}
use Rattle.fir_parse.specs.working.ModuleTrees.{port_or_of}
use Rattle.fir_parse.specs.working.Reading.{read_on}
use Rattle.fir_parse.specs.working.Reads.{rest}
use Rattle.fir_parse.specs.working.States.{wants}
use Rattle.fir_parse.specs.working.Symbols.{ports_and_statements}
use Rattle.fir_parse.proofs.PortReads.{after_ports, no_port_behind, no_port_here, no_statements, one_port_more}
use Rattle.fir_parse.proofs.Plans.{found, refused, stops_behind, takes_one}
use Rattle.fir_parse.proofs.parser.Parser.ports_and_statements.Goals as goal
use Rattle.fir_parse.specs.Limits.{everywhere}

pub returns-in-LevelCloses-clause-reads : goal.returns-in-LevelCloses-clause-reads
returns-in-LevelCloses-clause-reads c = λ end k.
    c.loop-self.invariant.alike end k
    ∙ takes_one ports_and_statements (record { ports = []; block = done }) level_closes _ _ _ (found _ c.peek-next.result LevelCloses c.peek-next.ensures c.in-LevelCloses.is) c.pass.ensures.rest refl end (λ b. k (after_ports (map port_of c.loop-self.ports.items) b))
    ∙ ap (λ b. read_on everywhere end (k b) (rest c.pass.new.self)) (no_port_behind (map port_of c.loop-self.ports.items) done ∙ no_statements (map port_of c.loop-self.ports.items) c.new-statements.result.items c.new-statements.ensures.items)

pub loop-self-preserved : goal.loop-self-preserved
loop-self-preserved c = record {
  alike = λ end k.
      c.loop-self.invariant.alike end k
      ∙ c.in_ok-port-in-Word.ensures.reads end (λ b. k (after_ports (map port_of c.loop-self.ports.items) b))
      ∙ ap (λ x. read_on everywhere end (behind_port (port_or_of x) (λ b. k (after_ports (map port_of c.loop-self.ports.items) b))) (rest c.port_or_statement.new.self)) c.in-Port.is
      ∙ one_port_more c.loop-self.ports.items _ c.in-Port.port c.in_ok-push-in-Port.ensures.items end k _;
  nearer = omega (arith, c.in_ok-port-in-Word.ensures.nearer);
}

pub returns-in_default-clause-reads : goal.returns-in_default-clause-reads
returns-in_default-clause-reads c =
    stops_behind (wants ports_and_statements) (wants ports_and_statements) _ _ c.refused.result (λ k b. k (after_ports (map port_of c.loop-self.ports.items) b)) c.loop-self.invariant.alike
    (refused ports_and_statements _ c.peek-next.result.lexeme _ _ c.peek-next.ensures c.refused.ensures (no_port_here c.peek-next.result.lexeme c.peek-next.result.place c.in_default.not-LevelCloses c.in_default.not-Word))
