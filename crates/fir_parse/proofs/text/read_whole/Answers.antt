use Rattle.std.proofs.Common.{sym, ap, ◌∙◌}
use Rattle.fir_ast.specs.working.Views.{circuit_of}
use Rattle.fir_parse.specs.declared.lexeme.Lexeme.TheVariants.{End}
use Rattle.fir_parse.specs.working.Reading.{read, read_on}
use Rattle.fir_parse.specs.working.States.{done, wants}
use Rattle.fir_parse.specs.working.Symbols.{a_text}
use Rattle.fir_parse.proofs.Plans.{found}
use Rattle.fir_parse.proofs.WholeReads.{whole_ends, whole_stops}
use Rattle.fir_parse.proofs.text.read_whole.Goals as goal
use Rattle.fir_parse.specs.Limits.{everywhere}

pub returns-in-End : goal.returns-in-End
returns-in-End c = λ end.
    ap (read end) (sym c.new-parser.ensures) ∙ c.in_ok-circuit.ensures end done ∙ whole_ends (circuit_of c.in_ok-circuit.circuit) end _ (found _ c.peek-next.result End c.peek-next.ensures c.in-End.is)

pub returns-in_default : goal.returns-in_default
returns-in_default c =
    rw c.refused.ensures (whole_stops c.args.tokens.now (circuit_of c.in_ok-circuit.circuit) _ c.peek-next.result.lexeme c.peek-next.result.place (λ end k. ap (read_on everywhere end (wants a_text k)) (sym c.new-parser.ensures) ∙ c.in_ok-circuit.ensures end k) c.peek-next.ensures c.in_default.not-End)
