use Rattle.std.proofs.Common.{[], ◌∷◌, ◌++◌, refl, sym, subst}
use Rattle.ver_ast.specs.Grammar.{ports_tokens}
use Rattle.ver_ast.specs.Tokens.{sign}
use Rattle.ver_parse.specs.working.Symbols.{a_name, a_range, a_mark, a_direction, ports, more_ports}
use Rattle.ver_parse.specs.working.Fixed.{TriesOk}
use Rattle.ver_parse.specs.working.Reads.{Gives}
use Rattle.ver_parse.proofs.Leading.{tail, tail_halts, exits, ended, took, turned}
use Rattle.ver_parse.proofs.Turns.{some_ports}
use Rattle.ver_parse.proofs.parser.Parser.ports.Goals as goal

pub returns-in_err-takes-clause-halts : goal.returns-in_err-takes-clause-halts
returns-in_err-takes-clause-halts c = exits _ c.from_residual.ensures.1 (ended ports [] c.in_err-takes.ensures.tries)

pub returns-then-branch-clause-gives : goal.returns-then-branch-clause-gives
returns-then-branch-clause-gives c = subst (λ xs. Gives (ports ∷ []) (ports_tokens xs ++ sign 41 ∷ []) c.args.self.now c.takes.new.self) (sym c.new.ensures.items) (took ports [] (sign 41) (subst (λ b. TriesOk (sign 41) c.args.self.now c.takes.new.self b) c.if-branch.true c.in_ok-takes.ensures.tries) refl refl)

pub returns-else-branch-clause-gives : goal.returns-else-branch-clause-gives
returns-else-branch-clause-gives c = tail _ _ (λ v. ports_tokens v.items ++ sign 41 ∷ []) (turned ports (a_mark ∷ a_direction ∷ a_range ∷ a_name ∷ more_ports ∷ []) (subst (λ b. TriesOk (sign 41) c.args.self.now c.takes.new.self b) c.if-branch.false c.in_ok-takes.ensures.tries) some_ports) c.some_ports.ensures.gives

pub returns-else-branch-clause-halts : goal.returns-else-branch-clause-halts
returns-else-branch-clause-halts c = tail_halts _ (turned ports (a_mark ∷ a_direction ∷ a_range ∷ a_name ∷ more_ports ∷ []) (subst (λ b. TriesOk (sign 41) c.args.self.now c.takes.new.self b) c.if-branch.false c.in_ok-takes.ensures.tries) some_ports) c.some_ports.ensures.halts
