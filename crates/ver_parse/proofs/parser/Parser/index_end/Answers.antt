use Rattle.std.proofs.Common.{[], ◌∷◌, refl, subst}
use Rattle.ver_ast.specs.Tokens.{sign}
use Rattle.ver_parse.specs.working.Symbols.{a_token, a_number, behind_index}
use Rattle.ver_parse.specs.working.Fixed.{TriesOk}
use Rattle.ver_parse.proofs.Leading.{chained, halts_into, exits, ended, took, turned}
use Rattle.ver_parse.proofs.Turns.{no_end}
use Rattle.ver_parse.proofs.parser.Parser.index_end.Goals as goal

pub returns-in_err-takes-clause-halts : goal.returns-in_err-takes-clause-halts
returns-in_err-takes-clause-halts c = exits _ c.from_residual.ensures.1 (ended behind_index [] c.in_err-takes.ensures.tries)

pub returns-then-branch-clause-gives : goal.returns-then-branch-clause-gives
returns-then-branch-clause-gives c = took behind_index [] (sign 93) (subst (λ b. TriesOk (sign 93) c.args.self.now c.takes.new.self b) c.if-branch.true c.in_ok-takes.ensures.tries) refl refl

pub returns-in_err-low-clause-halts : goal.returns-in_err-low-clause-halts
returns-in_err-low-clause-halts c = exits _ c.from_residual-in_err-low.ensures.1 (halts_into (turned behind_index (a_token (sign 58) ∷ a_number ∷ a_token (sign 93) ∷ []) (subst (λ b. TriesOk (sign 93) c.args.self.now c.takes.new.self b) c.if-branch.false c.in_ok-takes.ensures.tries) no_end) c.in_err-low.ensures.halts)

pub returns-in_ok-low-clause-gives : goal.returns-in_ok-low-clause-gives
returns-in_ok-low-clause-gives c = chained (turned behind_index (a_token (sign 58) ∷ a_number ∷ a_token (sign 93) ∷ []) (subst (λ b. TriesOk (sign 93) c.args.self.now c.takes.new.self b) c.if-branch.false c.in_ok-takes.ensures.tries) no_end) c.in_ok-low.ensures.gives
