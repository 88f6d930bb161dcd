use Rattle.std.proofs.Common.{[], ◌∷◌, codes, refl, subst}
use Rattle.ver_ast.specs.Tokens.{word, double}
use Rattle.ver_parse.specs.working.Symbols.{a_token, a_mark}
use Rattle.ver_parse.specs.working.Fixed.{TriesOk}
use Rattle.ver_parse.proofs.Leading.{chained, ◌▸◌, halts_into, halts_more, halts_behind, exits, ended, took, turned}
use Rattle.ver_parse.proofs.Turns.{no_mark}
use Rattle.ver_parse.proofs.parser.Parser.mark.Goals as goal

pub returns-in_err-takes-clause-halts : goal.returns-in_err-takes-clause-halts
returns-in_err-takes-clause-halts c = exits _ c.from_residual.ensures.1 (ended a_mark [] c.in_err-takes.ensures.tries)

pub returns-in_err-token-clause-halts : goal.returns-in_err-token-clause-halts
returns-in_err-token-clause-halts c = exits _ c.from_residual-in_err-token.ensures.1 (halts_into (took a_mark (a_token (word (codes "clock")) ∷ a_token (double 42 41) ∷ []) (double 40 42) (subst (λ b. TriesOk (double 40 42) c.args.self.now c.takes.new.self b) c.if-branch.true c.in_ok-takes.ensures.tries) refl refl) (halts_more (a_token (double 42 41) ∷ []) c.in_err-token.ensures.halts))

pub returns-in_err-token-2-clause-halts : goal.returns-in_err-token-2-clause-halts
returns-in_err-token-2-clause-halts c = exits _ c.from_residual-in_err-token-2.ensures.1 (halts_into (took a_mark (a_token (word (codes "clock")) ∷ a_token (double 42 41) ∷ []) (double 40 42) (subst (λ b. TriesOk (double 40 42) c.args.self.now c.takes.new.self b) c.if-branch.true c.in_ok-takes.ensures.tries) refl refl) (halts_behind c.in_ok-token.ensures.gives c.in_err-token-2.ensures.halts))

pub returns-in_ok-token-2-clause-gives : goal.returns-in_ok-token-2-clause-gives
returns-in_ok-token-2-clause-gives c = chained (took a_mark (a_token (word (codes "clock")) ∷ a_token (double 42 41) ∷ []) (double 40 42) (subst (λ b. TriesOk (double 40 42) c.args.self.now c.takes.new.self b) c.if-branch.true c.in_ok-takes.ensures.tries) refl refl) (c.in_ok-token.ensures.gives ▸ c.in_ok-token-2.ensures.gives)

pub returns-else-branch-clause-gives : goal.returns-else-branch-clause-gives
returns-else-branch-clause-gives c = turned a_mark [] (subst (λ b. TriesOk (double 40 42) c.args.self.now c.takes.new.self b) c.if-branch.false c.in_ok-takes.ensures.tries) no_mark
