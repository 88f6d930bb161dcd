use Rattle.std.proofs.Common.{[], ◌∷◌, subst}
use Rattle.std.specs.Prelude.{Ok}
use Rattle.ver_ast.specs.Grammar.{rhs_tokens}
use Rattle.ver_parse.specs.working.Symbols.{an_atom, other_side, behind_atom}
use Rattle.ver_parse.proofs.Leading.{chained, tail, halts_into, tail_halts, exits, ended, turned}
use Rattle.ver_parse.proofs.Turns.{no_unary}
use Rattle.ver_parse.proofs.Heads.{reads_unary}
use Rattle.ver_parse.specs.working.Fixed.{TriesUnary}
use Rattle.ver_parse.proofs.parser.Parser.other_side.Goals as goal

pub returns-in_err-op-clause-halts : goal.returns-in_err-op-clause-halts
returns-in_err-op-clause-halts c = exits _ c.from_residual.ensures.1 (ended other_side [] c.in_err-op.ensures.tries)

pub returns-in_err-atom-in-Some-clause-halts : goal.returns-in_err-atom-in-Some-clause-halts
returns-in_err-atom-in-Some-clause-halts c = exits _ c.from_residual-in_err-atom-in-Some.ensures.1 (halts_into (reads_unary c.in-Some.op (subst (λ o. TriesUnary c.args.self.now c.unary.new.self (Ok o)) c.in-Some.is c.in_ok-op.ensures.tries)) c.in_err-atom-in-Some.ensures.halts)

pub returns-in_ok-atom-in-Some-clause-gives : goal.returns-in_ok-atom-in-Some-clause-gives
returns-in_ok-atom-in-Some-clause-gives c = chained (reads_unary c.in-Some.op (subst (λ o. TriesUnary c.args.self.now c.unary.new.self (Ok o)) c.in-Some.is c.in_ok-op.ensures.tries)) c.in_ok-atom-in-Some.ensures.gives

pub returns-in-None-clause-gives : goal.returns-in-None-clause-gives
returns-in-None-clause-gives c = tail _ _ rhs_tokens (turned other_side (an_atom ∷ behind_atom ∷ []) (subst (λ o. TriesUnary c.args.self.now c.unary.new.self (Ok o)) c.in-None.is c.in_ok-op.ensures.tries) no_unary) c.atom_side.ensures.gives

pub returns-in-None-clause-halts : goal.returns-in-None-clause-halts
returns-in-None-clause-halts c = tail_halts _ (turned other_side (an_atom ∷ behind_atom ∷ []) (subst (λ o. TriesUnary c.args.self.now c.unary.new.self (Ok o)) c.in-None.is c.in_ok-op.ensures.tries) no_unary) c.atom_side.ensures.halts
