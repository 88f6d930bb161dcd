use Rattle.std.proofs.Common.{[], refl, false, true, subst}
use Rattle.ver_parse.specs.working.Symbols.{a_token}
use Rattle.ver_parse.specs.working.Fixed.{fixed_token, TriesOk}
use Rattle.ver_parse.proofs.Leading.{exits, ended, refused_behind, took}
use Rattle.ver_parse.proofs.Heads.{took_token}
use Rattle.ver_parse.proofs.Turns.{other_token}
use Rattle.ver_parse.proofs.parser.Parser.token.Goals as goal

pub returns-in_err-takes-clause-halts : goal.returns-in_err-takes-clause-halts
returns-in_err-takes-clause-halts c = exits _ c.from_residual.ensures.1 (ended (a_token (fixed_token c.args.fixed)) [] c.in_err-takes.ensures.tries)

pub returns-then-branch-clause-gives : goal.returns-then-branch-clause-gives
returns-then-branch-clause-gives c =
    took_token c.args.fixed (subst (λ b. TriesOk (fixed_token c.args.fixed) c.args.self.now c.takes.new.self b) c.if-branch.true c.in_ok-takes.ensures.tries)

pub returns-else-branch-clause-halts : goal.returns-else-branch-clause-halts
returns-else-branch-clause-halts c =
    let g = fixed_token c.args.fixed in
    refused_behind (a_token g) (subst (λ b. TriesOk g c.args.self.now c.takes.new.self b) c.if-branch.false c.in_ok-takes.ensures.tries) c.unexpected.ensures (other_token g)
