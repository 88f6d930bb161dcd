use Rattle.std.proofs.Common.{[], ◌∷◌, refl, sym, true, false, subst}
use Rattle.ver_ast.specs.Tokens.{sign, digit_zero}
use Rattle.ver_parse.specs.working.Symbols.{a_range, a_number, a_token}
use Rattle.ver_parse.specs.working.Fixed.{TriesOk}
use Rattle.ver_parse.specs.working.Reads.{Gives}
use Rattle.ver_parse.proofs.Leading.{took, chained, turned, halts_into, exits, ended}
use Rattle.ver_parse.proofs.Turns.{no_range}
use Rattle.ver_parse.proofs.parser.Parser.range.Goals as goal

pub returns-in_err-takes-clause-halts : goal.returns-in_err-takes-clause-halts
returns-in_err-takes-clause-halts c = exits _ c.from_residual.ensures.1 (ended a_range [] c.in_err-takes.ensures.tries)

pub returns-in_err-high-clause-halts : goal.returns-in_err-high-clause-halts
returns-in_err-high-clause-halts c =
    let tries = subst (λ b. TriesOk (sign 91) c.args.self.now c.takes.new.self b) c.if-branch.true c.in_ok-takes.ensures.tries in
    exits _ c.from_residual-in_err-high.ensures.1 (halts_into (took a_range (a_number ∷ a_token (sign 58) ∷ a_token digit_zero ∷ a_token (sign 93) ∷ []) (sign 91) tries refl refl) c.in_err-high.ensures.halts)

pub returns-in_ok-high-clause-gives : goal.returns-in_ok-high-clause-gives
returns-in_ok-high-clause-gives c =
    let tries = subst (λ b. TriesOk (sign 91) c.args.self.now c.takes.new.self b) c.if-branch.true c.in_ok-takes.ensures.tries in
    subst (λ gs. Gives (a_range ∷ []) gs c.args.self.now c.range_end.new.self) (sym c.width_to.ensures)
    (chained (took a_range (a_number ∷ a_token (sign 58) ∷ a_token digit_zero ∷ a_token (sign 93) ∷ []) (sign 91) tries refl refl) c.in_ok-high.ensures.gives)

pub returns-else-branch-clause-gives : goal.returns-else-branch-clause-gives
returns-else-branch-clause-gives c =
    let tries = subst (λ b. TriesOk (sign 91) c.args.self.now c.takes.new.self b) c.if-branch.false c.in_ok-takes.ensures.tries in
    turned a_range [] tries no_range
