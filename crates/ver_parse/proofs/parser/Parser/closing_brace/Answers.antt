use Rattle.std.proofs.Common.{◌≡◌, [], false, refl, sym, ◌∙◌}
use Rattle.ver_ast.specs.Tokens.{sign}
use Rattle.ver_parse.specs.working.Symbols.{a_token}
use Rattle.ver_parse.specs.working.Steps.{same_token}
use Rattle.ver_parse.proofs.Leading.{exits, ended, took, refused}
use Rattle.ver_parse.proofs.Turns.{other_token}
use Rattle.ver_parse.proofs.Heads.{took_closing, head_is}
use Rattle.std.proofs.Common.{arith, ◌-◌}
use Rattle.ver_parse.proofs.parser.Parser.closing_brace.Goals as goal

pub returns-in_err-next-clause-halts : goal.returns-in_err-next-clause-halts
returns-in_err-next-clause-halts c = exits _ c.from_residual.ensures.1 (ended (a_token (sign 125)) [] c.in_err-next.ensures)

pub returns-then-found-clause-gives : goal.returns-then-found-clause-gives
returns-then-found-clause-gives c = let d : c.saturating_sub-self.result ≡ c.args.self.now.depth - 1 = omega (arith, c.saturating_sub-self.ensures, c.pass.ensures.depth) in took (a_token (sign 125)) [] (sign 125) (took_closing c.pass.new.self _ c.in_ok-next.ensures c.pass.ensures.rest refl d (sym (c.is_fixed-found.ensures _ c.in_ok-next.ensures.seen) ∙ c.if-found.true)) refl refl

pub returns-else-found-clause-halts : goal.returns-else-found-clause-halts
returns-else-found-clause-halts c = refused (a_token (sign 125)) (head_is (same_token (sign 125)) false c.in_ok-next.ensures (sym (c.is_fixed-found.ensures _ c.in_ok-next.ensures.seen) ∙ c.if-found.false)) c.unexpected.ensures (other_token (sign 125))
