use Rattle.std.proofs.Common.{sym, ap, ◌∙◌, option_map}
use Rattle.fir_lex.specs.working.View.{placed}
use Rattle.fir_parse.proofs.Remaining.{at_hand}
use Rattle.fir_parse.proofs.Plans.{stands_first}
use Rattle.fir_parse.proofs.parser.token_at.Goals as goal

pub returns-in-Some : goal.returns-in-Some
returns-in-Some c =
    stands_first _ c.of.result _ (rw c.of.ensures.same (at_hand c.args.tokens.now.tokens c.args.index (placed c.in-Some.token) (sym c.get.ensures ∙ ap (option_map placed) c.in-Some.is))) c.of.ensures.some
