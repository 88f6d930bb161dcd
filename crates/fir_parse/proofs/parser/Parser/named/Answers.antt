use Rattle.std.proofs.Common.{sym, ap, lit≤}
use Rattle.fir_parse.specs.Heights.{height}
use Rattle.fir_parse.proofs.ExpressionViews.{name_view}
use Rattle.fir_parse.proofs.parser.Parser.named.Goals as goal

pub returns-clause-named : goal.returns-clause-named
returns-clause-named c = name_view _ _ _ _ c.in_ok-new.ensures c.new-2.ensures.items

pub returns-clause-high : goal.returns-clause-high
returns-clause-high c = (sym (ap height (name_view _ _ _ _ c.in_ok-new.ensures c.new-2.ensures.items)), lit≤ tt)
