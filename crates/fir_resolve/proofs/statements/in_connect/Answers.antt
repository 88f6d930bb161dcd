use Rattle.fir_ast.specs.working.Views.{expr_of, sink_of}
use Rattle.fir_meaning.specs.Mentions.{expression_mentions, sink_mentions}
use Rattle.fir_names.proofs.FirstMentions.{front_told}
use Rattle.fir_resolve.proofs.statements.in_connect.Goals as goal

pub returns-in-Some : goal.returns-in-Some
returns-in-Some c = λ visible sees.
    front_told _ _ (sink_mentions visible (sink_of c.args.sink.now)) (expression_mentions visible (expr_of c.args.source.now)) c.in-Some.is
    (c.in_ok-fault.ensures visible sees)
