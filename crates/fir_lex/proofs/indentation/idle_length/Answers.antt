use Rattle.std.proofs.Common.{◌≡◌, drop, arith}
use Rattle.fir_lex.specs.working.Bytes.{line_end_length}
use Rattle.fir_lex.specs.working.Front.{comment_length}
use Rattle.fir_lex.proofs.Way.{idle_within}
use Rattle.fir_lex.proofs.indentation.idle_length.Goals as goal

pub returns-clause-within : goal.returns-clause-within
returns-clause-within c =
    let e : c.line_end_length.result ≡ line_end_length (drop (comment_length c.args.behind.now) c.args.behind.now) = cc in
    omega (arith, idle_within c.args.behind.now, e, c.comment_length-comment.ensures.value)
