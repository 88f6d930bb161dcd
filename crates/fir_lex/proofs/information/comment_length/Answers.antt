use Rattle.std.proofs.Common.{◌≡◌, true, false, drop, sym, ◌∙◌, arith}
use Rattle.fir_lex.specs.working.Bytes.{ends_line}
use Rattle.fir_lex.proofs.Lengths.{comment_at_line_end, comment_at_more}
use Rattle.fir_lex.proofs.information.comment_length.Goals as goal

pub returns-then-ends_line-clause-value : goal.returns-then-ends_line-clause-value
returns-then-ends_line-clause-value c =
    let e : ends_line (drop c.loop-i.i c.args.bytes.now) ≡ true = cc in
    sym (comment_at_line_end c.args.bytes.now c.loop-i.i e) ∙ c.loop-i.invariant

pub loop-i-preserved : goal.loop-i-preserved
loop-i-preserved c =
    let e : ends_line (drop c.loop-i.i c.args.bytes.now) ≡ false = cc in
    comment_at_more c.args.bytes.now c.loop-i.i (omega arith) e ∙ c.loop-i.invariant
