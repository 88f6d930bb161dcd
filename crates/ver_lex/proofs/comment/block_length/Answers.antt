use Rattle.std.proofs.Common.{◌≡◌, false, drop, ◌∙◌, arith}
use Rattle.ver_lex.specs.working.Fronts.{ends_block}
use Rattle.ver_lex.proofs.Lengths.{block_at_more}
use Rattle.ver_lex.proofs.comment.block_length.Goals as goal

pub loop-i-preserved : goal.loop-i-preserved
loop-i-preserved c =
    let e : ends_block (drop c.loop-i.i c.args.bytes.now) ≡ false = cc in
    block_at_more c.args.bytes.now c.loop-i.i (omega arith) e ∙ c.loop-i.invariant
