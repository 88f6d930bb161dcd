use Rattle.std.specs.Vec.{vec_len}
use Rattle.trace_text.proofs.ZeroWords.{zeros_more}
use Rattle.trace_text.proofs.init_reader.zeros.Goals as goal

pub loop-word-preserved : goal.loop-word-preserved
loop-word-preserved c =
    zeros_more c.args.state.now c.loop-word.word-index c.word-item.result c.loop-word.words.items c.resize.new.self.items (vec_len c.loop-word.words) c.len.result c.unwrap_or-size.result
    c.loop-word-test.true c.word-item.is c.loop-word.invariant c.loop-word.words.ok.0 c.len.ensures c.unwrap_or-size.ensures c.in_ok-resize.ensures.items
