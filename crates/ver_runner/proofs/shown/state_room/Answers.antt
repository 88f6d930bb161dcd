use Rattle.std.proofs.Common.{ap}
use Rattle.std.specs.Vec.{vec_len}
use Rattle.fir_bits.specs.Values.{BitVector}
use Rattle.ver_runner.proofs.Rooms.{words_more}
use Rattle.ver_runner.proofs.shown.state_room.Goals as goal

pub loop-word-preserved : goal.loop-word-preserved
loop-word-preserved c =
    words_more c.state-word-items.result.now c.loop-word.word-index c.word-item.result c.of.result c.loop-word.room.items c.resize.new.self.items (vec_len c.loop-word.room) c.len.result
    c.unwrap_or-size.result c.loop-word-test.true c.word-item.is c.loop-word.invariant c.loop-word.room.ok.0 c.len.ensures c.unwrap_or-size.ensures
    (ap (λ (b : BitVector). b.width) c.of.ensures) c.in_ok-resize.ensures.items
