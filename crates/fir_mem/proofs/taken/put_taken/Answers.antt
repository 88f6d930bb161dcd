use Rattle.fir_mem.proofs.Steps.{taken_of, taken_old, taken_past}
use Rattle.fir_mem.proofs.taken.put_taken.Goals as goal

pub returns-then-not-pipe : goal.returns-then-not-pipe
returns-then-not-pipe c = taken_old c.args.lowered.now _ _ _ _ c.args.word c.if-not-pipe.true

pub returns-then-pipe-writes : goal.returns-then-pipe-writes
returns-then-pipe-writes c = taken_past c.args.lowered.now _ c.args.pipe.now.read _ c.args.writes.now c.args.word c.if-pipe-writes.true

pub returns : goal.returns
returns c =
    taken_of c.put_left.result c.args.lowered.now c.put_left.new.lowered c.args.pipe.now.is_new c.args.pipe.now.read c.args.ty c.args.writes.now c.index-writes-pipe.result c.args.word
    c.if-not-pipe.false c.if-pipe-writes.false c.index-writes-pipe.is c.put_left.ensures
