use Rattle.std.proofs.Common.{◌≤◌, sym, subst, arith}
use Rattle.trace_text.specs.working.Readings.{TickIsBad}
use Rattle.trace_text.proofs.TickWalks.{tick_read, tick_is_bad, past_behind}
use Rattle.trace_text.proofs.tick_reader.next_tick.Goals as goal

pub returns-in-Ok-clause-steps : goal.returns-in-Ok-clause-steps
returns-in-Ok-clause-steps c =
    let counts = c.in-Some.ensures in
    tick_read c.args.bytes.now c.args.at.now c.in-Some.line counts.past counts.here c.args.shape.now c.read_tick_line.new.tick.tick c.in-Ok.ensures.reads

pub returns-in-Ok-clause-later : goal.returns-in-Ok-clause-later
returns-in-Ok-clause-later c read =
    let counts = c.in-Some.ensures in
    let far : c.args.at.now ≤ c.in-Some.line.place = past_behind c.args.bytes.now c.args.at.now c.in-Some.line.place counts.past c.requires.place in
    omega (arith, counts.here.later)

pub returns-in-Err-clause-steps : goal.returns-in-Err-clause-steps
returns-in-Err-clause-steps c =
    let counts = c.in-Some.ensures in
    let line = c.in-Some.line in
    let bad = tick_is_bad c.args.bytes.now c.args.at.now line counts.past counts.here c.args.shape.now c.in-Err.cause counts.counts c.in-Err.ensures.reads.0 in
    (subst (TickIsBad c.args.bytes.now c.args.shape.now c.args.at.now line.place) (sym c.fault_at.ensures) bad, c.in-Err.ensures.reads.1)
