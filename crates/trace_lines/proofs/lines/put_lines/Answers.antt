use Rattle.std.proofs.Common.{[], refl, arith}
use Rattle.fir_io.specs.Ports.{SinkSeen}
use Rattle.trace_lines.proofs.Lining.{none_lined, more_gathered, all_put, front_put, rose_first, all_run, stopped, memory_put}
use Rattle.trace_lines.proofs.lines.put_lines.Goals as goal
use Rattle.trace_lines.proofs.lines.put_lines.Goals.{then-len-ge-GATHERED+in-Ok, else-len-ge-GATHERED}

pub loop-init : goal.loop-init
loop-init g c = none_lined _ _ _ _ _ _ _ c.new-lines.ensures.items c.requires.ready c.requires.begun

pub step-requires : goal.step-requires
step-requires g c = c.loop.invariant.ready

pub returns-in-Err-Failed : goal.returns-in-Err-Failed
returns-in-Err-Failed g c =
    let s = g.R.Simulation in
    let h = c.loop.invariant in
    let front = g.met.R.Simulation.made_front c.args.trace.now in
    let out : SinkSeen = g.S.Sink.seen c.put.new.self in
    let shows = rw c.in-Err-Failed.field-0-is at c.in-Err-Failed.ensures.shows in
    let made = rw c.in-Ok-true.field-0-test at c.in-Ok-true.ensures.steps h.printed h.made in
    let put = front_put _ _ _ _ _ s.ran s.lacked front _ _ _ _ _ _ h c.step.new.self c.step.ensures.stays made.0 c.step.new.lines.items made.1 made.2 out shows.1.0 shows.1.1
    (rw c.as_slice.ensures.value at shows.1.2) shows.1.3 in
    (put.0, put.1, rose_first _ _ _ _ _ s.ran s.lacked front _ _ _ _ _ _ h out.faults shows.0, put.2)

pub returns-in-Err-Memory-put : goal.returns-in-Err-Memory-put
returns-in-Err-Memory-put g c =
    let s = g.R.Simulation in
    let h = c.loop.invariant in
    let out : SinkSeen = g.S.Sink.seen c.put.new.self in
    let shows = rw c.in-Err-Memory-put.field-0-is at c.in-Err-Memory-put.ensures.shows in
    let made = rw c.in-Ok-true.field-0-test at c.in-Ok-true.ensures.steps h.printed h.made in
    front_put _ _ _ _ _ s.ran s.lacked (g.met.R.Simulation.made_front c.args.trace.now) _ _ _ _ _ _ h c.step.new.self c.step.ensures.stays made.0 c.step.new.lines.items made.1 made.2 out [] c.step.new.lines.items refl
    shows.0

pub returns-in-Ok-false : goal.returns-in-Ok-false
returns-in-Ok-false g c =
    let s = g.R.Simulation in
    let h = c.loop.invariant in
    let ran = rw c.in-Ok-false.field-0-test at c.in-Ok-false.ensures.steps h.printed h.made in
    all_run _ _ _ _ _ s.ran s.lacked (g.met.R.Simulation.made_front c.args.trace.now) _ _ _ _ _ _ h _ c.step.new.lines.items _ ran.0 ran.1
    (rw c.as_slice-in-Ok-false.ensures.value at c.put_rest.ensures)

pub returns-in-Err-Fault : goal.returns-in-Err-Fault
returns-in-Err-Fault g c =
    let s = g.R.Simulation in
    let h = c.loop.invariant in
    let steps = rw c.in-Err-Fault.field-0-is at c.in-Err-Fault.ensures.steps h.printed h.made in
    stopped _ _ _ _ _ s.ran s.lacked (g.met.R.Simulation.made_front c.args.trace.now) _ _ _ _ _ _ h (s.has_made c.args.trace.now c.step.new.self) _ _ c.step.new.lines.items _ steps
    (rw (c.as_slice-in-Err-Fault.ensures.value, c.finish_of.ensures, c.in-Err-Fault.stop-is) at c.put_rest-in-Err-Fault.ensures)

pub returns-in-Err-Memory : goal.returns-in-Err-Memory
returns-in-Err-Memory g c =
    let s = g.R.Simulation in
    let h = c.loop.invariant in
    let same = rw c.in-Err-Memory.field-0-is at c.in-Err-Memory.ensures.steps h.printed h.made in
    memory_put _ _ _ _ _ s.ran s.lacked (g.met.R.Simulation.made_front c.args.trace.now) _ _ _ _ _ _ h _ c.step.new.lines.items _ same
    (rw c.as_slice-in-Err-Memory.ensures.value at c.put_rest-in-Err-Memory.ensures)

pub loop-preserved : goal.loop-preserved
loop-preserved g c =
    let s = g.R.Simulation in
    let h = c.loop.invariant in
    let front = g.met.R.Simulation.made_front c.args.trace.now in
    let made = rw c.in-Ok-true.field-0-test at c.in-Ok-true.ensures.steps h.printed h.made in
    let later = rw c.in-Ok-true.field-0-test at c.in-Ok-true.ensures.later refl in
    elim c.if-len-ge-GATHERED.branch [
      | then-len-ge-GATHERED+in-Ok w ↦
          rw (w.out-is, w.lines-is)
          (all_put _ _ _ _ _ s.ran s.lacked front _ _ _ _ _ _ h c.step.new.self c.step.ensures.stays made.0 c.step.new.lines.items made.1 made.2 c.step.ensures.ready later
          (g.S.Sink.seen w.put.new.self) _ w.clear.ensures.items (rw w.as_slice.ensures.value at w.in-Ok.ensures.shows.0) w.in-Ok.ensures.shows.1)
      | else-len-ge-GATHERED w ↦
          rw (w.out-is, w.lines-is)
          (more_gathered _ _ _ _ _ s.ran s.lacked front _ _ _ _ _ _ h c.step.new.self c.step.ensures.stays made.0 c.step.new.lines.items made.1 made.2 c.step.ensures.ready later)
    ]

pub unreachable-requires : goal.unreachable-requires
unreachable-requires g c =
    let far = c.loop.invariant.far in
    let place = g.met.R.Simulation.is_within c.args.trace.now c.loop.simulation c.loop.invariant.ready in
    omega arith
