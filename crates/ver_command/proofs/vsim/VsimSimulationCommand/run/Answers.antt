use Rattle.std.proofs.Common.{ap, ◌∙◌, inl, subst}
use Rattle.trace_text.specs.Shapes.{plain}
use Rattle.trace_lines.specs.working.Lined.{Lined}
use Rattle.trace_lines.proofs.Kept.{kept_same}
use Rattle.trace_command.proofs.LinedTicks.{lined_ticks, init_bad}
use Rattle.ver_sim.proofs.TraceWidths.{plain_shape}
use Rattle.ver_runner.specs.working.Running.{Lacked, Ran, Simulated}
use Rattle.ver_runner.proofs.Starts.{none_ran}
use Rattle.ver_command.specs.Vsim.{vsim_meaning}
use Rattle.ver_command.proofs.Printed.{lacks, prints}
use Rattle.ver_command.proofs.VsimRan.{told_badly}
use Rattle.ver_command.proofs.vsim.VsimSimulationCommand.run.Goals as goal

pub new-requires-clause-valid : goal.new-requires-clause-valid
new-requires-clause-valid g c = c.requires.1.taken.valid

pub new-requires-clause-of_tree : goal.new-requires-clause-of_tree
new-requires-clause-of_tree g c = ap plain c.requires.1.shaped ∙ plain_shape c.args.machine.tree

pub returns-in-Ok : goal.returns-in-Ok
returns-in-Ok g c text made =
    let m = c.args.machine in
    let trace = c.args.trace.now in
    let s : Simulated = record { tree = m.tree; order = c.args.self.now.order; with_state = c.args.self.now.with_state; shape = m.shape } in
    lined_ticks (vsim_meaning s.with_state s.order) text trace (Ran s) (Lacked s) (prints c.spells_one_tree.ensures text m made s.with_state s.order)
    (told_badly s.tree s.order s.with_state s.shape trace) (lacks c.spells_one_tree.ensures text m made s.with_state s.order trace) (g.S.Sink.seen c.args.out.now) _ _
    (subst (λ x. Lined trace (Ran x) (Lacked x) (g.S.Sink.seen c.args.out.now) (g.S.Sink.seen c.put_lines.new.out) c.put_lines.result) c.in-Ok.ensures.1 c.put_lines.ensures)

pub returns-in-Err-Fault : goal.returns-in-Err-Fault
returns-in-Err-Fault g c text made =
    let m = c.args.machine in
    let trace = c.args.trace.now in
    let s : Simulated = record { tree = m.tree; order = c.args.self.now.order; with_state = c.args.self.now.with_state; shape = m.shape } in
    let bad = rw c.in-Err-Fault.field-0-is at c.in-Err-Fault.ensures in
    rw c.in-Err-Fault.fault-is
    (init_bad (vsim_meaning s.with_state s.order) text trace (Ran s) (Lacked s) (prints c.spells_one_tree.ensures text m made s.with_state s.order)
    (told_badly s.tree s.order s.with_state s.shape trace) (lacks c.spells_one_tree.ensures text m made s.with_state s.order trace) (g.S.Sink.seen c.args.out.now) s.shape bad.0
    c.in-Err-Fault.fault (none_ran s.tree made.taken.valid s.order s.with_state s.shape bad.0) bad.1)

pub returns-in-Err-Memory : goal.returns-in-Err-Memory
returns-in-Err-Memory g c text is = inl (kept_same (g.S.Sink.seen c.args.out.now))
