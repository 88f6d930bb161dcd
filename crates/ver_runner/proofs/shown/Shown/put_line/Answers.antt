use Rattle.ver_ast.specs.Nets.{shape}
use Rattle.ver_sim.specs.working.Views.{shown_outputs}
use Rattle.ver_runner.specs.VerilogLines.{output_widths}
use Rattle.ver_runner.proofs.Rooms.{room_kept}
use Rattle.ver_runner.proofs.shown.Shown.put_line.Goals as goal
use Rattle.ver_runner.proofs.shown.Shown.put_line.Goals.{then-self, else-self}

pub returns-clause-room : goal.returns-clause-room
returns-clause-room c =
    let v = c.args.sim.now.tree in
    let outputs = room_kept c.args.self.now.outputs.items c.fill.new.room.items (output_widths v) (shown_outputs c.args.sim.now) c.outputs.result.now c.requires.room.outputs c.requires.fit.outputs
    c.outputs.ensures c.fill.ensures in
    elim c.if-self.branch [
      | then-self w ↦
          rw w.self-is
          (record {
            outputs = outputs;
            state = λ e. room_kept c.args.self.now.state.items w.fill-then-self.new.room.items (shape v).state c.args.sim.now.state w.state.result.now (c.requires.room.state e)
                c.requires.fit.state w.state.ensures w.fill-then-self.ensures;
          })
      | else-self w ↦ rw w.self-is (record { outputs = outputs; state = c.requires.room.state })
    ]
