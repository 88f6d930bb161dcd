use Rattle.std.proofs.Common.{◌≡◌, take}
use Rattle.trace_text.specs.Shapes.{state_widths}
use Rattle.ver_runner.specs.working.Rooms.{widths}
use Rattle.ver_runner.proofs.shown.state_room.Given as goal

abbrev pub invariant-loop-word : goal.invariant-loop-word
invariant-loop-word l = widths l.room.items ≡ state_widths (take l.word-index l.word-items)
