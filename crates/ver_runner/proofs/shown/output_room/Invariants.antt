use Rattle.std.proofs.Common.{◌≡◌, ◌++◌, flat_map, drop}
use Rattle.ver_ast.specs.Nets.{output_net, widths_of}
use Rattle.ver_runner.specs.VerilogLines.{output_widths}
use Rattle.ver_runner.specs.working.Rooms.{widths}
use Rattle.ver_runner.proofs.shown.output_room.Given as goal

abbrev pub invariant-loop-port : goal.invariant-loop-port
invariant-loop-port l = widths l.room.items ++ widths_of (flat_map (λ p. output_net p.direction p) (drop l.port-index l.port-items)) ≡ output_widths l.v
