use Rattle.std.proofs.Common.{◌≡◌, ◌++◌, flat_map, take}
use Rattle.ver_emit.specs.Layout.{next_port_text}
use Rattle.ver_emit.proofs.writer.put_next_ports.Given as goal

abbrev pub invariant-loop-port : goal.invariant-loop-port
invariant-loop-port l = l.out.items ≡ l.initial.out.items ++ flat_map next_port_text (take l.port-index l.ports)
