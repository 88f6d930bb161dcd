-- The ports of a Verilog tree, beside the rows of a net (IEEE 1364-2005, 12.3).
use Rattle.std.specs.Prelude.{ℕ, List, map, if◌then◌else◌}
use Rattle.ver_words.specs.declared.signal.Signal.{Signal}
use Rattle.ver_words.specs.declared.signal.Signal.TheVariants.{Bits, Clock}
use Rattle.fir_net.specs.Rows.{PortKind}
use Rattle.ver_ast.specs.declared.tree.Port.{Port}
use Rattle.ver_ast.specs.declared.tree.Verilog.{Verilog}

abbrev pub port_signal : Port → Signal
port_signal p = if p.is_clock then Clock else Bits p.width

abbrev pub port_kinds : Verilog → List PortKind
port_kinds v = map (λ p. (p.direction, port_signal p)) v.ports

abbrev pub port_names : Verilog → List (List ℕ)
port_names v = map (λ p. p.name) v.ports
