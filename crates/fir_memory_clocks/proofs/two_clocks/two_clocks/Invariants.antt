use Rattle.std.proofs.Common.{take}
use Rattle.fir_memory_clocks.specs.working.PortClocks.{HasRootIn}
use Rattle.fir_memory_clocks.proofs.PortSearch.{IsFound}
use Rattle.fir_memory_clocks.proofs.two_clocks.two_clocks.Given as goal

abbrev pub invariant-loop-port : goal.invariant-loop-port
invariant-loop-port l = IsFound (HasRootIn l.roots) (take l.port-index l.ports) l.first
