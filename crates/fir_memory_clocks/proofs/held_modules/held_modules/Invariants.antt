use Rattle.std.proofs.Common.{take}
use Rattle.fir_memory_clocks.specs.working.HeldModules.{AreHeld}
use Rattle.fir_memory_clocks.proofs.held_modules.held_modules.Given as goal

abbrev pub invariant-loop-copy : goal.invariant-loop-copy
invariant-loop-copy l = AreHeld l.count (take l.copy-index l.copies) l.held.items
