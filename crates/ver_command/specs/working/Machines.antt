-- What a text is read as for its simulation.
use Rattle.std.specs.Prelude.{◌≡◌, ℕ, List, Result, Ok, Err, Vec}
use Rattle.std.specs.declared.alloc.Global.{Global}
use Rattle.fir_base.specs.declared.refused.Refused.{Refused}
use Rattle.fir_base.specs.declared.refused.Refused.TheVariants as refused
use Rattle.ver_fault.specs.declared.fault.VerFault.{VerFault}
use Rattle.ver_fault.specs.Faults.{vfault_line}
use Rattle.ver_fault.specs.View.{vfault_of}
use Rattle.ver_read.specs.Reads.{IsTextOf}
use Rattle.ver_sim.specs.TraceShapes.{trace_shape}
use Rattle.ver_command.specs.declared.machine.Machine.{Machine}
use Rattle.ver_command.specs.Vsim.{VRefuses}

-- the tree of the text, and the shape of its traces
pub record IsMadeOf (text : List ℕ) (m : Machine) : Type 0 where
  pub taken : IsTextOf text m.tree
  pub shaped : m.shape ≡ trace_shape m.tree

abbrev pub IsMachineOf : List ℕ → Result Machine (Refused (Vec ℕ Global)) → Type 0
IsMachineOf text (Ok m) = IsMadeOf text m
IsMachineOf text (Err (refused.Fault line)) = VRefuses text line.items
IsMachineOf text (Err refused.Memory) = Unit {0}

-- the line of the fault, unless memory ran out
abbrev pub IsLineOf : VerFault → Refused (Vec ℕ Global) → Type 0
IsLineOf fault (refused.Fault line) = line.items ≡ vfault_line (vfault_of fault)
IsLineOf fault refused.Memory = Unit {0}
