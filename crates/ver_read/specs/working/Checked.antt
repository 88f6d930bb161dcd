-- What comes of reading a text, and of looking its tree through for faults.
use Rattle.std.specs.Prelude.{◌≡◌, ℕ, List, [], Result, Ok, Err}
use Rattle.fir_base.specs.declared.refused.Refused.{Refused}
use Rattle.fir_base.specs.declared.refused.Refused.TheVariants.{Fault, Memory}
use Rattle.ver_ast.specs.declared.tree.Verilog.{Verilog}
use Rattle.ver_ast.specs.Processes.{Process}
use Rattle.ver_ast.specs.Valid.{IsOrder}
use Rattle.ver_fault.specs.declared.fault.VerFault.{VerFault}
use Rattle.ver_fault.specs.View.{vfault_of}
use Rattle.ver_check.specs.TreeFaults.{misfits, undriven}
use Rattle.ver_read.specs.Reads.{IsFaultOf, IsTextOf, IsTreeFault}

-- the tree of the text, or its first fault
abbrev pub Reads : List ℕ → Result Verilog (Refused VerFault) → Type 0
Reads bytes (Ok v) = IsTextOf bytes v
Reads bytes (Err (Fault f)) = IsFaultOf bytes (vfault_of f)
Reads bytes (Err Memory) = Unit {0}

-- a tree without a fault, and an order of its processes; or its first fault
abbrev pub TreeChecked : Verilog → Result Unit (Refused VerFault) → Type 0
TreeChecked v (Ok x) = (misfits v ≡ []) × (undriven v ≡ []) × ((order : List Process) × IsOrder v order)
TreeChecked v (Err (Fault f)) = IsTreeFault v (vfault_of f)
TreeChecked v (Err Memory) = Unit {0}
