-- The law about closed walks.
use Rattle.std.specs.Prelude.{◌≡◌, List, []}
use Rattle.ver_ast.specs.declared.tree.Verilog.{Verilog}
use Rattle.ver_ast.specs.Processes.{Process}
use Rattle.ver_ast.specs.Valid.{IsOrder}
use Rattle.ver_fault.specs.Faults.{VFault}
use Rattle.ver_check.specs.TreeFaults.{misfits, undriven}
use Rattle.ver_loop.specs.Loops.{ShowsLoop}

-- a tree without another fault that has a closed walk has no order of its processes
abbrev pub LoopsHaveNoOrder : Type 0
LoopsHaveNoOrder = (v : Verilog) → misfits v ≡ [] → undriven v ≡ [] → (f : VFault) → ShowsLoop v f → (order : List Process) → IsOrder v order → ⊥
