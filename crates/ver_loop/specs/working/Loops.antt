-- What comes of looking for a closed walk.
use Rattle.std.specs.Prelude.{List, Result, Ok, Err}
use Rattle.fir_base.specs.declared.refused.Refused.{Refused}
use Rattle.fir_base.specs.declared.refused.Refused.TheVariants.{Fault, Memory}
use Rattle.ver_ast.specs.declared.tree.Verilog.{Verilog}
use Rattle.ver_ast.specs.Processes.{Process, processes}
use Rattle.ver_ast.specs.Valid.{IsOrder}
use Rattle.ver_fault.specs.declared.fault.VerFault.{VerFault}
use Rattle.ver_fault.specs.View.{vfault_of}
use Rattle.ver_loop.specs.Loops.{ShowsLoop}

-- some order of the processes, or a closed walk; where memory is wanting it says nothing
abbrev pub LoopsChecked : Verilog → Result (Unit {0}) (Refused VerFault) → Type 0
LoopsChecked v (Ok x) = (order : List Process) × IsOrder v order
LoopsChecked v (Err (Fault f)) = ShowsLoop v (vfault_of f)
LoopsChecked v (Err Memory) = Unit {0}
