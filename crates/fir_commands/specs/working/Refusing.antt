-- By which line a text is refused.
use Rattle.std.specs.Prelude.{◌≡◌, ℕ, Vec}
use Rattle.std.specs.declared.alloc.Global.{Global}
use Rattle.fir_base.specs.declared.refused.Refused.{Refused}
use Rattle.fir_base.specs.declared.refused.Refused.TheVariants as refused
use Rattle.fir_ast.specs.Faults.{Fault, fault_line}

-- that of the fault, unless memory ran out
abbrev pub IsRefusal : Fault → Refused (Vec ℕ Global) → Type 0
IsRefusal fault (refused.Fault line) = line.items ≡ fault_line fault
IsRefusal fault refused.Memory = Unit {0}
