-- What a call finds of faults in the order of the text: the first one.
use Rattle.std.specs.Prelude.{◌≡◌, ◌⊎◌, List, [], Option, Some, None, Result, Ok, Err}
use Rattle.fir_base.specs.declared.refused.Refused.{Refused}
use Rattle.fir_base.specs.declared.refused.Refused.TheVariants.{Fault, Memory}
use Rattle.ver_fault.specs.declared.fault.VerFault.{VerFault}
use Rattle.ver_fault.specs.Faults.{VFault}
use Rattle.ver_fault.specs.View.{vfault_of}
use Rattle.ver_check.specs.TreeFaults.{BeginsWith}

-- none of none
abbrev pub IsFirst : Option VerFault → List VFault → Type 0
IsFirst None fs = fs ≡ []
IsFirst (Some f) fs = BeginsWith fs (vfault_of f)

abbrev pub IsRefusedFor : Refused VerFault → List VFault → Type 0
IsRefusedFor (Fault f) fs = BeginsWith fs (vfault_of f)
IsRefusedFor Memory fs = Unit {0}

-- an answer where there is no fault; else the first; where memory is wanting it says nothing
abbrev pub Finds : {T : Type 0} → Result T (Refused VerFault) → List VFault → Type 0
Finds (Ok x) fs = fs ≡ []
Finds (Err e) fs = IsRefusedFor e fs

-- of two kinds of faults the second ones count where there is none of the first
abbrev pub IsRefusedForElse : Refused VerFault → List VFault → List VFault → Type 0
IsRefusedForElse (Fault f) fs gs = BeginsWith fs (vfault_of f) ⊎ ((fs ≡ []) × BeginsWith gs (vfault_of f))
IsRefusedForElse Memory fs gs = Unit {0}

abbrev pub FindsElse : {T : Type 0} → Result T (Refused VerFault) → List VFault → List VFault → Type 0
FindsElse (Ok x) fs gs = (fs ≡ []) × (gs ≡ [])
FindsElse (Err e) fs gs = IsRefusedForElse e fs gs
