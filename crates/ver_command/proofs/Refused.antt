-- A text that is refused for a fault, whose line is made.
use Rattle.std.proofs.Common.{ℕ, List, Err}
use Rattle.std.specs.Prelude.{Vec}
use Rattle.std.specs.declared.alloc.Global.{Global}
use Rattle.fir_base.specs.declared.refused.Refused.{Refused}
use Rattle.fir_base.specs.declared.refused.Refused.TheVariants as refusal
use Rattle.ver_fault.specs.declared.fault.VerFault.{VerFault}
use Rattle.ver_fault.specs.View.{vfault_of}
use Rattle.ver_read.specs.Reads.{IsFaultOf}
use Rattle.ver_command.specs.working.Machines.{IsLineOf, IsMachineOf}

pub refused : (text : List ℕ) (f : VerFault) (r : Refused (Vec ℕ Global)) → IsFaultOf text (vfault_of f) → IsLineOf f r → IsMachineOf text (Err r)
refused text f (refusal.Fault line) why is = (vfault_of f, why, is)
refused text f refusal.Memory why is = tt
