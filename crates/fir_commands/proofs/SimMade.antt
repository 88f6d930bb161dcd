-- What `sim` makes of a text, or the line that refuses it.
use Rattle.std.proofs.Common.{ℕ, List, Bool, Err}
use Rattle.std.specs.Prelude.{Vec}
use Rattle.std.specs.declared.alloc.Global.{Global}
use Rattle.fir_base.specs.declared.refused.Refused.{Refused}
use Rattle.fir_base.specs.declared.refused.Refused.TheVariants as refused
use Rattle.fir_ast.specs.Faults.{Fault}
use Rattle.trace_command.specs.working.SimulationEndings.{IsMachineFor}
use Rattle.fir_outcome.specs.Refusals.{RefusedFor}
use Rattle.fir_commands.specs.Sim.{sim_meaning}
use Rattle.fir_commands.specs.working.Refusing.{IsRefusal}
use Rattle.fir_commands.specs.working.SimNets.{IsNetOf}

pub not_made : (with_state : Bool) (text : List ℕ) (f : Fault) (r : Refused (Vec ℕ Global)) → RefusedFor text f → IsRefusal f r
    → IsMachineFor (sim_meaning with_state) IsNetOf text (Err r)
not_made with_state text f (refused.Fault line) why is = (f, why, is)
not_made with_state text f refused.Memory why is = tt
