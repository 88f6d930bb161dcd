-- An init that is no constant stands in a flat net exactly where it stands in its circuit (FIRRTL spec, "Registers"), and the net tells the same fault: what gives
-- a register with an asynchronous reset its init reaches, along the walks of the circuit, an input or a leaf that shows state.
use Rattle.std.specs.Prelude.{◌≡◌, ◌↔◌}
use Rattle.fir_ast.specs.declared.fault.FirFault.{FirFault}
use Rattle.fir_ast.specs.Faults.{Fault}
use Rattle.fir_ast.specs.working.CodeFaults.{fault_of}
use Rattle.fir_meaning.specs.working.LeafCircuits.{LeafCircuit}
use Rattle.fir_leaf.specs.working.InitFaults.{ShowsAsyncInit}
use Rattle.fir_net.specs.declared.net.FlatNet.{FlatNet}
use Rattle.fir_net.specs.working.IsNet.{IsNet}
use Rattle.fir_net.specs.working.IsWritable.{HasConstantInits}
use Rattle.fir_inits.specs.working.ShowsInit.{ShowsInit}
use Rattle.fir_flat.specs.working.FlatCircuits.{IsFlatOf}
use Rattle.fir_flat.specs.working.FlatLoops.{IsNamedAs}

-- a fault of the net tells such an init in these words
abbrev pub ShowsInitAs : FlatNet → Fault → Type 0
ShowsInitAs net f = (g : FirFault) × ShowsInit net g × (f ≡ fault_of g)

abbrev pub ShowsTheSameInits : Type 0
ShowsTheSameInits =
    (c : LeafCircuit) (net : FlatNet) (f : Fault) → IsNet net → IsFlatOf c net → IsNamedAs c net → ShowsInitAs net f ↔ ShowsAsyncInit c f

-- and a net whose inits are constants is that of a circuit that shows no such fault
abbrev pub HidesNoInit : Type 0
HidesNoInit = (c : LeafCircuit) (net : FlatNet) → IsNet net → IsFlatOf c net → HasConstantInits net → (f : Fault) → ShowsAsyncInit c f → ⊥
