-- A closed walk of dependence stands in a flat net exactly where it stands in its circuit (FIRRTL spec, "Connects", "Last Connect Semantics"): what a leaf
-- depends on in the circuit it hangs on in the net, through nodes alone, and nothing else. The net tells a leaf by the same path and place.
use Rattle.std.specs.Prelude.{◌≡◌, ◌↔◌, ℕ, List, slice_get, Some}
use Rattle.fir_ast.specs.declared.fault.FirFault.{FirFault}
use Rattle.fir_ast.specs.Faults.{Fault}
use Rattle.fir_ast.specs.working.CodeFaults.{fault_of}
use Rattle.fir_meaning.specs.working.LeafCircuits.{LeafCircuit}
use Rattle.fir_meaning.specs.working.LeafNames.{path_of_leaf, place_of_leaf}
use Rattle.fir_meaning.specs.working.LoopFaults.{ShowsLoop}
use Rattle.fir_net.specs.declared.leaf.Leaf.{Leaf}
use Rattle.fir_net.specs.declared.net.FlatNet.{FlatNet}
use Rattle.fir_net.specs.working.IsNet.{IsNet}
use Rattle.fir_loop.specs.working.IsLoop.{IsLoop}
use Rattle.fir_loop.specs.working.IsLoop as in_net
use Rattle.fir_flat.specs.working.FlatCircuits.{IsFlatOf}

-- the leaves of the net are named and placed as those of the circuit
pub record IsNamedAs (c : LeafCircuit) (net : FlatNet) : Type 0 where
  pub paths : (x : ℕ) (l : Leaf) → slice_get net.leaves x ≡ Some l → l.path ≡ path_of_leaf c x
  pub places : (x : ℕ) (l : Leaf) → slice_get net.leaves x ≡ Some l → l.place ≡ place_of_leaf c x

-- a fault of the net tells a closed walk in these words
abbrev pub ShowsLoopAs : FlatNet → Fault → Type 0
ShowsLoopAs net f = (g : FirFault) × in_net.ShowsLoop net g × (f ≡ fault_of g)

-- a closed walk of dependence stands in the net exactly where it stands in the circuit, and tells the same fault
abbrev pub ShowsTheSameLoops : Type 0
ShowsTheSameLoops =
    (c : LeafCircuit) (net : FlatNet) (f : Fault) → IsNet net → IsFlatOf c net → IsNamedAs c net → ShowsLoopAs net f ↔ ShowsLoop c f

-- and a net without closed walks is that of a circuit without
abbrev pub HidesNoLoop : Type 0
HidesNoLoop =
    (c : LeafCircuit) (net : FlatNet) → IsNet net → IsFlatOf c net → ((walk : List ℕ) → IsLoop net walk → ⊥) → (f : Fault) → ShowsLoop c f → ⊥
