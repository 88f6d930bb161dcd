-- A flat net means what its circuit means.
use Rattle.std.specs.Prelude.{◌↔◌, ℕ, List, Option}
use Rattle.fir_base.specs.Ticks.{Tick}
use Rattle.fir_meaning.specs.working.UndrivenLeaves.{AreDriven}
use Rattle.fir_meaning.specs.working.LeafAllows as leafed
use Rattle.fir_meaning.specs.working.LeafCircuits.{LeafCircuit}
use Rattle.fir_leaf_types.specs.working.TypedModules.{IsModuleTyped}
use Rattle.fir_memory_types.specs.working.TypedMemories.{AreMemoriesTyped}
use Rattle.fir_net.specs.declared.net.FlatNet.{FlatNet}
use Rattle.fir_net.specs.working.Allows.{Allows}
use Rattle.fir_net.specs.working.IsNet.{IsNet}
use Rattle.fir_net.specs.working.One.{One}
use Rattle.fir_connect.specs.working.CircuitModules.{as_module}
use Rattle.fir_flat.specs.working.FlatCircuits.{IsFlatOf}

-- a whole net of a circuit that has types, also of its memories, and in which each leaf is driven that statements must drive
pub record IsFaithful (c : LeafCircuit) (net : FlatNet) : Type 0 where
  pub whole : IsNet net
  pub flat : IsFlatOf c net
  pub typed : IsModuleTyped (as_module c)
  pub memories : AreMemoriesTyped c.leaves c.arrays
  pub driven : AreDriven (as_module c)

abbrev pub AllowsTheSame : Type 0
AllowsTheSame =
    (c : LeafCircuit) (net : FlatNet) → IsFaithful c net → (state : List ℕ) (tick : Tick) (shown : List ℕ) (clocks : List (Option ℕ)) (after : List ℕ)
    → leafed.Allows c state tick shown clocks after ↔ Allows net state tick shown clocks after

abbrev pub HasOneWhere : Type 0
HasOneWhere = (c : LeafCircuit) (net : FlatNet) → IsFaithful c net → leafed.One c ↔ One net
