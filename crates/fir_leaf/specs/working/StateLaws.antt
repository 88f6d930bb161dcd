-- Laws of the order of a design's state: nothing that shows state is left out of it, and nothing stands in it twice (FIRRTL spec, "Registers", "Memories").
use Rattle.std.specs.Prelude.{◌≡◌, ℕ, ◌<◌, ◌≤◌, List, map, length, true, false}
use Rattle.fir_base.specs.Lists.{In, Distinct}
use Rattle.fir_meaning.specs.working.LeafModules.{LeafModule, leaf_at}
use Rattle.fir_meaning.specs.ModuleScenes.{Scene}
use Rattle.fir_meaning.specs.working.LeafedModules.{leafed_module}
use Rattle.fir_meaning.specs.working.LeafCircuits.{LeafCircuit, role_of}
use Rattle.fir_meaning.specs.working.Designs.{IsDesignOf, Item, drive, when, instance, Items, done, then, Design, made_of}
use Rattle.fir_leaf.specs.working.DesignStates.{array_at}
use Rattle.fir_meaning.specs.LeafTypes.{has_bits}
use Rattle.fir_meaning.specs.working.StateWalks.{is_state}
use Rattle.fir_meaning.specs.working.Flattened.{flattened}
use Rattle.fir_leaf.specs.working.NamedDesigns.{IsNamed}

-- the main module has the leaves of its ports
abbrev pub HasPorts : Design → Type 0
HasPorts (made_of m is) = m.port_leaves ≤ length m.leaves

-- no leaf that shows state and has bits is left out of the words, where each leaf is of a declaration
abbrev pub WordsAreAll : Type 0
WordsAreAll =
    (d : Design) → HasPorts d → IsNamed d → (x : ℕ) → x < length (flattened d).leaves → is_state (role_of (flattened d) x) ≡ true
    → has_bits (leaf_at (flattened d).leaves x).holds ≡ true → In (flattened d).words x

-- and no array
abbrev pub ArraysAreAll : Type 0
ArraysAreAll =
    (d : Design) → IsNamed d → (x : ℕ) → x < length (flattened d).arrays → has_bits (array_at (flattened d).arrays x).holds ≡ true
    → In (flattened d).array_order x

-- P of the module of each instance, and of the main module
abbrev mutual
  pub EachInItem : (LeafModule → Type 0) → Item → Type 0
  EachInItem P (drive p b ps t) = Unit {0}
  EachInItem P (when p c a b) = EachInItems P a × EachInItems P b
  EachInItem P (instance i d) = EachModule P d

  pub EachInItems : (LeafModule → Type 0) → Items → Type 0
  EachInItems P done = Unit {0}
  EachInItems P ((then) i is) = EachInItem P i × EachInItems P is

  pub EachModule : (LeafModule → Type 0) → Design → Type 0
  EachModule P (made_of m is) = P m × EachInItems P is

-- no leaf of a port shows state
pub record PortsShowNone (m : LeafModule) : Type 0 where
  pub each : (x : ℕ) → x < m.port_leaves → is_state (leaf_at m.leaves x).role ≡ false

abbrev pub WordsStandOnce : Type 0
WordsStandOnce = (d : Design) → EachModule PortsShowNone d → Distinct (flattened d).words

abbrev pub ArraysStandOnce : Type 0
ArraysStandOnce = (d : Design) → Distinct (flattened d).array_order

-- what stands in it shows state and has bits
pub record IsWordOf (c : LeafCircuit) (x : ℕ) : Type 0 where
  pub within : x < length c.leaves
  pub shows : is_state (role_of c x) ≡ true
  pub bits : has_bits (leaf_at c.leaves x).holds ≡ true

abbrev pub WordsShowState : Type 0
WordsShowState = (d : Design) → HasPorts d → EachModule PortsShowNone d → (x : ℕ) → In (flattened d).words x → IsWordOf (flattened d) x

pub record IsArrayOf (c : LeafCircuit) (x : ℕ) : Type 0 where
  pub within : x < length c.arrays
  pub bits : has_bits (array_at c.arrays x).holds ≡ true

abbrev pub ArraysHaveBits : Type 0
ArraysHaveBits = (d : Design) → (x : ℕ) → In (flattened d).array_order x → IsArrayOf (flattened d) x

-- leafed modules are so: their ports show no state, and stand in front
abbrev pub LeafedPortsShowNone : Type 0
LeafedPortsShowNone =
    (scenes : List Scene) (s : Scene) (d : Design) → IsDesignOf (map leafed_module scenes) (leafed_module s) d → HasPorts d × EachModule PortsShowNone d
