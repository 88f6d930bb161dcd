-- The leaves, the arrays and the instances of a module stand in the order of its declarations (FIRRTL spec, "Instances", "Memories").
use Rattle.std.specs.Prelude.{◌≡◌, ℕ, suc, ◌<◌, ◌≤◌, List, [], ◌∷◌, ◌++◌, false, length}
use Rattle.fir_base.specs.Lists.{In}
use Rattle.fir_meaning.specs.working.LeafBlocks.{HeldInstance, LeafBlock, LeafStatement, done, drive, instance, then, when}
use Rattle.fir_meaning.specs.working.LeafModules.{LeafModule, leaf_at, role_at}
use Rattle.fir_meaning.specs.working.StateWalks.{is_state}
use Rattle.fir_leaf.specs.working.DesignStates.{array_at}

-- the instances of a block, in the order of the text
abbrev mutual
  pub instances_in : LeafStatement → List HeldInstance
  instances_in (drive p b ps t) = []
  instances_in (when p c a b) = instances_of a ++ instances_of b
  instances_in (instance i) = i ∷ []

  pub instances_of : LeafBlock → List HeldInstance
  instances_of done = []
  instances_of ((then) s b) = instances_in s ++ instances_of b

-- the leaves of what is declared before an instance stand before its own, no leaf of its own shows state, and it has no array
pub record StandsInOrder (m : LeafModule) (i : HeldInstance) : Type 0 where
  pub declared : i.declaration < length m.declared
  pub within : i.first ≤ length m.leaves
  pub before : (x : ℕ) → x < i.first → (leaf_at m.leaves x).declaration < i.declaration
  pub behind : (x : ℕ) → i.first ≤ x → x < length m.leaves → i.declaration ≤ (leaf_at m.leaves x).declaration
  pub no_state : (x : ℕ) → x < length m.leaves → (leaf_at m.leaves x).declaration ≡ i.declaration → is_state (role_at m x) ≡ false
  pub no_array : (x : ℕ) → x < length m.arrays → (array_at m.arrays x).declaration ≡ i.declaration → ⊥

-- each instance is declared behind those before it
abbrev pub AreDeclaredBehind : ℕ → List HeldInstance → Type 0
AreDeclaredBehind from [] = Unit {0}
AreDeclaredBehind from (i ∷ is) = (from ≤ i.declaration) × AreDeclaredBehind (suc i.declaration) is

pub record IsOrdered (m : LeafModule) : Type 0 where
  pub ports : m.port_leaves ≤ length m.leaves
  pub rise : (x y : ℕ) → x ≤ y → y < length m.leaves → (leaf_at m.leaves x).declaration ≤ (leaf_at m.leaves y).declaration
  pub declared : (x : ℕ) → x < length m.leaves → (leaf_at m.leaves x).declaration < length m.declared
  pub arrays_rise : (x y : ℕ) → x ≤ y → y < length m.arrays → (array_at m.arrays x).declaration ≤ (array_at m.arrays y).declaration
  pub arrays_declared : (x : ℕ) → x < length m.arrays → (array_at m.arrays x).declaration < length m.declared
  pub instances : (i : HeldInstance) → In (instances_of m.body) i → StandsInOrder m i
  pub in_turn : AreDeclaredBehind 0 (instances_of m.body)
