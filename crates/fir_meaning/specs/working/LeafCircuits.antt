-- The whole design below a main module as one list of leaves and one body (FIRRTL spec, "Instances", "Registers", "Memories").
-- The leaves of the main module's ports stand in front. A leaf's path begins with the names of the instances in which it is declared.
use Rattle.std.specs.Prelude.{ℕ, List}
use Rattle.fir_bits.specs.declared.types.NumTy.{NumTy}
use Rattle.fir_meaning.specs.working.LeafBlocks.{LeafBlock}
use Rattle.fir_meaning.specs.working.LeafModules.{LeafArray, LeafDeclared, Role, leaf_at}
use Rattle.fir_meaning.specs.LeafTypes.{number_type}

-- the leaves of inputs and outputs in the order of the ports, those that are clocks apart; the words of the state, which are the leaves of registers and
-- pipes, and the arrays, by their numbers in the order of the state. Leaves of no bits are in no list.
pub record LeafCircuit : Type 0 where
  pub leaves : List LeafDeclared
  pub body : LeafBlock
  pub inputs : List ℕ
  pub clock_inputs : List ℕ
  pub outputs : List ℕ
  pub clock_outputs : List ℕ
  pub words : List ℕ
  pub arrays : List LeafArray
  pub array_order : List ℕ

abbrev pub role_of : LeafCircuit → ℕ → Role
role_of c x = (leaf_at c.leaves x).role

abbrev pub depth_of : LeafCircuit → ℕ → ℕ
depth_of c x = (leaf_at c.leaves x).depth

abbrev pub type_of_leaf : LeafCircuit → ℕ → NumTy
type_of_leaf c x = number_type (leaf_at c.leaves x).holds
