-- The leaves of a module, and what it holds (FIRRTL spec, "Ports", "Wires", "Registers", "Nodes", "Instances", "Memories").
-- Of each leaf: where it stands, which declaration it is of, its path, what it holds, how many whens stand round its declaration, and what gives it its value.
use Rattle.std.specs.Prelude.{ℕ, List, [], Bool, true, false, Option, slice_index_or}
use Rattle.fir_ast.specs.declared.place.Place.{Place}
use Rattle.fir_ast.specs.declared.statements.ReadUnderWrite.{ReadUnderWrite}
use Rattle.fir_ast.specs.Statements.{PlacedName}
use Rattle.fir_meaning.specs.LeafPaths.{LeafPath}
use Rattle.fir_meaning.specs.working.Terms.{Term}
use Rattle.fir_meaning.specs.working.LeafBlocks.{LeafBlock}
use Rattle.fir_meaning.specs.LeafTypes.{LeafType, number, no_bits}

pub record LeafReset : Type 0 where
  pub is_async : Bool
  pub condition : Term
  pub init : Term

-- a leaf that has to be 1 or 0
pub record Need : Type 0 where
  pub leaf : ℕ
  pub high : Bool

-- a data leaf of a port that reads: the number of its array in the module, the leaf of its address, and what enables it
pub record Reading : Type 0 where
  pub array : ℕ
  pub address : ℕ
  pub needs : List Need

-- what gives a leaf its value: a source, as an input and what an instance gives; statements; a node's expression; a register, with its clock; the data of a
-- read at once, and of a pipe, with the leaf of its clock
pub data Role : Type 0 where
  source : Role
  sink : Role
  computed : Term → Role
  register : Term → Option LeafReset → Role
  reading : Reading → Role
  pipe : Reading → ℕ → ReadUnderWrite → Role

-- what statements may drive
abbrev pub may_drive : Role → Bool
may_drive sink = true
may_drive (register c r) = true
may_drive _ = false

-- and what they must drive
abbrev pub is_sink : Role → Bool
is_sink sink = true
is_sink _ = false

-- a leaf of what is declared behind so many others, whose path begins with the names of so many instances
pub record LeafDeclared : Type 0 where
  pub place : Place
  pub declaration : ℕ
  pub instances : ℕ
  pub path : LeafPath
  pub holds : LeafType
  pub depth : ℕ
  pub role : Role

-- a data leaf of a port that writes; its mask is among what it needs
pub record Writing : Type 0 where
  pub address : ℕ
  pub needs : List Need
  pub clock : ℕ
  pub given : ℕ

-- an array of a memory that is declared behind so many others, with its writes in the order of the ports
pub record LeafArray : Type 0 where
  pub declaration : ℕ
  pub path : LeafPath
  pub holds : LeafType
  pub words : ℕ
  pub writings : List Writing

-- a memory as its faults see it: the clock leaves of its ports in their order
pub record MemoryDeclared : Type 0 where
  pub declaration : ℕ
  pub port_clocks : List ℕ

-- its name, the names of all that it declares, in the order of the text, and how many leaves its ports have, which stand in front
pub record LeafModule : Type 0 where
  pub named : PlacedName
  pub declared : List PlacedName
  pub port_leaves : ℕ
  pub leaves : List LeafDeclared
  pub arrays : List LeafArray
  pub memories : List MemoryDeclared
  pub body : LeafBlock

abbrev pub no_leaf : LeafDeclared
no_leaf = record { place = record { line = 0; col = 0 }; declaration = 0; instances = 0; path = []; holds = number no_bits; depth = 0; role = source }

abbrev pub leaf_at : List LeafDeclared → ℕ → LeafDeclared
leaf_at leaves x = slice_index_or leaves x no_leaf

abbrev pub role_at : LeafModule → ℕ → Role
role_at m x = (leaf_at m.leaves x).role

abbrev pub depth_at : LeafModule → ℕ → ℕ
depth_at m x = (leaf_at m.leaves x).depth
