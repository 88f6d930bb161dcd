-- Leaves of a type that are put behind others: how each is turned, and what it holds.
use Rattle.std.specs.Prelude.{◌≡◌, ℕ, List, ◌++◌, map, Bool}
use Rattle.fir_ast.specs.Circuits.{CircuitTree}
use Rattle.fir_ast.specs.Types.{DataType}
use Rattle.fir_meaning.specs.SizedTypes.{Sized, bare_type}
use Rattle.fir_meaning.specs.TypeKinds.{bare}
use Rattle.fir_meaning.specs.TypeLeaves.{turned, type_leaves}
use Rattle.fir_meaning.specs.WidthExpressions.{Widths}
use Rattle.fir_meaning.specs.WidthRules.{AreWidths}
use Rattle.fir_width.specs.working.DeclaredWidths.{leaf_widths}
use Rattle.fir_width.specs.working.FlatWidths.{flat}
use Rattle.fir_width.specs.working.StandingWidths.{Stands}
use Rattle.fir_meaning.specs.HeldTypes.{held_types}
use Rattle.fir_leaf_table.specs.declared.type_leaves.TypeLeaf.{TypeLeaf as LeafOfCode}
use Rattle.fir_leaf_table.specs.working.TypedLeaves.{flips_of, flips_seen, holds_seen}

-- those of a type below a field that is flipped or not; they hold what a sized type of its shape does, if its widths stand from the number on
pub record AreLeavesBelow (c : CircuitTree) (flip : Bool) (t : DataType) (first : ℕ) (ls : List LeafOfCode) : Type 0 where
  pub flips : flips_seen ls ≡ map (turned flip) (flips_of (type_leaves t))
  pub holds : (s : Sized) (w : Widths) → bare_type s ≡ bare t → Stands (leaf_widths c) first (flat s) → AreWidths c w
      → holds_seen ls ≡ held_types w s

pub record Pushes (c : CircuitTree) (flip : Bool) (t : DataType) (first : ℕ) (old new : List LeafOfCode) : Type 0 where
  pub more : List LeafOfCode
  pub grown : new ≡ old ++ more
  pub are : AreLeavesBelow c flip t first more
