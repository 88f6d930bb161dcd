-- The law above the faults of a tree, and what it asks of operands.
use Rattle.std.specs.Prelude.{◌≡◌, ◌↔◌, ◌≤◌, List, [], Option, Some, None}
use Rattle.std.specs.List.{AllByRecursion}
use Rattle.ver_ast.specs.declared.tree.Verilog.{Verilog}
use Rattle.ver_ast.specs.declared.tree.Edge.{Edge}
use Rattle.ver_ast.specs.declared.tree.Write.{Write}
use Rattle.ver_ast.specs.declared.tree.Item.{Item}
use Rattle.ver_ast.specs.declared.tree.Item.TheVariants as item
use Rattle.ver_ast.specs.Atoms.{AtomTree}
use Rattle.ver_ast.specs.Names.{rhs_atoms}
use Rattle.ver_ast.specs.SoundSides.{atom_depth}
use Rattle.ver_ast.specs.Valid.{IsOrder, Valid}
use Rattle.ver_ast.specs.Processes.{Process}
use Rattle.ver_check.specs.TreeFaults.{misfits, undriven}

-- at most 256 braces are open
abbrev pub IsShallowAtom : AtomTree → Type 0
IsShallowAtom a = atom_depth a ≤ 256

abbrev pub IsShallowEdge : Option Edge → Type 0
IsShallowEdge None = Unit {0}
IsShallowEdge (Some e) = IsShallowAtom e.source

abbrev pub IsShallowWrite : Write → Type 0
IsShallowWrite w = IsShallowAtom w.condition × IsShallowAtom w.index × IsShallowAtom w.source

abbrev pub IsShallowItem : Item → Type 0
IsShallowItem (item.Assign a) = AllByRecursion IsShallowAtom (rhs_atoms a.rhs)
IsShallowItem (item.Always b) = IsShallowAtom b.source
IsShallowItem (item.Resetting b) = IsShallowEdge b.edge
IsShallowItem (item.Writing b) = AllByRecursion IsShallowWrite b.writes
IsShallowItem _ = Unit {0}

-- each operand of each right side and block
abbrev pub IsShallow : Verilog → Type 0
IsShallow v = AllByRecursion IsShallowItem v.items

-- a tree in no operand of which more braces are open has no fault and some order of its processes exactly where it is valid
abbrev pub FaultlessIsValid : Type 0
FaultlessIsValid =
    (v : Verilog) → IsShallow v → ((misfits v ≡ []) × (undriven v ≡ []) × ((order : List Process) × IsOrder v order)) ↔ Valid v

-- in no operand of a valid tree are more open
abbrev pub ValidIsShallow : Type 0
ValidIsShallow = (v : Verilog) → Valid v → IsShallow v
