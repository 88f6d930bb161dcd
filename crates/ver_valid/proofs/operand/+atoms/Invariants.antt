use Rattle.std.proofs.Common.{◌+◌, ◌*◌, ◌≤◌, drop}
use Rattle.ver_ast.specs.declared.tree.Verilog.{Verilog}
use Rattle.ver_ast.specs.Atoms.{atoms_of}
use Rattle.ver_ast.specs.Nets.{nets}
use Rattle.ver_ast.specs.working.AtomSizes.{atom_size, atoms_size}
use Rattle.ver_valid.specs.working.Scopes.{Tells}
use Rattle.ver_valid.specs.working.Operands.{IsBefore}
use Rattle.ver_valid.proofs.operand.+atoms.Given as goal

-- an operand of a list is no larger than the list, so the list counts for one more
abbrev pub decreases-atom_width : goal.decreases-atom_width
decreases-atom_width l = 2 * atom_size l.atom.now

abbrev pub decreases-joined_width : goal.decreases-joined_width
decreases-joined_width l = 2 * atoms_size (atoms_of l.atoms.now) + 1

abbrev pub invariant-joined_width-loop-atom : goal.invariant-joined_width-loop-atom
invariant-joined_width-loop-atom l =
    (l.width ≤ 128) × ((v : Verilog) → Tells l.scope v → IsBefore (nets v) l.braces (atoms_of l.atoms) (atoms_of (drop l.atom-index l.atoms)) l.width)
