use Rattle.std.proofs.Common.{◌≡◌, ◌+◌, ◌*◌, drop}
use Rattle.ver_ast.specs.Atoms.{atoms_of}
use Rattle.ver_ast.specs.Grammar.{next_atom_tokens}
use Rattle.ver_ast.specs.working.AtomSizes.{atom_size, atoms_size}
use Rattle.ver_places.specs.Places.{behind}
use Rattle.ver_places.proofs.passed.+atoms.Given as goal

-- an operand of a list is no larger than the list, so the list counts for one more
abbrev pub decreases-behind_atom : goal.decreases-behind_atom
decreases-behind_atom l = 2 * atom_size l.atom.now

abbrev pub decreases-behind_atoms : goal.decreases-behind_atoms
decreases-behind_atoms l = 2 * atoms_size (atoms_of l.atoms.now) + 1

abbrev pub invariant-behind_atoms-loop-atom : goal.invariant-behind_atoms-loop-atom
invariant-behind_atoms-loop-atom l =
    behind (next_atom_tokens (atoms_of l.atoms)) l.places ≡ behind (next_atom_tokens (atoms_of (drop l.atom-index l.atoms))) l.next
