use Rattle.std.proofs.Common.{◌≡◌, ◌+◌, ◌*◌, ◌++◌, drop}
use Rattle.ver_ast.specs.Atoms.{atoms_of}
use Rattle.ver_ast.specs.working.AtomSizes.{atom_size, atoms_size}
use Rattle.ver_emit.specs.Layout.{next_atom_text}
use Rattle.ver_emit.proofs.atom.+atoms.Given as goal

-- an operand of a list is no larger than the list, so the list counts for one more
abbrev pub decreases-put_atom : goal.decreases-put_atom
decreases-put_atom l = 2 * atom_size l.atom.now

abbrev pub decreases-put_next_atoms : goal.decreases-put_next_atoms
decreases-put_next_atoms l = 2 * atoms_size (atoms_of l.atoms.now) + 1

abbrev pub invariant-put_next_atoms-loop-atom : goal.invariant-put_next_atoms-loop-atom
invariant-put_next_atoms-loop-atom l =
    l.out.items ++ next_atom_text (atoms_of (drop l.atom-index l.atoms)) ≡ l.initial.out.items ++ next_atom_text (atoms_of l.atoms)
