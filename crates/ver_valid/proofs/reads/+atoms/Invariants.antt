use Rattle.std.proofs.Common.{◌≡◌, ◌+◌, ◌*◌, ◌++◌, drop}
use Rattle.ver_ast.specs.Atoms.{atoms_of}
use Rattle.ver_ast.specs.Names.{joined_names}
use Rattle.ver_ast.specs.working.AtomSizes.{atom_size, atoms_size}
use Rattle.ver_valid.specs.working.Drivers.{drivers_of}
use Rattle.ver_valid.proofs.reads.+atoms.Given as goal

-- an operand of a list is no larger than the list, so the list counts for one more
abbrev pub decreases-put_drivers : goal.decreases-put_drivers
decreases-put_drivers l = 2 * atom_size l.atom.now

abbrev pub decreases-put_more_drivers : goal.decreases-put_more_drivers
decreases-put_more_drivers l = 2 * atoms_size (atoms_of l.atoms.now) + 1

abbrev pub invariant-put_more_drivers-loop-atom : goal.invariant-put_more_drivers-loop-atom
invariant-put_more_drivers-loop-atom l =
    l.out.items ++ drivers_of l.drivers (joined_names (atoms_of (drop l.atom-index l.atoms)))
    ≡ l.initial.out.items ++ drivers_of l.drivers (joined_names (atoms_of l.atoms))
