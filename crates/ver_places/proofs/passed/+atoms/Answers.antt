use Rattle.std.proofs.Common.{◌≤◌, arith}
use Rattle.ver_ast.specs.Atoms.{atoms_of}
use Rattle.ver_ast.specs.working.AtomSizes.{atom_size, atoms_size}
use Rattle.ver_places.proofs.AtomLists.{item_size}
use Rattle.ver_places.proofs.passed.+atoms.Goals as goal

pub behind_atoms-behind_atom-next-requires : goal.behind_atoms-behind_atom-next-requires
behind_atoms-behind_atom-next-requires t c =
    let a = c.atom-item.result in
    let small = item_size c.args.atoms.now c.loop-atom.atom-index a c.loop-atom-test.true in
    let here : atom_size a ≤ atoms_size (atoms_of c.args.atoms.now) = rw c.atom-item.is small in
    (omega (arith, c.decreases), tt)
