use Rattle.std.proofs.Common.{ℕ, zero, suc, ◌<◌, ◌≤◌, List, [], ◌∷◌, length, get_or, arith}
use Rattle.ver_ast.specs.Atoms.{AtomTree, atoms_of}
use Rattle.ver_ast.specs.working.AtomSizes.{atom_size, atoms_size}
use Rattle.ver_emit.proofs.atom.+atoms.Goals as goal

-- an operand of a list is no larger than the list
item_size : (atoms : List AtomTree) (i : ℕ) (d : AtomTree) → i < length atoms → atom_size (get_or atoms i d) ≤ atoms_size (atoms_of atoms)
item_size [] i d h = absurd (omega arith)
item_size (a ∷ more) zero d h = omega arith
item_size (a ∷ more) (suc i) d h = omega (arith, item_size more i d (omega arith))

pub put_next_atoms-put_atom-requires : goal.put_next_atoms-put_atom-requires
put_next_atoms-put_atom-requires t c =
    let a = c.atom-item.result in
    let small = item_size c.args.atoms.now c.loop-atom.atom-index a c.loop-atom-test.true in
    let here : atom_size a ≤ atoms_size (atoms_of c.args.atoms.now) = rw c.atom-item.is small in
    (omega (arith, c.decreases), tt)
