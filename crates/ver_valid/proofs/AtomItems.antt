-- An operand of a list is no larger than the list.
use Rattle.std.proofs.Common.{ℕ, zero, suc, ◌<◌, ◌≤◌, List, [], ◌∷◌, length, get_or, arith}
use Rattle.ver_ast.specs.Atoms.{AtomTree, atoms_of}
use Rattle.ver_ast.specs.working.AtomSizes.{atom_size, atoms_size}

pub item_size : (atoms : List AtomTree) (i : ℕ) (d : AtomTree) → i < length atoms → atom_size (get_or atoms i d) ≤ atoms_size (atoms_of atoms)
item_size [] i d h = absurd (omega arith)
item_size (a ∷ more) zero d h = omega arith
item_size (a ∷ more) (suc i) d h = omega (arith, item_size more i d (omega arith))
