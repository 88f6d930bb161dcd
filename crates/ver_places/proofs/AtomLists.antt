-- Lists of operands, one after the other.
use Rattle.std.proofs.Common.{◌≡◌, ℕ, zero, suc, ◌<◌, ◌≤◌, List, [], ◌∷◌, length, drop, get_or, ◌+◌, refl, sym, ap, ◌∙◌, add-one, arith}
use Rattle.std.proofs.Math.Seq.{drop-cons}
use Rattle.ver_ast.specs.Atoms.{AtomTree, atoms_of, atom_before}
use Rattle.ver_ast.specs.working.AtomSizes.{atom_size, atoms_size}

-- an operand of a list is no larger than the list
pub item_size : (atoms : List AtomTree) (i : ℕ) (d : AtomTree) → i < length atoms → atom_size (get_or atoms i d) ≤ atoms_size (atoms_of atoms)
item_size [] i d h = absurd (omega arith)
item_size (a ∷ more) zero d h = omega arith
item_size (a ∷ more) (suc i) d h = omega (arith, item_size more i d (omega arith))

-- the operands from one on
pub next_atoms : (atoms : List AtomTree) (i : ℕ) (d : AtomTree) → i < length atoms → d ≡ get_or atoms i d
    → atoms_of (drop i atoms) ≡ atom_before d (atoms_of (drop (i + 1) atoms))
next_atoms atoms i d h is = ap atoms_of (drop-cons atoms i d h) ∙ rw (sym is, add-one) refl
