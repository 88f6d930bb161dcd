use Rattle.std.proofs.Common.{◌≡◌, ◌+◌, ◌*◌, ◌++◌, drop}
use Rattle.ver_ast.specs.declared.tree.Verilog.{Verilog}
use Rattle.ver_ast.specs.Atoms.{atoms_of}
use Rattle.ver_ast.specs.Nets.{nets}
use Rattle.ver_ast.specs.SoundSides.{AreSound}
use Rattle.ver_ast.specs.working.AtomSizes.{atom_size, atoms_size}
use Rattle.ver_sim.specs.working.Pieces.{more_pieces}
use Rattle.ver_sim.specs.working.Tables.{Know}
use Rattle.ver_sim.proofs.read.+atoms.Given as goal

-- an operand of a list is no larger than the list, so the list counts for one more
abbrev pub decreases-put_pieces : goal.decreases-put_pieces
decreases-put_pieces l = 2 * atom_size l.atom.now

abbrev pub decreases-put_more_pieces : goal.decreases-put_more_pieces
decreases-put_more_pieces l = 2 * atoms_size (atoms_of l.atoms.now) + 1

abbrev pub invariant-put_more_pieces-loop-atom : goal.invariant-put_more_pieces-loop-atom
invariant-put_more_pieces-loop-atom l =
    (v : Verilog) → Know v l.tables → AreSound (nets v) (atoms_of l.atoms)
    → AreSound (nets v) (atoms_of (drop l.atom-index l.atoms))
    × (l.out.items ++ more_pieces v (atoms_of (drop l.atom-index l.atoms)) ≡ l.initial.out.items ++ more_pieces v (atoms_of l.atoms))
