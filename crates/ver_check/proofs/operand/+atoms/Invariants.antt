use Rattle.std.proofs.Common.{◌+◌, ◌*◌, drop}
use Rattle.ver_ast.specs.Atoms.{atoms_of}
use Rattle.ver_ast.specs.working.AtomSizes.{atom_size, atoms_size}
use Rattle.ver_check.specs.Scopes.{Scope as Declarations}
use Rattle.ver_check.specs.working.Known.{Knows}
use Rattle.ver_check.specs.working.Judged.{IsAmid}
use Rattle.ver_check.proofs.operand.+atoms.Given as goal

-- an operand of a list is no larger than the list, so the list counts for one more
abbrev pub decreases-judge : goal.decreases-judge
decreases-judge l = 2 * atom_size l.atom.now

abbrev pub decreases-judge_rest : goal.decreases-judge_rest
decreases-judge_rest l = 2 * atoms_size (atoms_of l.atoms.now) + 1

abbrev pub invariant-judge_rest-loop-atom : goal.invariant-judge_rest-loop-atom
invariant-judge_rest-loop-atom l = (ds : Declarations) → Knows l.scope ds → IsAmid ds l.fn.before l.all (atoms_of l.atoms) (atoms_of (drop l.atom-index l.atoms))
