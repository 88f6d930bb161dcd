use Rattle.std.proofs.Common.{◌≤◌, drop, ◌+◌, arith}
use Rattle.ver_ast.specs.Atoms.{atoms_of}
use Rattle.ver_ast.specs.working.AtomSizes.{atom_size, atoms_size}
use Rattle.ver_places.proofs.AtomLists.{item_size, next_atoms}
use Rattle.ver_check.proofs.Operands.{amid_goes_on}
use Rattle.ver_check.proofs.operand.+atoms.Goals as goal

pub judge_rest-judge-requires : goal.judge_rest-judge-requires
judge_rest-judge-requires t c =
    let a = c.atom-item.result in
    let small = item_size c.args.atoms.now c.loop-atom.atom-index a c.loop-atom-test.true in
    let here : atom_size a ≤ atoms_size (atoms_of c.args.atoms.now) = rw c.atom-item.is small in
    (omega (arith, c.decreases), tt)

pub judge_rest-loop-atom-preserved : goal.judge_rest-loop-atom-preserved
judge_rest-loop-atom-preserved t c =
    λ ds k. amid_goes_on ds c.args.before c.loop-atom.all c.in_ok-next.next c.beside-all.result (atoms_of c.args.atoms.now)
    (atoms_of (drop c.loop-atom.atom-index c.args.atoms.now)) (atoms_of (drop (c.loop-atom.atom-index + 1) c.args.atoms.now)) c.atom-item.result
    (next_atoms c.args.atoms.now c.loop-atom.atom-index c.atom-item.result c.loop-atom-test.true c.atom-item.is)
    (c.loop-atom.invariant ds k) (c.in_ok-next.ensures ds k tt) c.beside-all.ensures
