use Rattle.ver_check.specs.OperandFaults.{atom_bits, atom_faults}
use Rattle.ver_check.proofs.Faultless.{faultless_most}
use Rattle.ver_check.proofs.side.operand.Goals as goal

pub returns-clause-extent : goal.returns-clause-extent
returns-clause-extent c =
    λ ds k need.
    let j = c.in_ok-bits.ensures ds k need in
    let none = c.in_ok-refuse.ensures (atom_faults ds c.args.needed c.args.atom.now c.args.places.now) j.fault in
    record {
      bits = c.narrow.ensures.same (atom_bits ds c.args.atom.now) j.bits (faultless_most ds k.narrow c.args.needed c.args.atom.now c.args.places.now none);
      next = j.next;
    }
