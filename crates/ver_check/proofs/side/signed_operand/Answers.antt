use Rattle.std.proofs.Common.{◌∙◌, ap}
use Rattle.std.specs.Prelude.{None}
use Rattle.ver_ast.specs.Grammar.{atom_tokens}
use Rattle.ver_places.specs.Places.{behind}
use Rattle.ver_check.specs.OperandFaults.{atom_bits, atom_faults}
use Rattle.ver_check.proofs.Faultless.{faultless_most}
use Rattle.ver_check.proofs.side.signed_operand.Goals as goal

pub returns-clause-extent : goal.returns-clause-extent
returns-clause-extent c =
    λ ds k need.
    let j = c.in_ok-bits.ensures ds k tt in
    let none = c.in_ok-refuse-2.ensures (atom_faults ds None c.args.atom.now c.behind-within.result.now) j.fault in
    record {
      bits = c.narrow.ensures.same (atom_bits ds c.args.atom.now) j.bits (faultless_most ds k.narrow None c.args.atom.now c.behind-within.result.now none);
      next = j.next ∙ ap (behind (atom_tokens c.args.atom.now)) c.behind-within.ensures;
    }
