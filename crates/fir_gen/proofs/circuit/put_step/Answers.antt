use Rattle.std.specs.Prelude.{◌+◌, codes}
use Rattle.fir_gen.specs.GenText.{register_line, register_name}
use Rattle.fir_gen.proofs.Joined.{driven}
use Rattle.fir_gen.proofs.circuit.put_step.Goals as goal

pub returns : goal.returns
returns c =
    driven c.args.text.now.items (register_line (c.args.j + 1)) (codes "    when bits(x, 0, 0) :\n") (codes "      ") (register_name (c.args.j + 1))
    (codes " <= xor(") (register_name c.args.j) (codes ", ") (codes ")\n") (codes "    else :\n") (codes " <= tail(add(") (codes "), 1)\n") _ _ _ _ _
    c.in_ok-put_register_line.ensures c.in_ok-extend_from_slice.ensures.items c.in_ok-put_xor.ensures c.in_ok-extend_from_slice-2.ensures.items
    c.in_ok-put_sum.ensures
