use Rattle.std.specs.Prelude.{codes, decimal}
use Rattle.fir_gen.specs.GenText.{register_name}
use Rattle.fir_gen.proofs.Joined.{declared}
use Rattle.fir_gen.proofs.circuit.put_register_line.Goals as goal

pub returns : goal.returns
returns c =
    declared c.args.text.now.items (codes "    reg ") (register_name c.args.k) (codes " : UInt<16>, clock with : (reset => (reset, UInt<16>(") (decimal c.args.k)
    (codes ")))\n") _ _ _ _ c.in_ok-put_name.ensures c.in_ok-extend_from_slice.ensures.items (rw c.from.ensures at c.in_ok-put_decimal.ensures)
    c.in_ok-extend_from_slice-2.ensures.items
