use Rattle.std.specs.Prelude.{◌+◌, codes}
use Rattle.fir_gen.specs.GenText.{register_name}
use Rattle.fir_gen.proofs.Joined.{named}
use Rattle.fir_gen.proofs.circuit.put_xor.Goals as goal

pub returns : goal.returns
returns c =
    named c.args.text.now.items (codes "      ") (register_name (c.args.j + 1)) (codes " <= xor(") (register_name c.args.j) (codes ", ")
    (register_name (c.args.j + 1)) (codes ")\n") _ _ _ _ c.in_ok-put_name.ensures c.in_ok-put_name-2.ensures c.in_ok-put_name-3.ensures
    c.in_ok-extend_from_slice.ensures.items
