use Rattle.std.specs.Prelude.{codes}
use Rattle.fir_gen.specs.GenText.{head_lines, register_line}
use Rattle.fir_gen.proofs.Joined.{three_put}
use Rattle.fir_gen.proofs.circuit.put_head.Goals as goal

pub returns : goal.returns
returns c =
    three_put c.args.text.now.items head_lines (register_line 0) (codes "    r0 <= tail(add(r0, x), 1)\n") _ _ _ c.in_ok-extend_from_slice.ensures.items
    c.in_ok-put_register_line.ensures c.in_ok-extend_from_slice-2.ensures.items
