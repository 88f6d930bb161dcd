use Rattle.std.proofs.Common.{◌≡◌, ◌++◌}
use Rattle.fir_gen.specs.GenText.{first_lines, head_lines, steps_text}
use Rattle.fir_gen.proofs.circuit.gen_circuit.Given as goal

abbrev pub invariant-loop-j : goal.invariant-loop-j
invariant-loop-j l = l.text.items ≡ head_lines ++ first_lines ++ steps_text 0 l.j
