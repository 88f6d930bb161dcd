use Rattle.std.proofs.Common.{◌≡◌, ◌≤◌, ◌-◌, ◌++◌, ℕ, List, arith, length, subst, sym}
use Rattle.fir_gen.specs.GenText.{first_lines, gen_text, head_lines, last_line}
use Rattle.fir_gen.proofs.Lengths.{gen_short}
use Rattle.fir_gen.proofs.Steps.{all_steps, more_steps, no_steps}
use Rattle.fir_gen.proofs.circuit.gen_circuit.Goals as goal

pub loop-j-init : goal.loop-j-init
loop-j-init c = no_steps (head_lines ++ first_lines) _ _ c.new-text.ensures.items c.in_ok-put_head.ensures

pub loop-j-preserved : goal.loop-j-preserved
loop-j-preserved c = more_steps (head_lines ++ first_lines) _ _ c.loop-j.j c.loop-j.invariant c.in_ok-put_step.ensures

pub returns-clause-text : goal.returns-clause-text
returns-clause-text c =
    all_steps (head_lines ++ first_lines) (last_line (c.args.n - 1)) _ _ c.loop-j.j (c.args.n - 1) (omega arith) c.loop-j.invariant c.in_ok-put_last_line.ensures

pub returns-clause-short : goal.returns-clause-short
returns-clause-short c =
    let text = all_steps (head_lines ++ first_lines) (last_line (c.args.n - 1)) _ _ c.loop-j.j (c.args.n - 1) (omega arith) c.loop-j.invariant
    c.in_ok-put_last_line.ensures in
    subst (λ (xs : List ℕ). length xs ≤ 16777216) (sym text) (gen_short c.args.n (omega arith))
