use Rattle.std.proofs.Common.{◌≡◌, ℕ, List, arith}
use Rattle.std.specs.Prelude.{is_some}
use Rattle.std.proofs.lemmas.Grind.{common_steps}
use Rattle.fir_base.specs.Words.{is_among}
use Rattle.ver_ast.specs.Nets.{output_clocks}
use Rattle.ver_valid.specs.working.Numbered.{number_in}
use Rattle.ver_valid.proofs.Numbering.{has_among}
use Rattle.ver_valid.proofs.processes.assigns_of_nets.Goals as goal

pub loop-item-preserved : goal.loop-item-preserved
loop-item-preserved c =
    let h : (n : List ℕ) → is_some (number_in c.args.clocks.now n) ≡ is_among (output_clocks c.args.v.now) n =
    has_among (output_clocks c.args.v.now) c.args.clocks.now c.requires in
    grind (arith, common_steps, h)
