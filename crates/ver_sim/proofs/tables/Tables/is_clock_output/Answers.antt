use Rattle.std.proofs.Common.{◌∙◌}
use Rattle.ver_ast.specs.Nets.{output_clocks}
use Rattle.ver_sim.proofs.Numbering.{has_among}
use Rattle.ver_sim.proofs.tables.Tables.is_clock_output.Goals as goal

pub returns : goal.returns
returns c v k = c.has.ensures ∙ has_among (output_clocks v) c.args.self.now.clock_outputs k.clock_outputs c.args.name.now
