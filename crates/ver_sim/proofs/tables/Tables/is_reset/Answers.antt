use Rattle.std.proofs.Common.{◌∙◌}
use Rattle.ver_ast.specs.Nets.{reset_targets}
use Rattle.ver_sim.proofs.Numbering.{has_among}
use Rattle.ver_sim.proofs.tables.Tables.is_reset.Goals as goal

pub returns : goal.returns
returns c v k = c.has.ensures ∙ has_among (reset_targets v) c.args.self.now.resets k.resets c.args.name.now
