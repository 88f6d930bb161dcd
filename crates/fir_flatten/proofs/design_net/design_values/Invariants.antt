use Rattle.std.proofs.Common.{◌≡◌, drop}
use Rattle.fir_flatten.specs.working.PutModules.{no_values, put_copies, values_seen}
use Rattle.fir_flatten.proofs.design_net.design_values.Given as goal

abbrev pub invariant-loop-copy : goal.invariant-loop-copy
invariant-loop-copy l = put_copies l.modules (drop l.copy-index l.copies) (values_seen l.values) ≡ put_copies l.modules l.copies (no_values l.count)
