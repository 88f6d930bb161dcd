use Rattle.std.proofs.Common.{refl}
use Rattle.fir_infer_resets.proofs.root.Root.of_node.Goals as goal

pub returns : goal.returns
returns c = record { path = c.push.new.self; is = refl; steps = rw (c.in_ok-push.ensures.items, c.new-path.ensures.items) refl }
