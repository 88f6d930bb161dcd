use Rattle.fir_infer_resets.proofs.NothingHeld.{nothing_held}
use Rattle.fir_infer_resets.proofs.joined.Joined.new.Goals as goal

pub returns : goal.returns
returns c circuit =
    nothing_held circuit (record { ends = c.new.result; kinds = c.new-2.result; graph = c.new-3.result; numbers = c.new-4.result })
    c.new.ensures.items c.new-2.ensures.items c.new-3.ensures.items c.new-4.ensures.empty
