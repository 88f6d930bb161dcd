use Rattle.fir_driven.proofs.JoinedLists.{joins}
use Rattle.fir_driven.proofs.covered.join.Goals as goal

pub returns : goal.returns
returns c = λ ready.
    joins c.args.depths.now c.args.depth c.args.first.now c.args.second.now c.args.covering.now
    (record { covered = c.flag_inner-2.new.flags; marks = c.set_flags-2.new.flags })
    _ _ _ _ _ ready c.flag_inner.ensures c.flag_inner-2.ensures c.set_flags.ensures c.in_ok-move_marked.ensures c.set_flags-2.ensures
