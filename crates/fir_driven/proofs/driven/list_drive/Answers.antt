use Rattle.fir_driven.proofs.DrivenLeaves.{lists_driven}
use Rattle.fir_driven.proofs.driven.list_drive.Goals as goal

pub returns : goal.returns
returns c = λ x.
    lists_driven c.args.nodes.now c.args.drive.now c.args.driven.now.items c.extend_from_slice.new.self.items c.in_ok-leaves.leaves.items x
    c.in_ok-leaves.ensures (rw (← c.deref.ensures.value) c.in_ok-extend_from_slice.ensures.items)
