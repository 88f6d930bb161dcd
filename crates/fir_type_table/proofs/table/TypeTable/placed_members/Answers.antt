use Rattle.std.proofs.Common.{refl}
use Rattle.fir_type_table.specs.working.Tables.{types_of}
use Rattle.fir_type_table.proofs.PlacedMembers.{places_more}
use Rattle.fir_type_table.proofs.table.TypeTable.placed_members.Goals as goal

pub loop-part-preserved : goal.loop-part-preserved
loop-part-preserved c =
    rw c.in_ok-push.ensures.items
    (places_more (types_of c.args.self.now) c.loop-part.yielded c.loop-part.members.items c.loop-part.offset c.loop-part.shared_offset c.in-Some.part _
    c.leaves.result c.shared_leaves.result c.saturating_add-offset.result c.saturating_add-shared_offset.result c.loop-part.invariant refl refl refl refl
    c.leaves.ensures c.shared_leaves.ensures c.saturating_add-offset.ensures c.saturating_add-shared_offset.ensures)
