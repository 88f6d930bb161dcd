use Rattle.std.proofs.Common.{◌+◌, ◌*◌, map}
use Rattle.fir_type_table.specs.working.Tables.{types_of}
use Rattle.fir_type_table.proofs.AddedParts.{AddsMapped, mask_part}
use Rattle.fir_type_table.proofs.table.TypeTable.+mask.Given as goal

abbrev pub decreases-add_bundle_mask : goal.decreases-add_bundle_mask
decreases-add_bundle_mask l = 2 * l.id.number

abbrev pub decreases-add_mask : goal.decreases-add_mask
decreases-add_mask l = 2 * l.id.number + 1

abbrev pub invariant-add_bundle_mask-loop-part : goal.invariant-add_bundle_mask-loop-part
invariant-add_bundle_mask-loop-part l = record {
  can_next : (goal.iterator-add_bundle_mask-loop-part).can_next l.part-iterator;
  is_finite : (goal.iterator-add_bundle_mask-loop-part).is_finite l.part-iterator;
  adds : AddsMapped l.initial.self l.self l.masks.items (map (mask_part (types_of l.initial.self)) l.yielded);
}
