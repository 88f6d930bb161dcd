use Rattle.std.proofs.Common.{◌+◌, ◌*◌}
use Rattle.fir_type_table.specs.working.Tables.{types_of}
use Rattle.fir_leaf_pairs.proofs.PairWalks.{StepsSoFar}
use Rattle.fir_leaf_pairs.proofs.PairNames.{NamesSoFar}
use Rattle.fir_leaf_pairs.proofs.pairs.+pairs.Given as goal

abbrev pub decreases-pair_parts : goal.decreases-pair_parts
decreases-pair_parts l = 3 * l.left.ty.number + 1

abbrev pub decreases-pair_elements : goal.decreases-pair_elements
decreases-pair_elements l = 3 * l.left.ty.number + 2

abbrev pub decreases-pair_fields : goal.decreases-pair_fields
decreases-pair_fields l = 3 * l.left.ty.number

abbrev pub decreases-pair_named_fields : goal.decreases-pair_named_fields
decreases-pair_named_fields l = 3 * l.left.ty.number

abbrev pub decreases-pair_named : goal.decreases-pair_named
decreases-pair_named l = 3 * l.member.now.ty.number + 2

abbrev pub invariant-pair_fields-loop-i : goal.invariant-pair_fields-loop-i
invariant-pair_fields-loop-i l =
    StepsSoFar (types_of l.table) l.flip l.initial.one l.initial.other l.fs l.gs l.i l.one l.other l.fn.pairs.items l.pairs.items

abbrev pub invariant-pair_named_fields-loop-member : goal.invariant-pair_named_fields-loop-member
invariant-pair_named_fields-loop-member l =
    NamesSoFar (types_of l.table) l.flip l.initial.first l.right l.member-items l.member-index l.first l.fn.pairs.items l.pairs.items
