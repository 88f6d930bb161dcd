use Rattle.std.proofs.Common.{◌≡◌, ◌+◌, ◌*◌, ◌-◌, length}
use Rattle.fir_type_table.specs.working.Tables.{member_fields, shown, shown_fields, type_at, types_of}
use Rattle.fir_leaf.specs.working.Nodes.{entries, picks_at}
use Rattle.fir_meaning.specs.working.Terms.{Picks}
use Rattle.fir_ground.specs.working.Absent.{absent_element_terms, absent_field_terms}
use Rattle.fir_leaf_pairs.specs.working.TargetNames.{PicksWithin}
use Rattle.fir_ground.proofs.Absents.{AddsSoFar, fields_left}
use Rattle.fir_ground.proofs.absent.+absent.Given as goal

abbrev pub invariant-add_members-loop-member : goal.invariant-add_members-loop-member
invariant-add_members-loop-member l =
    (ps : Picks) → PicksWithin (length l.initial.nodes.items) l.picks → picks_at (entries l.initial.nodes.items) l.picks ≡ ps
    → AddsSoFar l.initial.nodes.items l.nodes.items l.initial.ids.items l.ids.items
    (absent_field_terms ps (shown_fields l.is_bare (member_fields (types_of l.table) l.member-items))) (fields_left (types_of l.table) l.is_bare ps l.member-items l.member-index)

abbrev pub invariant-add_elements-loop : goal.invariant-add_elements-loop
invariant-add_elements-loop l =
    (ps : Picks) → PicksWithin (length l.initial.nodes.items) l.picks → picks_at (entries l.initial.nodes.items) l.picks ≡ ps
    → AddsSoFar l.initial.nodes.items l.nodes.items l.initial.ids.items l.ids.items
    (absent_element_terms ps l.length (shown l.is_bare (type_at (types_of l.table) l.element.number)))
    (absent_element_terms ps (l.length - l.counter) (shown l.is_bare (type_at (types_of l.table) l.element.number)))

abbrev pub decreases-add_type : goal.decreases-add_type
decreases-add_type l = 2 * l.id.number + 1

abbrev pub decreases-add_members : goal.decreases-add_members
decreases-add_members l = 2 * l.id.number

abbrev pub decreases-add_elements : goal.decreases-add_elements
decreases-add_elements l = 2 * l.element.number + 2
