use Rattle.std.proofs.Common.{map, ◌∙◌}
use Rattle.std.proofs.lemmas.Bool.{not-true}
use Rattle.fir_meaning.specs.TypeLeaves.{type_leaves}
use Rattle.fir_type_table.specs.working.Tables.{types_of, type_at}
use Rattle.fir_types.specs.working.Spots.{spot_of}
use Rattle.fir_types.proofs.LeafSpots.{shown_leaves}
use Rattle.fir_check.proofs.FirstDriven.{first_flip, none_driven, wanted_text}
use Rattle.fir_check.proofs.drives.Sides.first_leaf.Goals as goal

pub returns-then-not-self-2 : goal.returns-then-not-self-2
returns-then-not-self-2 c = none_driven c.args.self _ (not-true c.args.self.straight c.if-not-self.true) (not-true c.args.self.flipped c.if-not-self-2.true)

pub returns : goal.returns
returns c =
    let leaves = type_leaves (type_at (types_of c.args.table.now) c.in-Type.id.number) in
    rw (c.in-Type.is, shown_leaves c.in-Type.field-1 (type_at (types_of c.args.table.now) c.in-Type.id.number))
    (c.leaf_at.ensures (map spot_of leaves) (c.first_flip.ensures ∙ first_flip spot_of leaves) (c.in_ok-steps.ensures ∙ wanted_text c.args.self leaves))
