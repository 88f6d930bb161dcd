use Rattle.std.proofs.Common.{subst}
use Rattle.fir_type_table.specs.working.Tables.{types_of}
use Rattle.fir_leaf_pairs.specs.working.Drives.{DrivesPairs}
use Rattle.fir_ground.proofs.Connecting.{sides_driven}
use Rattle.fir_ground.proofs.connects.drive_sides.Goals as goal

pub returns : goal.returns
returns c =
    let s = c.args.sides.now in
    let before = c.args.out.now.items in
    let after = c.drive_pairs.new.out.items in
    sides_driven (types_of c.args.table.now) c.args.nodes.now.items c.given_back.new.nodes.items before after c.args.place s c.args.pairs.now c.deref.result.now
    c.in_ok-backs.backs.items c.deref.ensures.value c.in_ok-backs.ensures
    (subst (λ xs. DrivesPairs before after c.args.place s.left s.source.target c.deref.result.now xs c.args.pairs.now) c.deref-2.ensures.value
    c.in_ok-drive_pairs.ensures)
