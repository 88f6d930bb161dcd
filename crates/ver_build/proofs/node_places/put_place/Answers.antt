use Rattle.std.proofs.Common.{ap, arith}
use Rattle.std.proofs.Math.ListN.{set}
use Rattle.ver_build.proofs.NotedPlaces.{place_noted}
use Rattle.ver_build.proofs.node_places.put_place.Goals as goal

pub returns-then-number-len : goal.returns-then-number-len
returns-then-number-len c =
    λ room less.
    place_noted c.args.leaves.now c.args.leaf c.args.place c.args.places.now.items c.make_room.new.places.items _ (c.in_ok-make_room.ensures room) less
    (ap (λ j. set c.make_room.new.places.items j c.args.place) c.number-then-number-len.ensures)

pub returns-else-number-len : goal.returns-else-number-len
returns-else-number-len c =
    λ room less. let kept = (c.in_ok-make_room.ensures room).room in absurd (omega (arith, c.if-number-len.false, c.len.ensures, c.number.ensures, kept, less))
