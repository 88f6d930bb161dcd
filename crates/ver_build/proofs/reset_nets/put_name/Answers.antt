use Rattle.std.proofs.Common.{ap, arith, Some}
use Rattle.std.proofs.Math.ListN.{set}
use Rattle.ver_build.proofs.NotedNames.{name_noted}
use Rattle.ver_build.proofs.reset_nets.put_name.Goals as goal

pub returns-then-number-len : goal.returns-then-number-len
returns-then-number-len c =
    λ room less.
    name_noted c.args.leaves.now c.args.leaf c.args.name c.args.names.now.items c.make_room.new.names.items _ (c.in_ok-make_room.ensures room) less
    (ap (λ j. set c.make_room.new.names.items j (Some c.args.name)) c.number-then-number-len.ensures)

pub returns-else-number-len : goal.returns-else-number-len
returns-else-number-len c =
    λ room less. let kept = (c.in_ok-make_room.ensures room).room in absurd (omega (arith, c.if-number-len.false, c.len.ensures, c.number.ensures, kept, less))
