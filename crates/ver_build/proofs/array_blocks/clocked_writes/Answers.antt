use Rattle.std.proofs.Common.{ap, ◌∙◌, ◌++◌, []}
use Rattle.ver_build.specs.working.ArrayBlocks.{written_on}
use Rattle.ver_build.specs.working.Places.{clock_in, guard_at}
use Rattle.ver_build.proofs.WriteLists.{put_more_writes}
use Rattle.ver_build.proofs.array_blocks.clocked_writes.Goals as goal

pub loop-j-preserved : goal.loop-j-preserved
loop-j-preserved c =
    let p = c.args.places.now in
    put_more_writes
    (λ j w. written_on c.args.net.now p c.args.name.now c.args.array.now.width (clock_in p.leaves w.clock) w (guard_at p.guards c.args.number j))
    c.as_slice-all.result.now c.loop-j.j c.index-all-j.result [] _ _ c.loop-j-test.true c.index-all-j.is c.loop-j.invariant
    (c.in_ok-put_write.ensures
    ∙ ap (λ g. c.loop-j.writes.items ++ written_on c.args.net.now p c.args.name.now c.args.array.now.width (clock_in p.leaves c.index-all-j.result.clock) c.index-all-j.result g)
    c.guard.ensures)
