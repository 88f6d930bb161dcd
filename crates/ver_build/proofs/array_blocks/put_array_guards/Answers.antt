use Rattle.std.proofs.Common.{ap, ◌∙◌, ◌++◌}
use Rattle.ver_build.specs.working.ArrayBlocks.{guarded_write}
use Rattle.ver_build.specs.working.Places.{guard_at}
use Rattle.ver_build.proofs.WriteLists.{put_more_writes}
use Rattle.ver_build.proofs.array_blocks.put_array_guards.Goals as goal

pub loop-j-preserved : goal.loop-j-preserved
loop-j-preserved c =
    put_more_writes (λ j w. guarded_write c.args.net.now c.args.places.now c.args.array.now.words w (guard_at c.args.places.now.guards c.args.number j))
    c.as_slice-writes.result.now c.loop-j.j c.index-writes-j.result c.args.inners.now.items _ _ c.loop-j-test.true c.index-writes-j.is
    c.loop-j.invariant
    (c.in_ok-put_guard.ensures
    ∙ ap (λ g. c.loop-j.inners.items ++ guarded_write c.args.net.now c.args.places.now c.args.array.now.words c.index-writes-j.result g) c.guard.ensures)
