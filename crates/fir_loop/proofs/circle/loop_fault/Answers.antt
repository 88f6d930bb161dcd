use Rattle.std.proofs.Common.{sym, ap, ◌∙◌, subst, arith, length, map}
use Rattle.fir_loop.specs.working.IsLoop.{path_of}
use Rattle.fir_loop.specs.working.IsCircle.{AreLeaves}
use Rattle.fir_loop.proofs.Circles.{circle_has, walk_of, first_within, walk_shows}
use Rattle.fir_loop.proofs.circle.loop_fault.Goals as goal

pub index-first-requires : goal.index-first-requires
index-first-requires c = omega (arith, c.in_ok-walk.walk.ok.0, circle_has _ c.requires.whole _ c.requires.circle, ap length c.in_ok-walk.ensures)

pub paths_of-requires : goal.paths_of-requires
paths_of-requires c =
    let w = walk_of _ c.requires.whole _ c.requires.circle _ c.in_ok-walk.ensures _ c.index-first.ensures _ c.in_ok-push.ensures.items in
    subst (AreLeaves c.args.net.now) (sym c.as_slice.ensures.value) w.leaves

pub leaf_of-requires : goal.leaf_of-requires
leaf_of-requires c =
    first_within _ c.requires.whole _ _ (walk_of _ c.requires.whole _ c.requires.circle _ c.in_ok-walk.ensures _ c.index-first.ensures _ c.in_ok-push.ensures.items)

pub returns : goal.returns
returns c =
    let w = walk_of _ c.requires.whole _ c.requires.circle _ c.in_ok-walk.ensures _ c.index-first.ensures _ c.in_ok-push.ensures.items in
    walk_shows _ c.requires.whole _ _ _ _ w c.leaf_of.ensures (c.in_ok-names.ensures ∙ ap (map (path_of c.args.net.now)) c.as_slice.ensures.value)
