use Rattle.std.proofs.Common.{length}
use Rattle.std.proofs.lemmas.List.{length_push}
use Rattle.std.proofs.lemmas.Slice.Zip.{zip_end, zip_turn}
use Rattle.fir_leaf_pairs.proofs.Giving.{gives_none, mux_end, mux_more}
use Rattle.fir_ground.proofs.leafwise.mux_all.Goals as goal

pub loop-one-init : goal.loop-one-init
loop-one-init c = λ lc bx by. rw c.new-ids.ensures.items (gives_none c.args.nodes.now.items)

pub loop-one-preserved : goal.loop-one-preserved
loop-one-preserved c =
    let xs = c.args.ones.now in
    let ys = c.args.others.now in
    let turn =
    zip_turn xs ys c.loop-one.yielded c.into_iter-one-iterator.result c.loop-one.one-iterator c.next.new.self c.next.result (cc) (cc) c.loop-one.yielded_by (c.in-Some.one, c.in-Some.other) c.in-Some.is
    c.next.ensures.steps in
    λ lc bx by.
    rw (length_push c.loop-one.yielded (c.in-Some.one, c.in-Some.other))
    (mux_more c.args.nodes.now.items c.loop-one.nodes.items c.add.new.nodes.items c.args.condition c.in_ok-id.id (length c.loop-one.yielded) c.in-Some.one.now c.in-Some.other.now 0 0 xs ys
    c.loop-one.ids.items c.push.new.self.items turn.0 turn.1 (turn.2 0) (turn.3 0) lc bx by (c.loop-one.invariant lc bx by) c.in_ok-id.ensures.place c.in_ok-id.ensures.added
    c.in_ok-push.ensures.items)

pub returns : goal.returns
returns c =
    let xs = c.args.ones.now in
    let ys = c.args.others.now in
    let turns =
    zip_end xs ys c.loop-one.yielded c.into_iter-one-iterator.result c.loop-one.one-iterator c.next.new.self c.next.result (cc) (cc) c.loop-one.yielded_by c.in-None.is c.next.ensures.steps in
    λ lc bx by.
    mux_end c.args.nodes.now.items c.loop-one.nodes.items c.args.condition (length c.loop-one.yielded) xs ys c.loop-one.ids.items turns (c.loop-one.invariant lc bx by)
