use Rattle.std.proofs.Common.{length, map, refl}
use Rattle.std.proofs.lemmas.List.{length_push}
use Rattle.std.proofs.lemmas.Slice.Zip.{zip_end, zip_turn}
use Rattle.fir_types.specs.working.Noted.{pick_seen}
use Rattle.fir_ground.proofs.Chained.{chained_all, chained_begin, chained_more}
use Rattle.fir_ground.proofs.references.chained.Goals as goal

pub loop-index-init : goal.loop-index-init
loop-index-init c = λ meant are. chained_begin c.args.nodes.now.items _ meant (map pick_seen c.args.picks.now) refl refl

pub loop-index-preserved : goal.loop-index-preserved
loop-index-preserved c =
    let xs = c.args.indices.now in
    let ys = c.args.picks.now in
    let i = c.in-Some.index.now in
    let p = c.in-Some.elements.now in
    let turn =
    zip_turn xs ys c.loop-index.yielded c.into_iter-index-iterator.result c.loop-index.index-iterator c.next.new.self c.next.result (cc) (cc) c.loop-index.yielded_by
    (c.in-Some.index, c.in-Some.elements) c.in-Some.is c.next.ensures.steps in
    λ meant are.
    rw (length_push c.loop-index.yielded (c.in-Some.index, c.in-Some.elements))
    (chained_more c.args.nodes.now.items c.loop-index.nodes.items c.behind.new.nodes.items c.loop-index.chain _ xs meant ys (length c.loop-index.yielded) i p are turn.0 turn.1 (turn.2 i)
    (turn.3 p) (c.loop-index.invariant meant are) c.in_ok-chain.ensures)

pub returns : goal.returns
returns c =
    let xs = c.args.indices.now in
    let ys = c.args.picks.now in
    let turns =
    zip_end xs ys c.loop-index.yielded c.into_iter-index-iterator.result c.loop-index.index-iterator c.next.new.self c.next.result (cc) (cc) c.loop-index.yielded_by c.in-None.is
    c.next.ensures.steps in
    λ meant are.
    chained_all c.args.nodes.now.items c.loop-index.nodes.items c.loop-index.chain xs meant ys (length c.loop-index.yielded) are turns (c.loop-index.invariant meant are)
