use Rattle.std.proofs.Common.{◌≡◌, ◌<◌, ◌^◌, true, map, ap, ◌∙◌, subst, arith}
use Rattle.std.proofs.lemmas.Result.{on_ok_weaker}
use Rattle.fir_ast.specs.working.Views.{expr_of, sink_of}
use Rattle.fir_meaning.specs.Equivalence.{is_connectable}
use Rattle.fir_meaning.specs.TypeLeaves.{leaf_count}
use Rattle.fir_meaning.specs.working.LeafPairs.{leaf_pairs}
use Rattle.fir_types.specs.working.Seen.{found_type}
use Rattle.fir_ground.specs.working.Connects.{MayDriveSides}
use Rattle.fir_ground.specs.working.Grounds.{types_in}
use Rattle.fir_leaf_pairs.specs.working.Pairing.{pair_seen}
use Rattle.fir_ground.proofs.ConnectCosts.{sink_count, size_count}
use Rattle.fir_ground.proofs.Connecting.{connect_comes, left_is, pairs_are}
use Rattle.fir_leaf_pairs.proofs.PairNumbers.{pairs_within}
use Rattle.fir_ground.proofs.connects.in_connect.Goals as goal

pub returns : goal.returns
returns c = λ typed rest enters legal cost.
    let g = c.args.ground.now in
    let ts = types_in g in
    let s = sink_of c.args.sink.now in
    let e = expr_of c.args.source.now in
    let r = legal.0 in
    let t = legal.1 in
    let there = legal.2 in
    let has = legal.3 in
    let old = c.args.walk.now in
    let mid = c.in_sides.new.walk in
    let own = c.in_ok-sides.sides in
    let small = enters.stands.small in
    let shown = c.in_ok-sides.ensures typed r t rest enters there has in
    let one : found_type ts own.left.found ≡ r.data_type = left_is g typed s e r t rest old mid own small there shown in
    let other : found_type ts own.found ≡ t = shown.found in
    let left : leaf_count (found_type ts own.left.found) < 2 ^ 64 = omega (arith, ap leaf_count one, sink_count typed s r there, cost) in
    let right : leaf_count (found_type ts own.found) < 2 ^ 64 = omega (arith, ap leaf_count other, size_count typed e t has, cost) in
    let fits : is_connectable r.data_type t ≡ true = legal.4 in
    let joined : is_connectable (found_type ts own.left.found) (found_type ts own.found) ≡ true =
    ap (λ x. is_connectable x (found_type ts own.found)) one ∙ ap (is_connectable r.data_type) other ∙ fits in
    let items = c.in_ok-pairs.pairs.items in
    let are : map pair_seen items ≡ leaf_pairs r.data_type t =
    c.in_ok-pairs.ensures left right joined ∙ pairs_are leaf_pairs g typed s e r t rest old mid own small there shown in
    let before = c.args.out.now.items in
    let after = c.drive_sides.new.out.items in
    on_ok_weaker c.drive_sides.result
    (λ drives.
    connect_comes leaf_pairs g typed s e r t rest old mid c.drive_sides.new.nodes before after c.args.place own items small there has shown are
    (pairs_within r.data_type t fits)
    (subst (MayDriveSides ts mid.nodes.items c.drive_sides.new.nodes.items before after c.args.place own) c.deref.ensures.value drives))
    c.drive_sides.ensures
