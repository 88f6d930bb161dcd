use Rattle.std.proofs.Common.{length, refl}
use Rattle.std.proofs.lemmas.List.{length_push}
use Rattle.std.proofs.lemmas.Option.{slice_get_read}
use Rattle.std.proofs.lemmas.Slice.Zip.{zip_end, zip_turn}
use Rattle.fir_whens.proofs.ReadRoles.{all_roles, no_roles, one_more_role}
use Rattle.fir_whens.proofs.net_role.net_roles.Goals as goal

pub loop-leaf-init : goal.loop-leaf-init
loop-leaf-init c =
    rw c.new-roles.ensures.items (no_roles c.args.nodes.now c.args.bounds.now c.args.nothing.now c.args.drivers.now c.args.leaves.now)

pub loop-leaf-preserved : goal.loop-leaf-preserved
loop-leaf-preserved c =
    let leaves = c.args.leaves.now in
    let drivers = c.args.drivers.now in
    let turn =
    zip_turn leaves drivers c.loop-leaf.yielded c.into_iter-leaf-iterator.result c.loop-leaf.leaf-iterator c.next.new.self c.next.result (cc) (cc)
    c.loop-leaf.yielded_by (c.in-Some.leaf, c.in-Some.driver) c.in-Some.is c.next.ensures.steps in
    let k = length c.loop-leaf.yielded in
    rw (c.in_ok-push.ensures.items, length_push c.loop-leaf.yielded (c.in-Some.leaf, c.in-Some.driver))
    (one_more_role c.args.nodes.now c.args.bounds.now c.args.nothing.now drivers leaves c.loop-leaf.roles.items k c.in-Some.leaf.now c.in-Some.driver.now
    c.net_role.result (slice_get_read leaves (length leaves) k c.in-Some.leaf.now refl turn.0 (turn.2 c.in-Some.leaf.now))
    (slice_get_read drivers (length drivers) k c.in-Some.driver.now refl turn.1 (turn.3 c.in-Some.driver.now)) c.net_role.ensures c.loop-leaf.invariant)

pub returns : goal.returns
returns c =
    let leaves = c.args.leaves.now in
    let drivers = c.args.drivers.now in
    let turns =
    zip_end leaves drivers c.loop-leaf.yielded c.into_iter-leaf-iterator.result c.loop-leaf.leaf-iterator c.next.new.self c.next.result (cc) (cc)
    c.loop-leaf.yielded_by c.in-None.is c.next.ensures.steps in
    all_roles c.args.nodes.now c.args.bounds.now c.args.nothing.now drivers leaves c.loop-leaf.roles.items (length c.loop-leaf.yielded) turns
    c.loop-leaf.invariant
