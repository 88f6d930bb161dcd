-- The leaves and the roles are one list while they are gone through.
use Rattle.std.proofs.Common.{◌≡◌, ◌++◌, length, map, ap, ◌∙◌, rules}
use Rattle.std.specs.Prelude.{nat_lt}
use Rattle.std.proofs.lemmas.Iterator.{YieldsList-from_slice, YieldsList-from_zip}
use Rattle.std.proofs.lemmas.Iterator.Adapters.{YieldsList-from_vec}
use Rattle.std.proofs.lemmas.Iterator.Consumers.{YieldsList-end}
use Rattle.std.proofs.lemmas.List.{map_push}
use Rattle.fir_flatten.specs.working.FlatRoles.{added_by, flat_leaf_of}
use Rattle.fir_flatten.proofs.ListedLeaves.{all_nodes, all_leaves, given, so_far_more}
use Rattle.fir_flatten.proofs.flat_leaves.flat_leaves.Goals as goal

pub loop-leaf-preserved : goal.loop-leaf-preserved
loop-leaf-preserved c =
    let so = c.loop-leaf.invariant in
    let old = c.args.kept.now.places.items in
    let ports = c.args.port_leaves in
    let same : c.loop-leaf.kept.places.items ≡ old = so.places in
    let long : c.len.result ≡ length c.loop-leaf.leaves.items = search rules in
    let leaf = c.in-Some.leaf in
    let role = c.in-Some.role.now in
    let count = length c.loop-leaf.kept.nodes.items in
    let new = c.in_ok-flat_leaf.field-0 in
    let here : new ≡ flat_leaf_of old leaf (nat_lt (length c.loop-leaf.leaves.items) ports) role count =
    c.in_ok-flat_leaf.ensures.leaf ∙ ap (λ p. flat_leaf_of p leaf (nat_lt c.len.result ports) role count) same
    ∙ ap (λ n. flat_leaf_of old leaf (nat_lt n ports) role count) long in
    let grown : c.flat_leaf.new.kept.nodes.items ≡ c.loop-leaf.kept.nodes.items ++ added_by old role count =
    c.in_ok-flat_leaf.ensures.nodes ∙ ap (λ p. c.loop-leaf.kept.nodes.items ++ added_by p role count) same in
    record {
      places = c.in_ok-flat_leaf.ensures.places ∙ same;
      so_far = rw (c.in_ok-push.ensures.items, map_push given c.loop-leaf.yielded (leaf, c.in-Some.role))
          (so_far_more old ports c.args.kept.now.nodes.items c.loop-leaf.kept.nodes.items c.flat_leaf.new.kept.nodes.items (map given c.loop-leaf.yielded)
          (leaf, role) c.loop-leaf.leaves.items new so.so_far here grown);
    }

pub returns-clause-leaves : goal.returns-clause-leaves
returns-clause-leaves c =
    let all = YieldsList-end (YieldsList-from_zip {s = c.into_iter-leaf-iterator.result} (YieldsList-from_vec c.args.declared.items (cc) (cc)) (YieldsList-from_slice c.args.roles.now (cc)))
    c.loop-leaf.yielded c.loop-leaf.leaf-iterator c.loop-leaf.yielded_by c.next.result c.next.new.self c.in-None.is c.next.ensures.steps in
    all_leaves c.args.kept.now.places.items c.args.port_leaves c.args.kept.now.nodes.items c.loop-leaf.kept.nodes.items c.args.declared.items c.args.roles.now
    (map given c.loop-leaf.yielded) c.loop-leaf.leaves.items all.0 c.loop-leaf.invariant.so_far

pub returns-clause-nodes : goal.returns-clause-nodes
returns-clause-nodes c =
    let all = YieldsList-end (YieldsList-from_zip {s = c.into_iter-leaf-iterator.result} (YieldsList-from_vec c.args.declared.items (cc) (cc)) (YieldsList-from_slice c.args.roles.now (cc)))
    c.loop-leaf.yielded c.loop-leaf.leaf-iterator c.loop-leaf.yielded_by c.next.result c.next.new.self c.in-None.is c.next.ensures.steps in
    all_nodes c.args.kept.now.places.items c.args.port_leaves c.args.kept.now.nodes.items c.loop-leaf.kept.nodes.items c.args.declared.items c.args.roles.now
    (map given c.loop-leaf.yielded) c.loop-leaf.leaves.items all.0 c.loop-leaf.invariant.so_far
