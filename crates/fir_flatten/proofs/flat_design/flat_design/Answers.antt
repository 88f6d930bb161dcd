-- The nodes that the roles read are kept, what leaves add stands behind them, and behind that what arrays add.
use Rattle.std.proofs.Common.{◌≡◌, ◌≤◌, ◌++◌, List, length, ap, ◌∙◌, subst}
use Rattle.std.specs.List.{sum_by}
use Rattle.fir_net.specs.declared.net.FlatNet.{FlatNet}
use Rattle.fir_net.specs.working.Arrays.{words_of}
use Rattle.fir_merge.specs.working.NodeTerms.{ReadBefore}
use Rattle.fir_whens.specs.declared.net_role.NetRole.{NetRole}
use Rattle.fir_flatten.specs.working.FlatArrays.{flat_arrays_of, nodes_behind}
use Rattle.fir_flatten.specs.working.FlatRoles.{added_behind, flat_leaves_of}
use Rattle.fir_flatten.specs.working.KeptNodes.{Keeps}
use Rattle.fir_flatten.proofs.FlattenedDesigns.{design_flat}
use Rattle.fir_flatten.proofs.flat_design.flat_design.Goals as goal

pub returns-clause-flat : goal.returns-clause-flat
returns-clause-flat c =
    let design = c.args.design in
    let kept = c.in_ok-kept.kept in
    let places = kept.places.items in
    let count = length kept.nodes.items in
    let middle = c.flat_leaves.new.kept.nodes.items in
    let roles : c.deref.result.now ≡ design.roles.items = c.deref.ensures.value in
    let roles_again : c.deref-2.result.now ≡ design.roles.items = c.deref-2.ensures.value in
    let keeps : ReadBefore 0 design.nodes.items → Keeps design.nodes.items design.roles.items kept =
    subst (λ (rs : List NetRole). ReadBefore 0 design.nodes.items → Keeps design.nodes.items rs kept) roles c.in_ok-kept.ensures in
    let flat : FlatNet = record { name = c.args.name; leaves = c.from_vec.result; nodes = c.from_vec-2.result; state = c.from_vec-3.result; arrays = c.from_vec-4.result; array_order = c.from_vec-5.result } in
    let leaves : c.from_vec.result ≡ flat_leaves_of places design.port_leaves 0 design.leaves.items design.roles.items count =
    c.from_vec.ensures ∙ c.in_ok-leaves.ensures.leaves
    ∙ ap (λ (rs : List NetRole). flat_leaves_of places design.port_leaves 0 design.leaves.items rs count) roles_again in
    let of_leaves : middle ≡ kept.nodes.items ++ added_behind places design.leaves.items design.roles.items count =
    c.in_ok-leaves.ensures.nodes ∙ ap (λ (rs : List NetRole). kept.nodes.items ++ added_behind places design.leaves.items rs count) roles_again in
    let arrays : c.from_vec-4.result ≡ flat_arrays_of design.arrays.items (length middle) = c.from_vec-4.ensures ∙ c.in_ok-arrays.ensures.arrays in
    let nodes : c.from_vec-2.result ≡ middle ++ nodes_behind design.arrays.items (length middle) = c.from_vec-2.ensures ∙ c.in_ok-arrays.ensures.nodes in
    let few : sum_by (words_of c.from_vec-4.result) c.from_vec-5.result ≤ 4194304 =
    rw (c.from_vec-4.ensures, c.from_vec-5.ensures) (rw (c.deref-3.ensures.value, c.deref-4.ensures.value) at c.in_ok-few_words.ensures) in
    λ d ports plain so state order.
    design_flat c.roles_are_whole.ensures d ports plain design so kept (keeps so.before) flat middle leaves of_leaves arrays nodes
    (c.from_vec-3.ensures ∙ state) (c.from_vec-5.ensures ∙ order) few
