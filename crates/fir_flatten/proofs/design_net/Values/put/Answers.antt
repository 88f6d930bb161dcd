use Rattle.std.proofs.Common.{◌≡◌, ◌++◌, List, length, map, refl, sym, ap, ◌∙◌}
use Rattle.std.proofs.lemmas.List.{with_items_is}
use Rattle.fir_net.specs.declared.node.Node.{Node}
use Rattle.fir_whens.specs.declared.net_role.NetRole.{NetRole}
use Rattle.fir_flatten.specs.declared.offsets.Offsets.{Offsets}
use Rattle.fir_flatten.specs.working.MovedNets.{node_moved, offsets_of}
use Rattle.fir_flatten.specs.working.PutModules.{Given, given_from, put_module}
use Rattle.fir_flatten.proofs.PutLeaves.{length_given}
use Rattle.fir_flatten.proofs.design_net.Values.put.Goals as goal

same_given : (ns ns2 : List Node) (rs rs2 : List NetRole) → ns ≡ ns2 → rs ≡ rs2
    → ◌≡◌ {A = Given} (record { nodes = ns; roles = rs }) (record { nodes = ns2; roles = rs2 })
same_given ns ns2 rs rs2 e f = rw (e, f) refl

pub returns : goal.returns
unfolding put_module
returns c =
    let v = c.args.self.now in
    let at = c.new-at.result in
    let p = c.args.module.now in
    let count = c.len.ensures ∙ v.nodes.ok.0 in
    let is : at ≡ offsets_of c.args.copy.now p.part.now.port_leaves (length v.nodes.items) =
    c.new-at.ensures ∙ ap (offsets_of c.args.copy.now p.part.now.port_leaves) count in
    let given : c.give_roles.new.all ≡ given_from at 0 p.net.now.roles.items v.roles.items =
    c.give_roles.ensures ∙ ap (λ (rs : List NetRole). given_from at 0 rs c.deref_mut.result.now) c.deref.ensures.value
    ∙ ap (given_from at 0 p.net.now.roles.items) c.deref_mut.ensures.value in
    let long : length c.give_roles.new.all ≡ v.roles.len =
    ap length given ∙ length_given at 0 p.net.now.roles.items v.roles.items ∙ sym v.roles.ok.0 in
    same_given c.put_nodes.new.all.items _ _ _
    (c.in_ok-put_nodes.ensures ∙ ap (λ (ns : List Node). v.nodes.items ++ map (node_moved at) ns) c.as_slice.ensures.nodes
    ∙ ap (λ (o : Offsets). v.nodes.items ++ map (node_moved o) p.net.now.nodes) is)
    (with_items_is v.roles c.give_roles.new.all long ∙ given ∙ ap (λ (o : Offsets). given_from o 0 p.net.now.roles.items v.roles.items) is)
