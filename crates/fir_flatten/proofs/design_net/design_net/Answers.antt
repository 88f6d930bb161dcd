use Rattle.std.proofs.Common.{ap, ◌∙◌}
use Rattle.fir_flatten.specs.declared.design_net.DesignNet.{DesignNet}
use Rattle.fir_flatten.specs.working.PutModules.{no_values, put_copies}
use Rattle.fir_flatten.proofs.DesignNets.{makes_design}
use Rattle.fir_flatten.proofs.design_net.design_net.Goals as goal

pub returns : goal.returns
returns c =
    let parts = c.args.modules.now in
    let copies = c.args.copies.now in
    let leaves = c.in_ok-leaves.leaves in
    let values = c.in_ok-nodes.field-0 in
    let net : DesignNet = record {
      port_leaves = c.main_ports-port_leaves.result;
      leaves = leaves;
      nodes = values.nodes;
      roles = values.roles;
      arrays = c.in_ok-arrays.arrays;
    } in
    makes_design parts copies net c.main_ports-port_leaves.ensures c.in_ok-leaves.ensures
    (c.in_ok-nodes.ensures ∙ ap (λ n. put_copies parts copies (no_values n)) (c.len.ensures ∙ leaves.ok.0)) c.in_ok-arrays.ensures
