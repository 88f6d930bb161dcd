use Rattle.std.proofs.Common.{List, ap, subst}
use Rattle.std.specs.Prelude.{flat_map}
use Rattle.fir_base.specs.Lists.{In}
use Rattle.ver_ast.specs.declared.tree.Port.{Port}
use Rattle.ver_ast.specs.Nets.{output_net}
use Rattle.ver_sim.specs.working.Inputs.{IsPlaceOf}
use Rattle.ver_sim.proofs.PairLists.{in_at, loop_more, loop_done}
use Rattle.ver_sim.proofs.outputs.put_output_places.Goals as goal

pub loop-port-preserved : goal.loop-port-preserved
loop-port-preserved c =
    let v = c.args.v.now in
    let items = c.as_slice-port-items.result.now in
    let item = c.port-item.result in
    let known = subst (λ (xs : List Port). In xs item) c.as_slice-port-items.ensures (in_at items c.loop-port.port-index item c.loop-port-test.true c.port-item.is) in
    loop_more (IsPlaceOf v) (λ (p : Port). output_net p.direction p) items c.loop-port.port-index item _ _ _ c.loop-port-test.true c.port-item.is c.loop-port.invariant
    (c.in_ok-put_output_place.ensures v c.requires known)

pub returns : goal.returns
returns c =
    let v = c.args.v.now in
    let items = c.as_slice-port-items.result.now in
    loop_done (IsPlaceOf v) (λ (p : Port). output_net p.direction p) items c.loop-port.port-index _ _ _ c.loop-port-test.false
    (ap (flat_map (λ (p : Port). output_net p.direction p)) c.as_slice-port-items.ensures) c.loop-port.invariant
