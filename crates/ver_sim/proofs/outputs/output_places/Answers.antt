use Rattle.ver_ast.specs.Nets.{output_nets}
use Rattle.ver_sim.specs.working.Inputs.{IsPlaceOf}
use Rattle.ver_sim.proofs.PairLists.{all_more}
use Rattle.ver_sim.proofs.PlannedNets.{places_are}
use Rattle.ver_sim.proofs.outputs.output_places.Goals as goal

pub returns : goal.returns
returns c =
    let v = c.args.v.now in
    places_are v _ (output_nets v) (all_more (IsPlaceOf v) _ _ (output_nets v) c.new-found.ensures.items c.in_ok-put_output_places.ensures)
