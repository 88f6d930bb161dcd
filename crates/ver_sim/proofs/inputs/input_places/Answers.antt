use Rattle.ver_ast.specs.Nets.{input_nets}
use Rattle.ver_sim.specs.working.Inputs.{IsPlaceOf}
use Rattle.ver_sim.proofs.PairLists.{all_more}
use Rattle.ver_sim.proofs.PlannedNets.{places_are}
use Rattle.ver_sim.proofs.inputs.input_places.Goals as goal

pub returns : goal.returns
returns c =
    let v = c.args.v.now in
    places_are v _ (input_nets v) (all_more (IsPlaceOf v) _ _ (input_nets v) c.new-found.ensures.items c.in_ok-put_input_places.ensures)
