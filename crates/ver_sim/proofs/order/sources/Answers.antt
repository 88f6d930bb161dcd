use Rattle.std.proofs.Common.{ℕ, List, map, ap, ◌∙◌}
use Rattle.std.specs.Prelude.{Option, Vec}
use Rattle.std.specs.declared.alloc.Global.{Global}
use Rattle.std.proofs.lemmas.Result.{IfOk-weaker}
use Rattle.ver_sim.specs.working.Orders.{IsTaskGraph, drivers_of}
use Rattle.ver_sim.specs.working.Works.{work_places}
use Rattle.ver_sim.proofs.TaskGraphs.{graph_is}
use Rattle.ver_sim.proofs.order.sources.Goals as goal

pub returns : goal.returns
returns c =
    IfOk-weaker c.sources_by.result _ (λ (found : Vec (List ℕ) Global). IsTaskGraph c.args.tasks.now found.items)
    (λ (found : Vec (List ℕ) Global) all.
    graph_is c.args.tasks.now c.in_ok-drivers.drivers.items c.in_ok-drivers.ensures found.items
    (all ∙ ap (λ (ds : List (Option ℕ)). map (λ t. drivers_of ds (work_places t.work)) c.args.tasks.now) c.as_slice.ensures.value))
    c.sources_by.ensures
