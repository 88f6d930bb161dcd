use Rattle.std.proofs.Common.{◌≡◌, ℕ, ◌<◌, List, length, sym, ap, ◌∙◌}
use Rattle.std.specs.Prelude.{slice_get}
use Rattle.ver_sim.specs.working.Orders.{sources_of}
use Rattle.ver_sim.proofs.TaskGraphs.{if_some}
use Rattle.ver_sim.proofs.order.TaskGraphGraph.target.Goals as goal

pub returns-clause-within : goal.returns-clause-within
returns-clause-within c =
    let found : c.source_at.result ≡ slice_get (sources_of c.args.self.now.sources.items c.args.vertex) c.args.place =
    c.source_at.ensures.found ∙ ap (λ (ns : List (List ℕ)). slice_get (sources_of ns c.args.vertex) c.args.place) c.as_slice.ensures.value in
    if_some (λ j. j < length c.args.self.now.sources.items) c.source_at.result (λ j e. c.args.self.now.within c.args.vertex c.args.place j (sym found ∙ e))
