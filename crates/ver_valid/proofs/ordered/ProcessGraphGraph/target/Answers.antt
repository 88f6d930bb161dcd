use Rattle.std.proofs.Common.{◌≡◌, ℕ, ◌<◌, List, length, sym, ap, ◌∙◌}
use Rattle.std.specs.Prelude.{slice_get}
use Rattle.ver_valid.specs.working.Drivers.{targets_of}
use Rattle.ver_valid.proofs.ProcessReads.{if_some}
use Rattle.ver_valid.proofs.ordered.ProcessGraphGraph.target.Goals as goal

pub returns-clause-within : goal.returns-clause-within
returns-clause-within c =
    let found : c.target_at.result ≡ slice_get (targets_of c.args.self.now.targets.items c.args.vertex) c.args.place =
    c.target_at.ensures.found ∙ ap (λ (ts : List (List ℕ)). slice_get (targets_of ts c.args.vertex) c.args.place) c.as_slice.ensures.value in
    if_some (λ t. t < length c.args.self.now.targets.items) c.target_at.result (λ t e. c.args.self.now.within c.args.vertex c.args.place t (sym found ∙ e))
