use Rattle.std.proofs.Common.{◌∷◌, ◌++◌, [], ap, ◌∙◌, append_assoc}
use Rattle.fir_leaf.specs.working.ClockFaults.{index_places}
use Rattle.fir_leaf.specs.working.Nodes.{entries, picks_at}
use Rattle.fir_flatten.proofs.FirstsOfTwo.{one_first}
use Rattle.fir_flatten.proofs.index_places.first_index.Goals as goal

pub loop-pick-preserved : goal.loop-pick-preserved
loop-pick-preserved c =
    let pick = c.in-Some.pick in
    let later = c.loop-pick.invariant.0 in (
      pick.place ∷ later,
      c.loop-pick.invariant.1 ∙ ap (λ ps. index_places ps ++ later) c.in-Some.ensures.index.is
          ∙ append_assoc (index_places (picks_at (entries c.args.nodes.now) pick.before)) (pick.place ∷ []) later,
      c.earlier-first.ensures (pick.place ∷ []) later (one_first pick.place) c.loop-pick.invariant.2,
    )
