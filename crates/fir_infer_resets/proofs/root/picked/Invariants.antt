use Rattle.std.proofs.Common.{◌≡◌, drop, map}
use Rattle.fir_types.specs.declared.note.Pick.{Pick}
use Rattle.fir_infer_resets.specs.declared.root.Access.TheVariants.{Fixed}
use Rattle.fir_infer_resets.specs.working.FirstEnds.{access_behind}
use Rattle.fir_infer_resets.proofs.root.picked.Given as goal

abbrev pub invariant-loop-pick : goal.invariant-loop-pick
invariant-loop-pick l =
    access_behind l.place Fixed (map (λ (p : Pick). p.length) l.picks) ≡
    access_behind l.place l.access (map (λ (p : Pick). p.length) (drop l.pick-index l.picks))
