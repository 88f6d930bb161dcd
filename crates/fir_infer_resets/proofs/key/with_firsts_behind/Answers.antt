use Rattle.std.proofs.Common.{◌≡◌, ◌++◌, ap, sym, ◌∙◌, map, take, drop}
use Rattle.std.proofs.lemmas.List.{take-map, drop-map}
use Rattle.fir_reset.specs.working.ElementPaths.{any_element}
use Rattle.fir_infer_resets.specs.working.Holding.{path_of, step_of}
use Rattle.fir_infer_resets.proofs.key.with_firsts_behind.Goals as goal

pub loop-step-init : goal.loop-step-init
loop-step-init c =
    let path = c.args.path.now in
    let k = c.args.kept in
    let front : path_of c.in_ok-steps.steps.items ≡ take k (path_of path) = ap path_of c.in_ok-steps.ensures.items ∙ sym (take-map step_of k path) in
    ap (λ p. p ++ map any_element (path_of (drop k path))) front ∙ ap (λ p. take k (path_of path) ++ map any_element p) (sym (drop-map step_of k path))
