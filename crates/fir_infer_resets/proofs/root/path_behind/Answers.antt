use Rattle.std.proofs.Common.{◌++◌, ap, ◌∙◌}
use Rattle.std.proofs.lemmas.List.{map-append}
use Rattle.fir_infer_resets.specs.working.Holding.{path_of, step_of}
use Rattle.fir_infer_resets.proofs.root.path_behind.Goals as goal

pub returns : goal.returns
returns c =
    ap path_of (c.in_ok-extend_from_slice.ensures.items ∙ ap (λ l. l ++ c.args.steps.now) c.in_ok-whole.ensures.items)
    ∙ map-append step_of c.args.path.now c.args.steps.now
