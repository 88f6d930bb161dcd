use Rattle.std.proofs.Common.{◌++◌, ap, ◌∙◌}
use Rattle.fir_ast.specs.working.Views.{circuit_of}
use Rattle.fir_infer_resets.specs.working.Holding.{path_of}
use Rattle.fir_infer_resets.proofs.FirstEndNumbers.{reset_numbered}
use Rattle.fir_infer_resets.proofs.root.Root.reset.Goals as goal

pub returns-in_ok-number-in_default : goal.returns-in_ok-number-in_default
returns-in_ok-number-in_default c = λ js before leaves.
    let steps = path_of c.args.steps.now in
    reset_numbered (circuit_of c.args.named.now) js c.args.joined.now c.reset.new.self before c.args.module_number c.args.self.now c.in-Leaf.path c.in-Leaf.field-1
    c.in-Leaf.access steps (path_of c.in_ok-path-in_default.path.items) c.in_ok-number-in_default.number c.in-Leaf.is c.in_default.not-Empty
    (c.in_ok-path-in_default.ensures ∙ ap (λ l. path_of l ++ steps) c.as_slice.ensures.value) leaves
    (λ l. rw c.as_slice-in_default.ensures.value at (c.in_ok-number-in_default.ensures js c.in-Leaf.field-1 before (rw c.as_slice-in_default.ensures.value l)))
