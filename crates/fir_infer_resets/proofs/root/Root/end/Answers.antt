use Rattle.std.proofs.Common.{Some, IfOk, sym, ap, ◌∙◌, ◌≡◌, subst}
use Rattle.fir_ast.specs.Types.{reset}
use Rattle.fir_ast.specs.working.Views.{circuit_of}
use Rattle.fir_infer_resets.specs.working.Holding.{path_of}
use Rattle.fir_infer_resets.specs.working.FirstEnds.{first_ends, HasEnd, AreLeaves}
use Rattle.fir_infer_resets.proofs.FirstEndNumbers.{kind_reset, kind_other}
use Rattle.fir_infer_resets.proofs.root.Root.end.Goals as goal

pub returns-in-Reset : goal.returns-in-Reset
returns-in-Reset c = λ js before t kind leaves.
    let same : t ≡ reset = kind_reset t (kind ∙ ap Some c.in-Reset.is) in
    let number = c.args.module_number in
    let own = c.args.self.now in
    let steps = path_of c.args.steps.now in
    subst (λ u. IfOk c.reset.result (HasEnd before (first_ends number own steps u) c.reset.new.joined)) (sym same)
    (c.reset.ensures js before (subst (λ u. AreLeaves (circuit_of c.args.named.now) (first_ends number own steps u)) same leaves))

pub returns-in_default : goal.returns-in_default
returns-in_default c = λ js before t kind leaves.
    c.contact.ensures (circuit_of c.args.named.now) js before t kind (kind_other t c.args.kind kind c.in_default.not-Reset)
