use Rattle.std.proofs.Common.{ap, ◌∙◌}
use Rattle.std.specs.Prelude.{slice_get}
use Rattle.std.proofs.lemmas.Result.{on_ok_weaker}
use Rattle.fir_ast.specs.working.Views.{circuit_of}
use Rattle.fir_width.specs.working.DeclaredWidths.{leaf_widths}
use Rattle.fir_leaf_table.proofs.HeldLeaves.{pushes_number}
use Rattle.fir_leaf_table.proofs.push_leaves.push_number.Goals as goal

pub returns : goal.returns
returns c =
    let circuit = circuit_of c.args.fitted.now in
    on_ok_weaker c.push_leaf.result
    (pushes_number circuit c.args.flip c.args.number c.args.leaves.now.items c.push_leaf.new.leaves.items c.args.signed c.of-width.result
    (λ e w at are. c.of-width.ensures e w (ap (slice_get (leaf_widths circuit)) c.new.ensures ∙ at) are))
    c.push_leaf.ensures
