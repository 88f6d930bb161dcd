use Rattle.std.proofs.Common.{◌++◌, ap, ◌∙◌}
use Rattle.fir_ast.specs.working.Views.{named_of}
use Rattle.fir_type_table.specs.working.Tables.{types_of}
use Rattle.fir_infer_widths.specs.working.SpotFaults.{leaves_of_side}
use Rattle.fir_infer_widths.proofs.ToldLeaves.{none_unwritten, first_unwritten}
use Rattle.fir_infer_widths.proofs.legal.port.Goals as goal

pub returns-in_default : goal.returns-in_default
returns-in_default c =
    none_unwritten (named_of c.args.ident.now) c.args.inward (leaves_of_side (types_of c.args.table.now) c.args.side)
    (rw c.in_default.is at c.in_ok-steps.ensures)

pub returns : goal.returns
returns c =
    first_unwritten (named_of c.args.ident.now) c.args.inward (leaves_of_side (types_of c.args.table.now) c.args.side) c.in-Some.steps.items
    c.in_ok-leaf.leaf (rw c.in-Some.is at c.in_ok-steps.ensures)
    (c.in_ok-leaf.ensures ∙ ap (λ x. c.args.ident.now.name ++ x) c.deref.ensures.value)
