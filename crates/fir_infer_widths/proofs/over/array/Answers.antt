use Rattle.std.proofs.Common.{◌++◌, ap, ◌∙◌}
use Rattle.fir_ast.specs.working.Views.{named_of}
use Rattle.fir_ast.specs.working.TypeViews.{type_of}
use Rattle.fir_infer_widths.proofs.ToldLeaves.{none_written, first_written}
use Rattle.fir_infer_widths.proofs.over.array.Goals as goal

pub returns-in_default : goal.returns-in_default
returns-in_default c = none_written (named_of c.args.ident.now) (type_of c.args.ty.now) (rw c.in_default.is at c.in_ok-steps.ensures)

pub returns : goal.returns
returns c =
    first_written (named_of c.args.ident.now) (type_of c.args.ty.now) c.in-Some.steps.items c.in_ok-leaf.leaf (rw c.in-Some.is at c.in_ok-steps.ensures)
    (c.in_ok-leaf.ensures ∙ ap (λ x. c.args.ident.now.name ++ x) c.deref.ensures.value)
