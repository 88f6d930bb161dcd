use Rattle.std.proofs.Common.{◌++◌, Some, ap, ◌∙◌}
use Rattle.fir_ast.specs.Statements.{SinkReference}
use Rattle.fir_ast.specs.working.Views.{sink_of}
use Rattle.fir_meaning.specs.LeafPaths.{path_text}
use Rattle.fir_meaning.specs.SizeFaults.{word_over}
use Rattle.fir_type_table.specs.working.Tables.{types_of}
use Rattle.fir_types.specs.working.Seen.{sink_path}
use Rattle.fir_types.proofs.PartViews.{sink_view}
use Rattle.fir_meaning.specs.working.AssignedWidths.{assigned}
use Rattle.fir_infer_widths.specs.working.SpotFaults.{leaves_of_side}
use Rattle.fir_infer_widths.proofs.ToldLeaves.{none_in_sink, first_in_sink}
use Rattle.fir_infer_widths.proofs.over.referred.Goals as goal

pub returns-in_default : goal.returns-in_default
returns-in_default c =
    none_in_sink (assigned c.args.widths.now) (sink_of c.args.reference.now) (leaves_of_side (types_of c.args.table.now) c.args.side)
    (rw c.in_default.is at c.in_ok-steps.ensures)

pub returns : goal.returns
returns c =
    first_in_sink (assigned c.args.widths.now) (sink_of c.args.reference.now) (leaves_of_side (types_of c.args.table.now) c.args.side) c.in-Some.steps.items
    c.in_ok-leaf.leaf (rw c.in-Some.is at c.in_ok-steps.ensures)
    (c.in_ok-leaf.ensures ∙ ap (λ x. path_text (sink_path (sink_of c.args.reference.now)) ++ x) c.deref.ensures.value)
    ∙ ap (λ (s : SinkReference). Some (word_over s.place c.in_ok-leaf.leaf)) (sink_view c.args.reference.now)
