use Rattle.std.proofs.Common.{[], ◌++◌, length}
use Rattle.std.specs.Prelude.{option_map}
use Rattle.fir_ast.specs.working.Views.{expr_of, named_of, reset_of}
use Rattle.fir_ast.specs.working.TypeViews.{type_of}
use Rattle.fir_meaning.specs.Components as component
use Rattle.fir_meaning.specs.TypeGroup.{scope_at}
use Rattle.fir_meaning.specs.Visibility.{with_declaration}
use Rattle.fir_types.specs.working.ModuleNotes.{reset_notes}
use Rattle.fir_types.specs.working.Notes.{expression_notes}
use Rattle.fir_infer_resets.proofs.MeetsJoined.{declared_behind, meets_none}
use Rattle.fir_infer_resets.proofs.NotesPassed.{ahead_behind, passes_then}
use Rattle.fir_infer_resets.proofs.meets.in_register.Goals as goal

pub returns : goal.returns
returns c =
    let r = c.args.register.now in
    let n = named_of r.ident in
    let own = component.register (type_of r.ty) in
    let old = c.args.walk.now in
    let first = c.pass_expression.new.self in
    let second = c.pass_reset.new.self in
    λ place ts m before rest ahead same.
    let clock = expression_notes (scope_at m.modules before) (expr_of r.clock) in
    let inside = scope_at m.modules (with_declaration before n own) in
    let reset = reset_notes inside (option_map reset_of r.reset) in
    let one = c.pass_expression.ensures ts (scope_at m.modules before) (reset ++ rest) (ahead_behind ts old.notes.now clock reset rest ahead) in
    let two = c.pass_reset.ensures ts inside rest one.passes.ahead in
    let passes = passes_then ts (reset ++ rest) rest old first second one.passes two in
    declared_behind ts rest before n own [] old second c.declare.new.self c.declare.result (meets_none ts rest (length before.declared) old second passes same) c.declare.ensures
