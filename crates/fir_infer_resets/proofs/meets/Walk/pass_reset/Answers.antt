use Rattle.std.proofs.Common.{◌++◌, ap}
use Rattle.std.specs.Prelude.{option_map}
use Rattle.fir_ast.specs.working.Views.{expr_of, reset_of}
use Rattle.fir_types.specs.working.Notes.{expression_notes}
use Rattle.fir_infer_resets.proofs.NotesPassed.{ahead_behind, passes_then}
use Rattle.fir_infer_resets.proofs.meets.Walk.pass_reset.Goals as goal

pub returns-in-Some : goal.returns-in-Some
returns-in-Some c =
    let r = c.in-Some.reset in
    let seen = ap (option_map reset_of) c.in-Some.is in
    rw seen
    (λ ts scope rest ahead.
    let init = expression_notes scope (expr_of r.init) in
    let first = c.pass_expression.ensures ts scope (init ++ rest) (ahead_behind ts c.args.self.now.notes.now (expression_notes scope (expr_of r.condition)) init rest ahead) in
    let second = c.pass_expression-in-Some.ensures ts scope rest first.passes.ahead in
    passes_then ts (init ++ rest) rest _ _ _ first.passes second.passes)
