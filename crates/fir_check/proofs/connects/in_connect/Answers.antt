use Rattle.std.proofs.Common.{◌≡◌, Some, subst, sym}
use Rattle.std.specs.Prelude.{option_map}
use Rattle.std.proofs.lemmas.Result.{err_from_is_err_and}
use Rattle.fir_ast.specs.working.Views.{expr_of, sink_of}
use Rattle.fir_meaning.specs.ConnectFaults.{connect_faults}
use Rattle.fir_meaning.specs.ExpressionTypes.{expression_type, reached_by, reaching}
use Rattle.fir_type_table.specs.working.Tables.{types_of}
use Rattle.fir_types.specs.working.Judged.{Is}
use Rattle.fir_types.specs.working.Seen.{found_type, reached_as, sink_path}
use Rattle.fir_types.specs.working.Walked.{Judges}
use Rattle.fir_check.specs.working.Connected.{IsRight, right_of}
use Rattle.fir_check.proofs.ConnectSides.{both_judged, by_reference, left_fails, right_fails}
use Rattle.fir_check.proofs.connects.in_connect.Goals as goal

pub returns-in_err-left-clause-found : goal.returns-in_err-left-clause-found
returns-in_err-left-clause-found c =
    let p = err_from_is_err_and c.from_residual.result c.from_residual.ensures.1 in
    λ typed knows. rw (p.1, p.2) (left_fails typed (sink_of c.args.sink.now) (expr_of c.args.source.now) _ _ (c.in_err-left.ensures.found typed knows))

pub returns-in_err-right-clause-found : goal.returns-in_err-right-clause-found
returns-in_err-right-clause-found c =
    let p = err_from_is_err_and c.from_residual-in_err-right.result c.from_residual-in_err-right.ensures.1 in
    λ typed knows. rw (p.1, p.2)
    (right_fails typed (sink_of c.args.sink.now) (expr_of c.args.source.now) _ _ _ (c.in_ok-left.ensures.found typed knows) (c.in_err-right.ensures.found typed knows))

pub returns-in-Some-Some-clause-found : goal.returns-in-Some-Some-clause-found
returns-in-Some-Some-clause-found c = λ typed knows.
    let ts = types_of c.args.scope.now.table in
    let s = sink_of c.args.sink.now in
    let e = expr_of c.args.source.now in
    let l = c.in-Some-Some.left in
    let r = c.in-Some-Some.right in
    let left : Is (reaching typed s) (Some (reached_as ts (sink_path s) l)) =
    subst (λ o. Is (reaching typed s) (option_map (reached_as ts (sink_path s)) o)) c.in-Some-Some.is-0 (c.in_ok-left.ensures.found typed knows) in
    let found = c.in_ok-right.ensures.found typed knows in
    let right : Is (expression_type typed e) (Some (found_type ts r.found)) =
    subst (λ o. Is (expression_type typed e) (option_map (λ x. found_type ts x.found) o)) c.in-Some-Some.is-1 found.0 in
    let reached : reached_by typed e ≡ right_of ts e r = subst (IsRight ts typed e) c.in-Some-Some.is-1 found.1 in
    both_judged typed s e (λ x. connect_faults c.args.place x.0 (reached_by typed e) x.1) (reached_as ts (sink_path s) l) (found_type ts r.found) c.on_connect.result left right
    (subst (λ o. Judges (connect_faults c.args.place (reached_as ts (sink_path s) l) o (found_type ts r.found)) c.on_connect.result) (sym reached)
    (c.on_connect.ensures (by_reference ts typed e r reached)))
