use Rattle.std.proofs.lemmas.Result.{err_from_is_err_and}
use Rattle.fir_ast.specs.working.Views.{expr_of, named_of}
use Rattle.fir_meaning.specs.Components.{node}
use Rattle.fir_meaning.specs.ExpressionTypes.{expression_type}
use Rattle.fir_meaning.specs.TypeGroup.{scope_at, flipped_faults}
use Rattle.fir_type_table.specs.working.Tables.{types_of}
use Rattle.fir_types.specs.working.Notes.{expression_notes}
use Rattle.fir_check.proofs.NotedWalks.{noted_later}
use Rattle.fir_types.proofs.KnownScopes.{knows_before}
use Rattle.fir_types.proofs.GrownScopes.{goes_still, walks_found}
use Rattle.fir_check.proofs.StatementFaults.{expression_fails, statement_fails, statement_clear}
use Rattle.fir_check.proofs.statements.in_node.Goals as goal

pub returns-in_err-found-clause-passes : goal.returns-in_err-found-clause-passes
returns-in_err-found-clause-passes c =
    let p = err_from_is_err_and c.from_residual.result c.from_residual.ensures.1 in
    let n = named_of c.args.ident.now in
    let e = expr_of c.args.value.now in
    λ modules bundles before whole of begins walks.
    let knows = knows_before modules c.args.names.now whole bundles c.args.scope.now before n (node e) of begins walks in
    rw (p.1, p.2) (expression_fails (expression_type (scope_at modules before) e) (flipped_faults n) _ (c.in_err-found.ensures.found (scope_at modules before) knows))

pub returns-in_err-no_flips-clause-passes : goal.returns-in_err-no_flips-clause-passes
returns-in_err-no_flips-clause-passes c =
    let p = err_from_is_err_and c.from_residual-in_err-no_flips.result c.from_residual-in_err-no_flips.ensures.1 in
    let n = named_of c.args.ident.now in
    let e = expr_of c.args.value.now in
    λ modules bundles before whole of begins walks.
    let knows = knows_before modules c.args.names.now whole bundles c.args.scope.now before n (node e) of begins walks in
    rw (p.1, p.2) (statement_fails (expression_type (scope_at modules before) e) (flipped_faults n) _ _ (c.in_ok-found.ensures.found (scope_at modules before) knows) c.in_err-no_flips.ensures)

pub returns-clause-passes : goal.returns-clause-passes
returns-clause-passes c =
    let n = named_of c.args.ident.now in
    let e = expr_of c.args.value.now in
    λ modules bundles before whole of begins walks.
    let knows = knows_before modules c.args.names.now whole bundles c.args.scope.now before n (node e) of begins walks in
    let is = c.in_ok-found.ensures.found (scope_at modules before) knows in (
      statement_clear (expression_type (scope_at modules before) e) (flipped_faults n) _ is c.in_ok-no_flips.ensures,
      walks_found modules bundles c.args.scope.now c.declare_found.new.self before n (node e) _ walks c.in_ok-declare_found.ensures is.has,
      goes_still c.args.scope.now c.declare_found.new.self c.in_ok-declare_found.ensures.table,
    )

pub returns-clause-notes : goal.returns-clause-notes
returns-clause-notes c =
    let e = expr_of c.args.value.now in
    λ modules bundles before whole of begins walks.
    let knows = knows_before modules c.args.names.now whole bundles c.args.scope.now before (named_of c.args.ident.now) (node e) of begins walks in
    noted_later (types_of c.args.scope.now.table) c.declare_found.new.self _ _ (expression_notes (scope_at modules before) e)
    (goes_still c.args.scope.now c.declare_found.new.self c.in_ok-declare_found.ensures.table) (c.in_ok-found.ensures.notes (scope_at modules before) knows)
