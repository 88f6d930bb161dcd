use Rattle.std.proofs.Common.{ap, ◌∙◌}
use Rattle.std.proofs.lemmas.Result.{err_from_is_err_and}
use Rattle.fir_ast.specs.working.Views.{expr_of, sink_of}
use Rattle.fir_type_table.specs.working.Tables.{types_of}
use Rattle.fir_types.specs.working.Seen.{sink_path}
use Rattle.fir_types.proofs.PartViews.{reference_view}
use Rattle.fir_check.proofs.ConnectSides.{source_reached}
use Rattle.fir_check.proofs.PartWalks.{reference_found}
use Rattle.fir_check.proofs.connects.in_source.Goals as goal

pub returns-in_err-reach-clause-found : goal.returns-in_err-reach-clause-found
returns-in_err-reach-clause-found c =
    let p = err_from_is_err_and c.from_residual.result c.from_residual.ensures.1 in
    let seen = ap expr_of c.in-Ref.is ∙ reference_view c.in-Ref.reference in
    λ typed knows. rw (p.1, p.2, seen) (c.in_err-reach.ensures.found typed knows)

pub returns-in-Some-clause-found : goal.returns-in-Some-clause-found
returns-in-Some-clause-found c =
    let s = sink_of c.in-Ref.reference in
    let seen = ap expr_of c.in-Ref.is ∙ reference_view c.in-Ref.reference in
    λ typed knows. rw seen (source_reached (types_of c.args.scope.now.table) typed s _ c.in-Some.reach c.in-Some.is (c.in_ok-reach.ensures.found typed knows))

pub returns-in-None-clause-found : goal.returns-in-None-clause-found
returns-in-None-clause-found c =
    let s = sink_of c.in-Ref.reference in
    let seen = ap expr_of c.in-Ref.is ∙ reference_view c.in-Ref.reference in
    λ typed knows. rw seen (reference_found (types_of c.args.scope.now.table) typed s (sink_path s) _ _ c.in-None.is (c.in_ok-reach.ensures.found typed knows), tt)
