use Rattle.std.proofs.Common.{◌≡◌, Some}
use Rattle.fir_driven.specs.working.Indices.{IsIndex}
use Rattle.fir_merge.proofs.StandingIndices.{no_bound, step_is}
use Rattle.fir_merge.proofs.index.step_at.Goals as goal

pub returns-in_err-bound-clause-none : goal.returns-in_err-bound-clause-none
returns-in_err-bound-clause-none c =
    let place : c.args.picks ≡ Some c.in_ok-picks.field-0 = c.in_ok-picks.was in
    rw (c.from_residual-in_err-bound.ensures, place) (no_bound c.args.nodes.now c.args.bounds.now c.in_ok-picks.field-0 c.in_err-bound.ensures.lookup.3)

pub returns-clause-step : goal.returns-clause-step
returns-clause-step c =
    let bound = c.in_ok-bound.ensures.lookup.3 in
    let place : c.args.picks ≡ Some c.in_ok-picks.field-0 = c.in_ok-picks.was in
    let index : IsIndex c.args.nodes.now (Some c.in_ok-picks.field-0) c.in_ok-pick.pick = rw (← place) c.in_ok-pick.ensures.index in
    rw place (step_is c.args.nodes.now c.args.bounds.now c.in_ok-picks.field-0 c.in_ok-bound.bound.now c.in_ok-pick.pick index bound.0
    (bound.1 c.in_ok-bound.bound.now))
