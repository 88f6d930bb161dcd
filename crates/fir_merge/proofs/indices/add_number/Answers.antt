use Rattle.std.proofs.Common.{ℕ, ◌<◌, ◌≤◌, ◌^◌, rules, sym, subst}
use Rattle.fir_merge.proofs.StandingConditions.{number_fits, number_stands}
use Rattle.fir_merge.proofs.indices.add_number.Goals as goal

pub of-requires-clause-narrow : goal.of-requires-clause-narrow
of-requires-clause-narrow c =
    let below : c.args.number < 2 ^ 128 = search rules in
    subst (λ (w : ℕ). w ≤ 128) (sym c.least_width-width.ensures) (number_fits c.least_width_is_least.ensures c.args.number below).0

pub returns-clause-stands : goal.returns-clause-stands
returns-clause-stands c =
    number_stands c.add_value.new.net c.in_ok-add_value.field-0 c.args.number c.least_width-width.result c.of.result c.of.ensures c.least_width-width.ensures
    c.in_ok-add_value.ensures.stands
