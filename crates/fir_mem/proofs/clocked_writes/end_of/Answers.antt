use Rattle.std.proofs.Common.{arith, ◌^◌, ◌<◌, ℕ, ap, sym, ◌∙◌, subst}
use Rattle.fir_mem.proofs.Clocked.{end_fits, is_end}
use Rattle.fir_mem.proofs.clocked_writes.end_of.Goals as goal

pub of-requires-clause-narrow : goal.of-requires-clause-narrow
of-requires-clause-narrow c =
    let e = end_fits c.least_width_is_least.ensures c.args.words c.ranges.words.fits in omega (arith, e.1, c.least_width.ensures)

pub of-requires-clause-below : goal.of-requires-clause-below
of-requires-clause-below c =
    let e = end_fits c.least_width_is_least.ensures c.args.words c.ranges.words.fits in
    subst (λ (w : ℕ). c.args.words < 2 ^ w) (sym c.least_width.ensures) e.2

pub returns : goal.returns
returns c = is_end c.least_width_is_least.ensures c.args.words c.ranges.words.fits c.of.result (c.of.ensures ∙ ap (λ (w : ℕ). record { width = w; number = c.args.words }) c.least_width.ensures)
