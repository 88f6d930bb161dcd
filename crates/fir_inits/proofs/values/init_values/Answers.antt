use Rattle.std.proofs.Common.{sym, ◌∙◌}
use Rattle.fir_inits.proofs.InitNumbers.{are_values, no_values}
use Rattle.fir_inits.proofs.values.init_values.Goals as goal

pub returns-then-not-has_async_reset : goal.returns-then-not-has_async_reset
returns-then-not-has_async_reset c = λ is. rw c.new.ensures.items (no_values c.args.net.now (sym c.has_async_reset.ensures ∙ c.if-not-has_async_reset.true))

pub returns : goal.returns
returns c = λ is.
    rw (c.in_ok-inits_of.ensures, c.as_slice.ensures.value) (are_values c.args.net.now c.requires c.args.order.now is c.in_ok-numbers.numbers.items c.in_ok-numbers.ensures)
