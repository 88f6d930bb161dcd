use Rattle.fir_fold_rules.proofs.SliceRules.{bits_bits}
use Rattle.fir_fold_rules.proofs.rules.slices.bits_bits.Goals as goal

pub returns : goal.returns
returns c = bits_bits c.args.ty c.args.a.now c.args.n c.args.m c.in_ok-inner.inner.read c.in_ok-inner.inner.high c.in_ok-inner.inner.low c.in_ok-high.high c.in_ok-low.low c.in_ok-inner.ensures c.in_ok-high.ensures c.in_ok-low.ensures
