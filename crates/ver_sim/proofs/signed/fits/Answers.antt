use Rattle.std.proofs.Common.{◌-◌, arith}
use Rattle.fir_bits.proofs.Powers.{pow_le}
use Rattle.ver_sim.proofs.signed.fits.Goals as goal

pub overflow_add-half : goal.overflow_add-half
overflow_add-half c = omega (arith, c.mask.ensures, pow_le (c.args.width - 1) 127 (omega arith))
