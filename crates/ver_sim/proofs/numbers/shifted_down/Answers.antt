use Rattle.ver_sim.proofs.CutNumbers.{lowered_all}
use Rattle.ver_sim.proofs.numbers.shifted_down.Goals as goal

pub returns-else-by-lt128 : goal.returns-else-by-lt128
returns-else-by-lt128 c = lowered_all c.args.number c.args.by c.ranges.number.fits c.if-by-lt128.false
