use Rattle.ver_sim.proofs.CutNumbers.{raised_all}
use Rattle.ver_sim.proofs.numbers.shifted_up.Goals as goal

pub returns-else-by-lt128 : goal.returns-else-by-lt128
returns-else-by-lt128 c = raised_all c.args.number c.args.by c.if-by-lt128.false
