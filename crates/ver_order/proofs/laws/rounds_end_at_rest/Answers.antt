use Rattle.std.proofs.Common.{arith}
use Rattle.ver_order.proofs.Rounds.{settles}
use Rattle.ver_order.proofs.laws.rounds_end_at_rest.Goals as goal

pub returns : goal.returns
returns c v valid state tick env shown list h = settles v valid state tick env shown _ (omega arith) list h
