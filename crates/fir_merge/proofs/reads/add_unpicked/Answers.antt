use Rattle.fir_merge.proofs.StandingReads.{unpicked_some}
use Rattle.fir_merge.proofs.reads.add_unpicked.Goals as goal

pub returns-in-len1-up-clause-stands : goal.returns-in-len1-up-clause-stands
returns-in-len1-up-clause-stands c =
    unpicked_some c.args.net.now c.args.indices.now c.args.elements.now c.args.zero.now c.in-len1-up.len_at_least
