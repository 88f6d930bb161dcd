use Rattle.fir_net.proofs.SharedNodes.{shares}
use Rattle.fir_net.proofs.sharing.share.Goals as goal

pub returns-clause-ok : goal.returns-clause-ok
returns-clause-ok c =
    let e = c.in_ok-number.ensures in
    let stored = e.stored in
    rw c.new.ensures (shares c.args.nodes.now.keys c.insert_full.new.self.keys c.args.node stored.0 c.in_ok-number.number e.keys stored.1 stored.2)
