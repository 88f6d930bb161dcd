use Rattle.fir_net_names.proofs.PassedNames.{passed_set}
use Rattle.fir_net_names.proofs.taken.Taken.set_start.Goals as goal

pub invariant_of-self : goal.invariant_of-self
invariant_of-self c =
    let taken = c.args.self.now in
    record { passed = passed_set c.insert.result taken.names taken.starts c.insert.new.self c.args.base c.args.start c.requires c.insert.ensures.updates c.insert.ensures.err taken.passed }
