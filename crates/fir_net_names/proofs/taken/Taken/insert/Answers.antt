use Rattle.fir_net_names.proofs.PassedNames.{still_passed}
use Rattle.fir_net_names.proofs.taken.Taken.insert.Goals as goal

pub invariant_of-self : goal.invariant_of-self
invariant_of-self c =
    let taken = c.args.self.now in
    record { passed = still_passed c.insert.result taken.names c.insert.new.self c.args.name taken.starts c.insert.ensures.updates c.insert.ensures.err taken.passed }
