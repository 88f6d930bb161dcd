use Rattle.std.proofs.lemmas.Result.{IfOk-weaker}
use Rattle.fir_flatten.proofs.FaultsOfSites.{first_shown, none_shown}
use Rattle.fir_flatten.proofs.clock_faults.clock_fault.Goals as goal

pub returns-in_default : goal.returns-in_default
returns-in_default c = λ scenes parts all.
    let first = rw c.in_default.is at (c.first_site.ensures scenes parts) in
    none_shown scenes c.args.copies.now _ all first

pub returns : goal.returns
returns c =
    IfOk-weaker c.fault_at.result _ _
    (λ f told scenes parts all.
    first_shown scenes c.args.copies.now _ all c.in-Some.site (rw c.in-Some.is at (c.first_site.ensures scenes parts)) f (told scenes parts all)) c.fault_at.ensures
