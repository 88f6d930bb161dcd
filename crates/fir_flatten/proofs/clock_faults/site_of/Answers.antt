use Rattle.fir_flatten.proofs.SitesOfModules.{found_clear, found_unclear}
use Rattle.fir_flatten.proofs.clock_faults.site_of.Goals as goal

pub returns-then-is_unclear : goal.returns-then-is_unclear
returns-then-is_unclear c = λ m is.
    let leaf = rw c.deref.ensures.value at c.in_ok-declared.ensures.lookup.3 in
    let role = rw c.deref-2.ensures.value at c.in_ok-role.ensures.lookup.3 in
    found_unclear m c.args.module.now is c.args.leaf c.in_ok-declared.declared.now leaf.0 (leaf.1 c.in_ok-declared.declared.now)
    c.in_ok-role.role.now role.0 (role.1 c.in_ok-role.role.now) c.as_slice.result.now c.as_slice.ensures.nodes c.is_unclear.result
    c.is_unclear.ensures c.args.copy c.if-is_unclear.true

pub returns : goal.returns
returns c = λ m is within.
    let leaf = rw c.deref.ensures.value at c.in_ok-declared.ensures.lookup.3 in
    let role = rw c.deref-2.ensures.value at c.in_ok-role.ensures.lookup.3 in
    found_clear m c.args.module.now is c.args.leaf c.in_ok-declared.declared.now leaf.0 (leaf.1 c.in_ok-declared.declared.now)
    c.in_ok-role.role.now role.0 (role.1 c.in_ok-role.role.now) c.as_slice.result.now c.as_slice.ensures.nodes c.is_unclear.result
    c.is_unclear.ensures c.if-is_unclear.false
