use Rattle.std.proofs.Common.{◌≡◌, length, slice_get, Some, refl, arith}
use Rattle.std.proofs.lemmas.Option.{slice_get_read}
use Rattle.fir_base.proofs.Elements.{there}
use Rattle.fir_meaning.specs.working.LeafedModules.{leafed_module}
use Rattle.fir_flatten.proofs.SitesOfCopies.{below_module, next_copy, without_copy, without_module}
use Rattle.fir_flatten.proofs.clock_faults.first_with_copy.Goals as goal

pub returns-in_default : goal.returns-in_default
returns-in_default c = λ scenes parts start.
    next_copy scenes c.args.copies.now c.args.number 0 (without_copy scenes c.args.copies.now c.args.number c.in_default.ensures.lookup.3) c.args.found start

pub returns-in-Some-get : goal.returns-in-Some-get
returns-in-Some-get c = λ scenes parts start.
    let copies = c.args.copies.now in
    let modules = c.args.modules.now in
    let k = c.in-Some.copy.now in
    let p = c.in-Some-get.module.now in
    let one = c.in-Some.ensures.lookup.3 in
    let other = c.in-Some-get.ensures.lookup.3 in
    let is : slice_get copies c.args.number ≡ Some k = slice_get_read copies (length copies) c.args.number k refl one.0 (one.1 k) in
    let part : slice_get modules k.module_number ≡ Some p = slice_get_read modules (length modules) k.module_number p refl other.0 (other.1 p) in
    let s = there scenes k.module_number (omega (arith, other.0, parts.count)) in
    next_copy scenes copies c.args.number (length (leafed_module s.0).leaves) (below_module scenes copies c.args.number k s.0 is s.1) c.first_in_module.result
    (c.first_in_module.ensures scenes copies k s.0 is s.1 (parts.each k.module_number s.0 p s.1 part) start)

pub returns-in-None : goal.returns-in-None
returns-in-None c = λ scenes parts start.
    let copies = c.args.copies.now in
    let k = c.in-Some.copy.now in
    let one = c.in-Some.ensures.lookup.3 in
    let is : slice_get copies c.args.number ≡ Some k = slice_get_read copies (length copies) c.args.number k refl one.0 (one.1 k) in
    next_copy scenes copies c.args.number 0 (without_module scenes copies c.args.modules.now c.args.number k parts is c.in-None.ensures.lookup.3) c.args.found start
