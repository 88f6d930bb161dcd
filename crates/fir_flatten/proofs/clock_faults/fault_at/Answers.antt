use Rattle.std.proofs.Common.{length, map, option_map, refl, ap, ◌∙◌}
use Rattle.std.proofs.lemmas.Option.{slice_get-map, slice_get_read}
use Rattle.fir_flatten.proofs.FaultsOfSites.{fault_told, none_never}
use Rattle.fir_flatten.proofs.clock_faults.fault_at.Goals as goal

pub returns-in_default-2 : goal.returns-in_default-2
returns-in_default-2 c = λ scenes parts all u.
    let k = c.in-Some.copy.now in
    let p = c.in-Some-get.module.now in
    let ns = c.in-Some-get-2.names.now in
    let one = c.in-Some.ensures.lookup.3 in
    let two = c.in-Some-get.ensures.lookup.3 in
    let three = c.in-Some-get-2.ensures.lookup.3 in
    none_never scenes c.args.copies.now c.args.modules.now (map (λ ns. ns.items) c.args.names.now) parts all c.args.site u k
    (slice_get_read c.args.copies.now (length c.args.copies.now) c.args.site.copy k refl one.0 (one.1 k)) p
    (slice_get_read c.args.modules.now (length c.args.modules.now) k.module_number p refl two.0 (two.1 p)) ns.items
    (slice_get-map (λ ns. ns.items) c.args.names.now k.module_number
    ∙ ap (option_map (λ ns. ns.items)) (slice_get_read c.args.names.now (length c.args.names.now) k.module_number ns refl three.0 (three.1 ns)))
    c.in_ok-evidence.field-0 (λ m part within. c.in_ok-evidence.ensures m part.view within) c.in_default-2.is

pub returns : goal.returns
returns c = λ scenes parts all u.
    let k = c.in-Some.copy.now in
    let p = c.in-Some-get.module.now in
    let ns = c.in-Some-get-2.names.now in
    let one = c.in-Some.ensures.lookup.3 in
    let two = c.in-Some-get.ensures.lookup.3 in
    let three = c.in-Some-get-2.ensures.lookup.3 in
    fault_told scenes c.args.copies.now c.args.modules.now (map (λ ns. ns.items) c.args.names.now) parts all c.args.site u k
    (slice_get_read c.args.copies.now (length c.args.copies.now) c.args.site.copy k refl one.0 (one.1 k)) p
    (slice_get_read c.args.modules.now (length c.args.modules.now) k.module_number p refl two.0 (two.1 p)) ns.items
    (slice_get-map (λ ns. ns.items) c.args.names.now k.module_number
    ∙ ap (option_map (λ ns. ns.items)) (slice_get_read c.args.names.now (length c.args.names.now) k.module_number ns refl three.0 (three.1 ns)))
    c.in_ok-evidence.field-0 (λ m part within. c.in_ok-evidence.ensures m part.view within) c.in-Some-2.evidence c.in-Some-2.is c.in_ok-path.path
    (rw c.deref.ensures.value at c.in_ok-path.ensures)
