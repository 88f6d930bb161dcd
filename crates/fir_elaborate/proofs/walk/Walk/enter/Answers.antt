use Rattle.std.proofs.Common.{◌++◌, ap, ap₂, length, map, refl, reverse, ◌∙◌}
use Rattle.std.specs.Prelude.{option_map}
use Rattle.std.proofs.lemmas.Option.{slice_get-map, slice_get_read}
use Rattle.fir_leaf_circuit.specs.declared.array.LeafArray.{LeafArray}
use Rattle.fir_elaborate.specs.declared.numbers.Numbers.{Numbers}
use Rattle.fir_elaborate.specs.working.Walks.{parts}
use Rattle.fir_elaborate.proofs.EnteredCopies.{enters}
use Rattle.fir_elaborate.proofs.walk.Walk.enter.Goals as goal

pub returns : goal.returns
returns c = λ views main d viewed finds.
    let number = c.args.number in
    let first = c.args.first in
    let prefix = c.args.prefix in
    let modules = c.args.modules.now in
    let held = c.args.held.now in
    let names = c.args.names.now in
    let old = c.args.self.now in
    let part = c.in_ok-module.module.now in
    let is = c.in_ok-instances.instances.now in
    let ns = c.in_ok-declared.declared.now in
    let part_got = rw c.in_ok-module.ensures.ok_part at c.get.ensures.lookup in
    let is_got = rw c.in_ok-instances.ensures.ok_part at c.get-2.ensures.lookup in
    let ns_got = rw c.in_ok-declared.ensures.ok_part at c.get-3.ensures.lookup in
    let part_there = slice_get_read modules (length modules) number part refl part_got.3.0 part_got.1 in
    let is_there =
    slice_get-map (λ is. is.items) held number
    ∙ ap (option_map (λ is. is.items)) (slice_get_read held (length held) number is refl is_got.3.0 is_got.1) in
    let ns_there =
    slice_get-map (λ ns. ns.items) names number
    ∙ ap (option_map (λ ns. ns.items)) (slice_get_read names (length names) number ns refl ns_got.3.0 ns_got.1) in
    let at : Numbers =
    record { module_number = number; ports = part.port_leaves; first = first; own = old.free; array = old.free_array } in
    enters views number first old.free old.free_array prefix part is.items ns.items (c.requires number part is.items part_there is_there)
    (viewed.each number part ns.items part_there ns_there) old.pending.items c.push_parts.new.pending.items at c.len.result c.in_ok-free.free
    c.in_ok-free_array.free_array refl
    (c.len.ensures ∙ part.leaves.ok.0)
    (c.in_ok-push_parts.ensures
    ∙ ap
    (λ x. old.pending.items
    ++ reverse (parts at c.len.result (map (λ (a : LeafArray). a.declaration) x) c.deref-2.result.now prefix c.deref-3.result.now))
    c.deref.ensures.value
    ∙ ap₂ (λ x y. old.pending.items ++ reverse (parts at c.len.result (map (λ (a : LeafArray). a.declaration) part.arrays.items) x prefix y))
    c.deref-2.ensures.value c.deref-3.ensures.value)
    c.in_ok-free.ensures c.in_ok-free_array.ensures main d old.found _ c.in_ok-push.ensures.items refl refl finds
