use Rattle.std.proofs.Common.{◌≡◌, ◌+◌, length, map, take, Some, Vec, Global, Option, refl, sym, ap, subst, ◌∙◌}
use Rattle.std.specs.Prelude.{option_map, slice_get}
use Rattle.std.proofs.lemmas.Option.{slice_get-map, slice_get_read}
use Rattle.fir_ast.specs.declared.circuit.Circuit.{Circuit}
use Rattle.fir_ast.specs.working.Views.{circuit_of, module_of, port_of}
use Rattle.fir_type_table.specs.working.Tables.{types_of}
use Rattle.fir_types.specs.declared.found.Found.{Found}
use Rattle.fir_types.specs.working.TypedModules.{IsTyped}
use Rattle.fir_width.proofs.FoundModules.{found_of, read_is}
use Rattle.fir_leaf_table.specs.working.ModulePlaces.{ArePlacesOf, places_of}
use Rattle.fir_leaf_table.specs.working.PortPlaces.{HaveTypes}
use Rattle.fir_leaf_table.proofs.FoundPlaces.{all_places_more, ports_in_front}
use Rattle.fir_leaf_table.proofs.port_places.all_port_places.Goals as goal

pub loop-number-preserved : goal.loop-number-preserved
loop-number-preserved c =
    let tree = circuit_of c.args.fitted.now in
    let found = c.findings-findings.result.now in
    let ts = types_of found.table in
    let k = c.loop-number.number in
    let part = c.part-item.result in
    let parts = c.deref-part-items.result.now in
    let read : parts ≡ c.args.fitted.now.modules.items =
    c.deref-part-items.ensures.value ∙ ap (λ (t : Circuit). t.modules.items) (c.circuit.ensures.tree ∙ c.named.ensures.tree ∙ c.typed-typed.ensures.tree) in
    let at : slice_get tree.modules k ≡ Some (module_of part) =
    slice_get-map module_of c.args.fitted.now.modules.items k
    ∙ ap (option_map module_of)
    (ap (λ ms. slice_get ms k) (sym read) ∙ slice_get_read parts (length parts) k part refl c.loop-number-test.true c.part-item.is) in
    let typed = subst (λ (t : Circuit). IsTyped (circuit_of t) found) c.typed-typed.ensures.tree c.findings-findings.ensures in
    let of = found_of tree found typed k (module_of part) at in
    let declared = c.as_slice-declared.ensures.value
    ∙ ap (λ (v : Vec (Option Found) Global). v.items)
    (read_is found.declared.items k c.index.result.now of.declared c.index.ensures of.declared_at) in
    let ports = ap (map port_of) c.deref.ensures.value in
    let types : HaveTypes ts (map port_of c.deref.result.now) c.as_slice-declared.result.now =
    subst (λ ps. HaveTypes ts ps c.as_slice-declared.result.now) (sym ports)
    (subst (λ l. HaveTypes ts (module_of part).ports l) (sym declared) (ports_in_front tree found k (module_of part) of)) in
    subst (ArePlacesOf (take (k + 1) tree.modules)) (sym c.in_ok-push.ensures.items)
    (all_places_more tree.modules k (module_of part) c.loop-number.all.items c.in_ok-places.field-0 at (c.in_ok-places.ensures types ∙ ap places_of ports)
    c.loop-number.invariant)
