use Rattle.std.proofs.Common.{◌≡◌, ◌<◌, [], ◌∷◌, length, refl, sym, ap, ◌∙◌, map, subst, arith}
use Rattle.std.proofs.lemmas.List.{map-append, map-id}
use Rattle.std.proofs.lemmas.Result.{IfOk-weaker}
use Rattle.std.proofs.lemmas.Iterator.Adapters.{YieldsList-from_vec}
use Rattle.std.proofs.lemmas.Iterator.Consumers.{YieldsList-turn, YieldsList-end}
use Rattle.fir_ast.specs.Types.{bundle}
use Rattle.fir_ast.specs.View.{fields_of}
use Rattle.fir_meaning.specs.MemoryTypes.{mask_type, mask_fields}
use Rattle.fir_type_table.specs.declared.entry.Part.{Part}
use Rattle.fir_type_table.specs.working.Tables.{Adds, types_of, type_at}
use Rattle.fir_type_table.proofs.TableTypes.{type_at_left}
use Rattle.fir_type_table.proofs.AddedParts.{adds_part, adds_then, mask_part, masks_are}
use Rattle.fir_type_table.proofs.table.TypeTable.+mask.Goals as goal

pub add_bundle_mask-loop-part-preserved : goal.add_bundle_mask-loop-part-preserved
add_bundle_mask-loop-part-preserved t c =
    let ts = types_of c.args.self.now in
    let parts = c.in_ok-part-items.part-items in
    let it = c.into_iter-part-iterator.ensures.into_iter_gives in
    let part = c.in-Some.part in
    let so_far = c.loop-part.invariant.adds in
    let counted : c.into_iter-part-iterator.result.rest.len ≡ length parts.items = omega (arith, it.1, parts.ok.0) in
    let turn = YieldsList-turn (YieldsList-from_vec {s = c.into_iter-part-iterator.result} parts.items it.0 counted) c.loop-part.yielded c.loop-part.part-iterator
    c.loop-part.yielded_by c.next.result c.next.new.self part c.in-Some.is
    c.next.ensures.steps in
    let below : part.ty.number < c.args.id.number =
    subst (λ (p : Part). p.ty.number < c.args.id.number) (sym turn.1) (c.in_ok-part-items.ensures.below (length c.loop-part.yielded) part turn.0) in
    let there : part.ty.number < length ts = omega (arith, c.requires) in
    let same : mask_type (type_at (types_of c.loop-part.self) part.ty.number) ≡ mask_type (type_at ts part.ty.number) =
    ap (λ l. mask_type (type_at l part.ty.number)) so_far.grown ∙ ap mask_type (type_at_left ts so_far.more part.ty.number there) in
    let adds = subst (λ u. Adds c.loop-part.self c.add_mask.new.self c.in_ok-ty.ty.number u) same c.in_ok-ty.ensures in
    let mask : Part = record { place = part.place; flip = part.flip; name = part.name; type_place = part.type_place; ty = c.in_ok-ty.ty } in
    record {
      can_next = tt;
      is_finite = tt;
      adds = rw (c.in_ok-push.ensures.items, map-append (mask_part ts) c.loop-part.yielded (part ∷ []))
          (adds_part c.args.self.now c.loop-part.self c.add_mask.new.self c.loop-part.masks.items mask (map (mask_part ts) c.loop-part.yielded)
          (mask_part ts part) (mask_type (type_at ts part.ty.number)) so_far adds refl);
    }

pub add_bundle_mask-returns : goal.add_bundle_mask-returns
add_bundle_mask-returns t c =
    let ts = types_of c.args.self.now in
    let parts = c.in_ok-part-items.part-items in
    let it = c.into_iter-part-iterator.ensures.into_iter_gives in
    let so_far = c.loop-part.invariant.adds in
    let counted : c.into_iter-part-iterator.result.rest.len ≡ length parts.items = omega (arith, it.1, parts.ok.0) in
    let end = YieldsList-end (YieldsList-from_vec {s = c.into_iter-part-iterator.result} parts.items it.0 counted) c.loop-part.yielded c.loop-part.part-iterator
    c.loop-part.yielded_by c.next.result c.next.new.self c.in-None.is
    c.next.ensures.steps in
    let whole : c.loop-part.yielded ≡ parts.items = sym (map-id c.loop-part.yielded) ∙ end.0 in
    let same = ap (λ fs. bundle (fields_of fs)) so_far.fields ∙ ap (λ l. bundle (fields_of (map (mask_part ts) l))) whole
    ∙ ap bundle (masks_are ts parts.items) ∙ ap (λ fs. bundle (mask_fields fs)) c.in_ok-part-items.ensures.fields in
    IfOk-weaker c.add_bundle.result _ _ (λ m adds. adds_then c.args.self.now c.loop-part.self c.add_bundle.new.self m.number _ _ so_far.more so_far.grown adds same)
    c.add_bundle.ensures
