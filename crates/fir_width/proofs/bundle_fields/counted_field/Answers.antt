use Rattle.std.proofs.Common.{refl, subst, sym, ◌∙◌, arith}
use Rattle.fir_type_table.specs.declared.readers.FieldFound.{FieldFound}
use Rattle.fir_type_table.specs.working.Tables.{types_of}
use Rattle.fir_width.specs.working.FieldsAt.{IsFieldAt}
use Rattle.fir_width.proofs.FieldsCounted.{counts_found, counts_more}
use Rattle.fir_width.proofs.bundle_fields.counted_field.Goals as goal

pub returns-then-count-gt0-clause-field : goal.returns-then-count-gt0-clause-field
returns-then-count-gt0-clause-field c =
    let ts = types_of c.args.table.now in
    let so_far = c.loop-member in
    let m = c.member-item.result in
    let f : FieldFound = record { flip = m.flip; ty = m.ty; offset = so_far.offset; shared_offset = so_far.shared_offset } in
    subst (λ ms. IsFieldAt c.args.counted ts ms c.args.leaf f) c.members-member-items.ensures.members
    (counts_found c.args.counted ts c.members-member-items.result.now c.args.leaf so_far.member-index m f c.requires.small c.loop-member-test.true
    c.member-item.is refl refl so_far.invariant (sym c.before-before.ensures ∙ c.if-before-leaf.true)
    (omega (arith, c.leaves-count.ensures, c.if-count-gt0.true)))

pub loop-member-preserved : goal.loop-member-preserved
loop-member-preserved c =
    let so_far = c.loop-member in
    let m = c.member-item.result in
    let f : FieldFound = record { flip = m.flip; ty = m.ty; offset = so_far.offset; shared_offset = so_far.shared_offset } in
    counts_more c.args.counted (types_of c.args.table.now) c.members-member-items.result.now c.args.leaf so_far.member-index m f c.requires.small
    c.loop-member-test.true c.member-item.is refl refl so_far.invariant c.saturating_add-offset.result c.saturating_add-shared_offset.result
    (λ at some. omega (arith, at, some, c.before-before.ensures, c.leaves-count.ensures, c.else-before-leaf.either))
    (omega (arith, c.saturating_add-offset.ensures, c.leaves.ensures))
    (omega (arith, c.saturating_add-shared_offset.ensures, c.shared_leaves.ensures))
