use Rattle.std.proofs.Common.{◌≡◌, ◌+◌, ap, subst, sym, ◌∙◌, arith}
use Rattle.std.proofs.lemmas.Result.{on_ok_weaker}
use Rattle.fir_ast.specs.working.Views.{circuit_of}
use Rattle.fir_meaning.specs.TypeLeaves.{leaf_count}
use Rattle.fir_type_table.specs.working.Tables.{members_at, type_at, types_of}
use Rattle.fir_width.specs.declared.counted.Counted.TheVariants.{Shared}
use Rattle.fir_width.specs.working.CountedLeaves.{count_all}
use Rattle.fir_leaf_table.specs.working.PushedTypeLeaves.{Pushes}
use Rattle.fir_leaf_table.proofs.HeldLeaves.{pushes_async, pushes_clock, pushes_elements, pushes_none, pushes_reset}
use Rattle.fir_leaf_table.proofs.PushedMembers.{leaves_within, members_begin, members_end, members_next, next_there}
use Rattle.fir_leaf_table.proofs.push_leaves.+leaves.Goals as goal

pub push_type-returns-then-leaves-eq0 : goal.push_type-returns-then-leaves-eq0
push_type-returns-then-leaves-eq0 t c =
    pushes_none (circuit_of c.args.fitted.now) c.args.flip (type_at (types_of c.args.table.now) c.args.id.number) c.args.first c.args.leaves.now.items
    (sym c.leaves.ensures ∙ c.if-leaves-eq0.true)

pub push_type-returns-in-Clock : goal.push_type-returns-in-Clock
push_type-returns-in-Clock t c =
    on_ok_weaker c.push_leaf.result
    (pushes_clock (circuit_of c.args.fitted.now) c.args.flip c.args.first c.args.leaves.now.items c.push_leaf.new.leaves.items
    (type_at (types_of c.args.table.now) c.args.id.number) c.in-Clock.ensures.made)
    c.push_leaf.ensures

pub push_type-returns-in-Reset : goal.push_type-returns-in-Reset
push_type-returns-in-Reset t c =
    on_ok_weaker c.push_leaf-in-Reset.result
    (pushes_reset (circuit_of c.args.fitted.now) c.args.flip c.args.first c.args.leaves.now.items c.push_leaf-in-Reset.new.leaves.items
    (type_at (types_of c.args.table.now) c.args.id.number) c.in-Reset.ensures.made)
    c.push_leaf-in-Reset.ensures

pub push_type-returns-in-AsyncReset : goal.push_type-returns-in-AsyncReset
push_type-returns-in-AsyncReset t c =
    on_ok_weaker c.push_leaf-in-AsyncReset.result
    (pushes_async (circuit_of c.args.fitted.now) c.args.flip c.args.first c.args.leaves.now.items c.push_leaf-in-AsyncReset.new.leaves.items
    (type_at (types_of c.args.table.now) c.args.id.number) c.in-AsyncReset.ensures.made)
    c.push_leaf-in-AsyncReset.ensures

pub push_members-loop-leaf-init : goal.push_members-loop-leaf-init
push_members-loop-leaf-init t c =
    members_begin (circuit_of c.args.fitted.now) c.args.flip (types_of c.args.table.now) (members_at c.args.table.now c.args.id.number) c.args.first
    c.args.leaves.now.items

pub push_members-field_at-field-requires-clause-there : goal.push_members-field_at-field-requires-clause-there
push_members-field_at-field-requires-clause-there t c =
    next_there (circuit_of c.args.fitted.now) c.args.flip (types_of c.args.table.now) (members_at c.args.table.now c.args.id.number) c.args.first
    c.args.leaves.now.items c.loop-leaf.leaf c.loop-leaf.leaves.items
    (omega (arith, ap leaf_count c.requires, c.leaves-count.ensures, c.if-count.false, c.loop-leaf-test.true)) c.loop-leaf.invariant

pub push_members-overflow_add-leaf : goal.push_members-overflow_add-leaf
push_members-overflow_add-leaf t c =
    let ts = types_of c.args.table.now in
    let ms = members_at c.args.table.now c.args.id.number in
    let within =
    leaves_within (circuit_of c.args.fitted.now) c.args.flip ts ms c.args.first c.args.leaves.now.items c.loop-leaf.leaf c.field_at-field.result
    c.field_at-field.ensures.field in
    omega (arith, c.leaves.ensures, within, ap leaf_count c.requires, c.leaves-count.ensures, c.if-count.false)

pub push_members-loop-leaf-preserved : goal.push_members-loop-leaf-preserved
push_members-loop-leaf-preserved t c =
    let circuit = circuit_of c.args.fitted.now in
    let ts = types_of c.args.table.now in
    let ms = members_at c.args.table.now c.args.id.number in
    let f = c.field_at-field.result in
    let at = c.field_at-field.ensures.field in
    let now = c.loop-leaf.leaves.items in
    let new = c.push_type.new.leaves.items in
    let within = leaves_within circuit c.args.flip ts ms c.args.first c.args.leaves.now.items c.loop-leaf.leaf f at in
    let own : c.leaves.result ≡ leaf_count (type_at ts f.ty.number) =
    omega (arith, c.leaves.ensures, within, ap leaf_count c.requires, c.leaves-count.ensures, c.if-count.false) in
    members_next circuit c.args.flip ts ms c.args.first c.args.leaves.now.items c.loop-leaf.leaf c.in_ok-behind.field-0
    (c.loop-leaf.leaf + c.leaves.result) f now new at (c.in_ok-behind.ensures (count_all Shared ts at.at.before) at.shared_offset)
    (ap (λ n. c.loop-leaf.leaf + n) own) c.loop-leaf.invariant
    (subst (λ b. Pushes circuit b (type_at ts f.ty.number) c.in_ok-behind.field-0 now new) c.turned.ensures c.in_ok-push_type.ensures)

pub push_members-returns : goal.push_members-returns
push_members-returns t c =
    let ts = types_of c.args.table.now in
    let ms = members_at c.args.table.now c.args.id.number in
    members_end (circuit_of c.args.fitted.now) c.args.flip ts ms c.args.first c.args.leaves.now.items c.loop-leaf.leaf c.loop-leaf.leaves.items
    (omega (arith, ap leaf_count c.requires, c.leaves-count.ensures, c.if-count.false, c.loop-leaf-test.false)) c.loop-leaf.invariant

pub push_elements-returns : goal.push_elements-returns
push_elements-returns t c =
    on_ok_weaker c.repeat.result
    (pushes_elements (circuit_of c.args.fitted.now) c.args.flip (type_at (types_of c.args.table.now) c.args.element.number) c.args.length c.args.first
    c.len-start.result c.args.leaves.now.items c.push_type.new.leaves.items c.repeat.new.leaves.items c.requires
    (omega (arith, c.len-start.ensures, c.args.leaves.now.ok.0)) c.in_ok-push_type.ensures)
    c.repeat.ensures
