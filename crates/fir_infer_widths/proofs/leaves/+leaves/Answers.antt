use Rattle.std.proofs.Common.{◌≡◌, ◌+◌, ap, arith}
use Rattle.fir_meaning.specs.SharedLeaves.{shared_count}
use Rattle.fir_type_table.specs.working.Tables.{members_at, type_at, types_of}
use Rattle.fir_width.proofs.MemberCounts.{all_shared}
use Rattle.fir_infer_widths.proofs.PushedMembers.{leaves_within, members_begin, members_end, members_next, next_there}
use Rattle.fir_infer_widths.proofs.leaves.+leaves.Goals as goal

pub push_members-loop-leaf-init : goal.push_members-loop-leaf-init
push_members-loop-leaf-init t c =
    members_begin (types_of c.args.table.now) c.args.is_bare c.args.unknowns (members_at c.args.table.now c.args.id.number) c.args.arena.now

pub push_members-field_at-field-requires-clause-there : goal.push_members-field_at-field-requires-clause-there
push_members-field_at-field-requires-clause-there t c =
    let ts = types_of c.args.table.now in
    let ms = members_at c.args.table.now c.args.id.number in
    next_there ts c.args.is_bare c.args.unknowns ms c.args.arena.now c.loop-leaf.leaf c.loop-leaf.arena
    (omega (arith, ap shared_count c.requires, all_shared ts ms, c.shared_leaves-count.ensures, c.if-count.false, c.loop-leaf-test.true))
    c.loop-leaf.invariant

pub push_members-overflow_add-leaf : goal.push_members-overflow_add-leaf
push_members-overflow_add-leaf t c =
    let ts = types_of c.args.table.now in
    let ms = members_at c.args.table.now c.args.id.number in
    let within =
    leaves_within ts c.args.is_bare c.args.unknowns ms c.args.arena.now c.loop-leaf.leaf c.field_at-field.result c.field_at-field.ensures.field in
    omega (arith, c.shared_leaves-leaf.ensures, within, ap shared_count c.requires, all_shared ts ms, c.shared_leaves-count.ensures, c.if-count.false)

pub push_members-loop-leaf-preserved : goal.push_members-loop-leaf-preserved
push_members-loop-leaf-preserved t c =
    let ts = types_of c.args.table.now in
    let ms = members_at c.args.table.now c.args.id.number in
    let f = c.field_at-field.result in
    let at = c.field_at-field.ensures.field in
    let within = leaves_within ts c.args.is_bare c.args.unknowns ms c.args.arena.now c.loop-leaf.leaf f at in
    let own : c.shared_leaves-leaf.result ≡ shared_count (type_at ts f.ty.number) =
    omega (arith, c.shared_leaves-leaf.ensures, within, ap shared_count c.requires, all_shared ts ms, c.shared_leaves-count.ensures, c.if-count.false) in
    members_next ts c.args.is_bare c.args.unknowns ms c.args.arena.now c.loop-leaf.leaf (c.loop-leaf.leaf + c.shared_leaves-leaf.result) f c.loop-leaf.arena
    c.push_type.new.arena at (ap (λ n. c.loop-leaf.leaf + n) own) c.loop-leaf.invariant c.in_ok-push_type.ensures

pub push_members-returns : goal.push_members-returns
push_members-returns t c =
    let ts = types_of c.args.table.now in
    let ms = members_at c.args.table.now c.args.id.number in
    members_end ts c.args.is_bare c.args.unknowns ms c.args.arena.now c.loop-leaf.leaf c.loop-leaf.arena
    (omega (arith, ap shared_count c.requires, all_shared ts ms, c.shared_leaves-count.ensures, c.if-count.false, c.loop-leaf-test.false))
    c.loop-leaf.invariant
