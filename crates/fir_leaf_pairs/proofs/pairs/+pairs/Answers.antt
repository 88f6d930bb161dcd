use Rattle.std.proofs.Common.{◌≡◌, ◌+◌, ◌≤◌, length, refl, sym, ap, ◌∙◌, subst, arith}
use Rattle.std.proofs.lemmas.List.{length-append}
use Rattle.std.proofs.lemmas.Result.{on_ok_weaker}
use Rattle.fir_type_table.specs.working.Found.{found_of}
use Rattle.fir_type_table.specs.working.Saturated.{saturated}
use Rattle.fir_type_table.specs.working.Tables.{members_at, type_at, types_of}
use Rattle.fir_leaf_pairs.specs.working.Pairing.{PairsFields, PairsNamedFields}
use Rattle.fir_leaf_pairs.proofs.PairCopies.{elements_paired, first_meets}
use Rattle.fir_leaf_pairs.proofs.PairWalks.{parts_empty, steps_more, steps_all}
use Rattle.fir_leaf_pairs.proofs.PairNames.{named_one, names_more, names_all}
use Rattle.fir_leaf_pairs.proofs.pairs.+pairs.Goals as goal

pub pair_elements-returns : goal.pair_elements-returns
pair_elements-returns t c =
    let ts = types_of c.args.table.now in
    let s = type_at ts c.args.left.ty.number in
    let u = type_at ts c.args.right.ty.number in
    let old = c.args.pairs.now.items in
    let from : c.len-start.result ≡ length old = omega (arith, c.len-start.ensures, c.args.pairs.now.ok.0) in
    on_ok_weaker c.repeat_pairs.result
    (λ again meets.
    let one = c.in_ok-pair_parts.ensures (first_meets c.args.partial c.args.left.first c.args.right.first c.args.count s u c.if-count-eq0.false meets) in
    let within : c.len-start.result ≤ length c.pair_parts.new.pairs.items = omega (arith, from, ap length one.grown, length-append old one.more) in
    elements_paired c.args.partial c.args.flip c.args.left.first c.args.right.first c.args.count c.len-start.result c.leaves.result c.leaves-2.result s u
    old c.pair_parts.new.pairs.items c.repeat_pairs.new.pairs.items c.if-count-eq0.false meets from c.leaves.ensures c.leaves-2.ensures one (again within))
    c.repeat_pairs.ensures

pub pair_fields-loop-i-preserved : goal.pair_fields-loop-i-preserved
pair_fields-loop-i-preserved t c =
    let ts = types_of c.args.table.now in
    let f = c.index-fs-i.result in
    let g = c.index-gs-i.result in
    steps_more ts c.args.flip c.args.left.first c.args.right.first c.members-fs.result.now c.members-gs.result.now c.loop-i.i c.loop-i.one c.loop-i.other
    c.saturating_add-one.result c.saturating_add-other.result c.turned.result f g c.args.pairs.now.items c.loop-i.pairs.items c.pair_parts.new.pairs.items
    c.loop-i.invariant (omega (arith, c.loop-i-test.true, c.min-i-end.ensures)) (omega (arith, c.loop-i-test.true, c.min-i-end.ensures)) c.index-fs-i.is
    c.index-gs-i.is
    c.turned.ensures c.in_ok-pair_parts.ensures (c.saturating_add-one.ensures ∙ ap (λ n. saturated (c.loop-i.one + n)) c.leaves.ensures)
    (c.saturating_add-other.ensures ∙ ap (λ n. saturated (c.loop-i.other + n)) c.leaves-in-loop-i.ensures)

pub pair_fields-returns : goal.pair_fields-returns
pair_fields-returns t c =
    let ts = types_of c.args.table.now in
    let l = c.args.left.first in
    let r = c.args.right.first in
    let fs = c.members-fs.result.now in
    let gs = c.members-gs.result.now in
    let old = c.args.pairs.now.items in
    let new = c.loop-i.pairs.items in
    subst (λ xs. PairsFields ts c.args.flip l r xs (members_at c.args.table.now c.args.right.ty.number) old new) c.members-fs.ensures.members
    (subst (λ ys. PairsFields ts c.args.flip l r fs ys old new) c.members-gs.ensures.members
    (steps_all ts c.args.flip l r fs gs c.loop-i.i c.loop-i.one c.loop-i.other old new (omega (arith, c.loop-i-test.false, c.min-i-end.ensures))
    c.loop-i.invariant))

pub pair_named-returns : goal.pair_named-returns
pair_named-returns t c =
    let ts = types_of c.args.table.now in
    named_one ts c.args.flip c.turned.result c.args.member.now c.args.first c.saturating_add.result c.in-Some.found.offset c.args.right c.in-Some.found.ty
    (found_of ts c.in-Some.found) c.args.pairs.now.items c.pair_parts.new.pairs.items refl (sym c.in-Some.ensures.found) c.in-Some.ensures.offset
    c.saturating_add.ensures c.turned.ensures c.in_ok-pair_parts.ensures

pub pair_named_fields-loop-member-preserved : goal.pair_named_fields-loop-member-preserved
pair_named_fields-loop-member-preserved t c =
    let ts = types_of c.args.table.now in
    names_more ts c.args.flip c.args.left.first c.args.right c.members-member-items.result.now c.loop-member.member-index c.loop-member.first
    c.saturating_add-first.result c.member-item.result c.args.pairs.now.items c.loop-member.pairs.items c.pair_named.new.pairs.items c.loop-member.invariant
    c.loop-member-test.true c.member-item.is c.in_ok-pair_named.ensures
    (c.saturating_add-first.ensures ∙ ap (λ n. saturated (c.loop-member.first + n)) c.leaves.ensures)

pub pair_named_fields-returns : goal.pair_named_fields-returns
pair_named_fields-returns t c =
    let ts = types_of c.args.table.now in
    let fs = c.members-member-items.result.now in
    let old = c.args.pairs.now.items in
    let new = c.loop-member.pairs.items in
    subst (λ xs. PairsNamedFields ts c.args.flip c.args.left.first c.args.right xs old new) c.members-member-items.ensures.members
    (names_all ts c.args.flip c.args.left.first c.args.right fs c.loop-member.member-index c.loop-member.first old new c.loop-member-test.false
    c.loop-member.invariant)

pub pair_parts-returns-then-leaves-eq0 : goal.pair_parts-returns-then-leaves-eq0
pair_parts-returns-then-leaves-eq0 t c =
    parts_empty (types_of c.args.table.now) c.args.partial c.args.flip c.args.left c.args.right c.args.pairs.now.items (sym c.leaves.ensures
    ∙ c.if-leaves-eq0.true)
