use Rattle.std.proofs.Common.{◌≡◌, ◌+◌, ◌≤◌, length, map, replicate, ap, sym, subst, ◌∙◌, arith, rules}
use Rattle.std.specs.Vec.{with_items}
use Rattle.std.proofs.lemmas.List.{with_items_is}
use Rattle.std.proofs.lemmas.Result.{IfOk-weaker}
use Rattle.fir_memory_clocks.specs.declared.clock_roots.Mark.TheVariants as mark
use Rattle.fir_memory_clocks.specs.working.Marks.{AreMarkedBefore, AreSettled, root_of}
use Rattle.fir_memory_clocks.specs.working.RoleRoots.{AreRoots}
use Rattle.fir_memory_clocks.proofs.MarkedLeaves.{marked_more, new_settled, none_before, roots_are}
use Rattle.fir_memory_clocks.proofs.clock_roots.clock_roots.Goals as goal

pub loop-leaf-init : goal.loop-leaf-init
loop-leaf-init c =
    let roles = c.args.roles.now in
    let new : c.in_ok-marks.marks.items ≡ replicate (length roles) mark.New = c.in_ok-marks.ensures.items_if_clones_equal (λ y same. search rules) in
    (subst (AreSettled roles) (sym new) (new_settled roles), none_before roles c.in_ok-marks.marks.items)

pub mark_from-requires : goal.mark_from-requires
mark_from-requires c = rw c.deref_mut.ensures.value c.loop-leaf.invariant.0

pub loop-leaf-preserved : goal.loop-leaf-preserved
loop-leaf-preserved c =
    let roles = c.args.roles.now in
    let v = c.loop-leaf.marks in
    let new = c.mark_from.new.marks in
    let settled = c.mark_from.ensures.settled in
    let long : length new ≡ v.len = omega (arith, settled.count, c.loop-leaf.invariant.0.count, v.ok.0) in
    let is : (with_items v new).items ≡ new = with_items_is v new long in
    let before = subst (AreMarkedBefore c.loop-leaf.leaf) (sym c.deref_mut.ensures.value) c.loop-leaf.invariant.1 in (
      subst (AreSettled roles) (sym is) settled,
      subst (AreMarkedBefore (c.loop-leaf.leaf + 1)) (sym is)
          (marked_more roles c.loop-leaf.leaf c.deref_mut.result.now new before c.mark_from.ensures.keeps (c.mark_from.ensures.marked c.loop-leaf-test.true)),
    )

pub returns : goal.returns
returns c =
    let roles = c.args.roles.now in
    let past : length roles ≤ c.loop-leaf.leaf = omega arith in
    IfOk-weaker c.roots_of.result _ _
    (λ roots e.
    subst (AreRoots roles) (sym (e ∙ ap (map root_of) c.deref.ensures.value))
    (roots_are roles c.loop-leaf.marks.items c.loop-leaf.leaf past c.loop-leaf.invariant.0 c.loop-leaf.invariant.1)) c.roots_of.ensures
