use Rattle.std.proofs.Common.{◌≡◌, ◌+◌, ◌-◌, ◌<◌, suc, length, List, Bool, Some, false, Vec, Global, ap, sym, ◌∙◌, refl, subst, arith, replicate, rules}
use Rattle.std.specs.Prelude.{slice_get}
use Rattle.std.proofs.lemmas.List.{with_items_is}
use Rattle.std.proofs.lemmas.Option.{slice_get_read}
use Rattle.std.specs.Vec.{with_items}
use Rattle.fir_net.specs.declared.reads.Read.{Read}
use Rattle.fir_net.specs.working.Dependence.{support_of}
use Rattle.fir_flatten.specs.working.KeptNodes.{marked_all, role_reads}
use Rattle.fir_flatten.proofs.MarkedReads.{more_by_all}
use Rattle.fir_flatten.proofs.NeededMarks.{AreUnset, NodesMarked, RolesMarked, all_needed, all_unset, no_nodes, no_roles, one_role, set_node, unset_node}
use Rattle.fir_flatten.proofs.kept_nodes.needed_nodes.Goals as goal

-- the marks in a vector, with those of reads
written : (v : Vec Bool Global) (rs : List Read) (marks seen : List Bool) → seen ≡ v.items → marks ≡ marked_all rs seen
    → marked_all rs v.items ≡ (with_items v marks).items
written v rs marks seen same is =
    let all : marks ≡ marked_all rs v.items = is ∙ ap (marked_all rs) same in
    let long : length marks ≡ v.len = ap length all ∙ (more_by_all rs v.items).long ∙ sym v.ok.0 in
    sym (with_items_is v marks long ∙ all)

pub loop-role-init : goal.loop-role-init
loop-role-init c =
    let nodes = c.args.nodes.now in
    let unset : c.in_ok-needed.needed.items ≡ replicate (length nodes) false = c.in_ok-needed.ensures.items_if_clones_equal (λ y same. search rules) in
    no_roles nodes c.args.roles.now c.in_ok-needed.needed.items (subst (AreUnset (length nodes)) (sym unset) (all_unset (length nodes)))

pub loop-role-preserved : goal.loop-role-preserved
loop-role-preserved c =
    let nodes = c.args.nodes.now in
    let roles = c.args.roles.now in
    let i = c.loop-role.role-index in
    let role = c.role-item.result in
    subst (RolesMarked nodes roles (i + 1))
    (written c.loop-role.needed (role_reads role) c.mark_role.new.needed c.deref_mut.result.now c.deref_mut.ensures.value c.mark_role.ensures)
    (one_role nodes roles i role c.loop-role.needed.items (slice_get_read roles (length roles) i role refl c.loop-role-test.true c.role-item.is)
    c.loop-role.invariant)

pub loop-number-init : goal.loop-number-init
loop-number-init c =
    let all : c.loop-role.role-index ≡ length c.args.roles.now = omega arith in
    record {
      long = c.loop-role.invariant.long;
      marked = λ before.
          no_nodes c.args.nodes.now c.args.roles.now c.loop-role.needed.items
          (subst (λ k. RolesMarked c.args.nodes.now c.args.roles.now k c.loop-role.needed.items) all c.loop-role.invariant);
    }

pub loop-number-preserved-then-index : goal.loop-number-preserved-then-index
loop-number-preserved-then-index c =
    let nodes = c.args.nodes.now in
    let roles = c.args.roles.now in
    let marks = c.loop-number.needed.items in
    let k = c.loop-number.number - 1 in
    let n = c.index-nodes-number.result in
    let within : k < length nodes = omega (arith, c.loop-number.auto.number, c.loop-number-test.true) in
    let above : c.loop-number.number ≡ suc k = omega (arith, c.loop-number-test.true) in
    let long : k < length marks = omega (arith, c.loop-number.invariant.long) in
    let set = slice_get_read marks (length marks) k c.index.result.now refl long c.index.ensures ∙ ap Some c.if-index.true in
    let all =
    written c.loop-number.needed (support_of n) c.mark_all.new.needed c.deref_mut-then-index.result.now c.deref_mut-then-index.ensures.value
    (c.mark_all.ensures ∙ ap (λ (rs : List Read). marked_all rs c.deref_mut-then-index.result.now) c.support.ensures) in
    record {
      long = ap length (sym all) ∙ (more_by_all (support_of n) marks).long ∙ c.loop-number.invariant.long;
      marked = λ before.
          subst (NodesMarked nodes roles k) all
          (set_node nodes roles before k n marks (slice_get_read nodes (length nodes) k n refl within c.index-nodes-number.is) c.has_form.ensures set
          (subst (λ j. NodesMarked nodes roles j marks) above (c.loop-number.invariant.marked before)));
    }

pub loop-number-preserved : goal.loop-number-preserved
loop-number-preserved c =
    let nodes = c.args.nodes.now in
    let roles = c.args.roles.now in
    let marks = c.loop-number.needed.items in
    let k = c.loop-number.number - 1 in
    let within : k < length nodes = omega (arith, c.loop-number.auto.number, c.loop-number-test.true) in
    let above : c.loop-number.number ≡ suc k = omega (arith, c.loop-number-test.true) in
    let long : k < length marks = omega (arith, c.loop-number.invariant.long) in
    let unset : slice_get marks k ≡ Some false =
    slice_get_read marks (length marks) k c.index.result.now refl long c.index.ensures ∙ ap Some c.if-index.false in
    record {
      long = c.loop-number.invariant.long;
      marked = λ before. unset_node nodes roles k marks unset (subst (λ j. NodesMarked nodes roles j marks) above (c.loop-number.invariant.marked before));
    }

pub returns-clause-needed : goal.returns-clause-needed
returns-clause-needed c =
    let none : c.loop-number.number ≡ 0 = omega arith in
    λ before.
    all_needed c.args.nodes.now c.args.roles.now c.loop-number.needed.items
    (subst (λ k. NodesMarked c.args.nodes.now c.args.roles.now k c.loop-number.needed.items) none (c.loop-number.invariant.marked before))
