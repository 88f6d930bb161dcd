use Rattle.std.proofs.Common.{◌++◌, List, sym, ap, ◌∙◌, append-nil, arith}
use Rattle.fir_flatten.specs.declared.design_net.DesignLeaf.{DesignLeaf}
use Rattle.fir_flatten.specs.working.PutModules.{listed}
use Rattle.fir_flatten.proofs.PutLeaves.{leaves_none, leaves_same, leaves_step}
use Rattle.fir_flatten.proofs.design_net.put_leaves.Goals as goal
use Rattle.fir_flatten.proofs.design_net.put_leaves.Goals.{in-Some+in_ok-push, in_default}

pub loop-leaf-init : goal.loop-leaf-init
loop-leaf-init c = record {
  within = omega arith;
  are =
      c.reserve.ensures.items ∙ sym (append-nil c.args.leaves.now.items)
      ∙ ap (λ (ls : List DesignLeaf). c.args.leaves.now.items ++ ls)
      (sym (leaves_none c.args.prefix.now c.args.module.now c.args.from c.args.from (omega arith)));
}

pub loop-leaf-preserved : goal.loop-leaf-preserved
loop-leaf-preserved c =
    let prefix = c.args.prefix.now in
    let p = c.args.module.now in
    let x = c.loop-leaf.leaf in
    let now = c.loop-leaf.leaves.items in
    record {
      within = omega arith;
      are =
          leaves_step prefix p c.args.from x c.args.leaves.now.items now c.match-branch-3.leaves.items c.loop-leaf.auto.leaf c.loop-leaf.invariant.are
          (elim c.match-branch-3.branch [
            | in-Some+in_ok-push w ↦
                ap (λ v. v.items) w.leaves-is ∙ w.in_ok-push.ensures.items
                ∙ ap (λ o. now ++ listed o) (sym w.in-Some.is ∙ c.in_ok-declared.ensures)
            | in_default w ↦
                ap (λ v. v.items) w.leaves-is ∙ sym (append-nil now)
                ∙ ap (λ o. now ++ listed o) (sym w.in_default.is ∙ c.in_ok-declared.ensures)
          ]);
    }

pub returns : goal.returns
returns c =
    c.loop-leaf.invariant.are
    ∙ ap (λ (ls : List DesignLeaf). c.args.leaves.now.items ++ ls)
    (leaves_same c.args.prefix.now c.args.module.now c.args.from c.loop-leaf.leaf c.args.to
    (omega (arith, c.loop-leaf.invariant.within, c.loop-leaf-test.false, c.loop-leaf.auto.leaf)))
