use Rattle.std.proofs.Common.{rules, arith, false, replicate, length, ◌≡◌}
use Rattle.std.proofs.lemmas.Option.{slice_get_within}
use Rattle.fir_infer_resets.specs.declared.graph.Kind.TheVariants.{Other, Asynchronous}
use Rattle.fir_infer_resets.proofs.Read.{kind_there, kind_other}
use Rattle.fir_infer_resets.proofs.Rooting.{roots_begun, root_entered, root_skipped}
use Rattle.fir_infer_resets.proofs.roots.Reached.roots.Goals.{in-Asynchronous+in_ok-enter-in-Asynchronous, in_default}
use Rattle.fir_infer_resets.proofs.roots.Reached.roots.Goals as goal

pub loop-node-init : goal.loop-node-init
loop-node-init c =
    let e : c.in_ok-vec.field-0.items ≡ replicate (length c.args.kinds.now) false = search rules in
    roots_begun c.args.kinds.now _ e c.new.ensures.items

pub enter-requires : goal.enter-requires
enter-requires c =
    omega
    (arith, slice_get_within c.loop-node.reached.marks.items c.loop-node.node false (c.loop-node.invariant.unmarked_on c.loop-node.node (omega arith) c.loop-node-test.true), c.loop-node.reached.marks.ok.0)

pub loop-node-preserved : goal.loop-node-preserved
loop-node-preserved c =
    elim c.match-kinds-node.branch [
      | in-Asynchronous+in_ok-enter-in-Asynchronous w ↦
          rw w.reached-is
          (root_entered _ _ _ c.loop-node.invariant c.loop-node-test.true _ (kind_there _ _ Other Asynchronous c.loop-node-test.true w.in-Asynchronous.is) w.in_ok-enter-in-Asynchronous.ensures)
      | in_default w ↦
          rw w.reached-is
          (root_skipped _ _ _ c.loop-node.invariant c.loop-node-test.true (kind_other _ _ Other Asynchronous c.loop-node-test.true w.in_default.not-Asynchronous))
    ]
