use Rattle.std.proofs.Common.{ℕ, take, List, ap, sym, ◌∙◌}
use Rattle.fir_net.specs.declared.reads.Read.{Read}
use Rattle.fir_net.specs.declared.reads.Read.TheVariants as read
use Rattle.fir_drop_dead.specs.working.IsLive.{whole_role_reads}
use Rattle.fir_drop_dead.specs.working.Marks.{marked, marked_all}
use Rattle.fir_drop_dead.specs.working.Needed.{root_reads}
use Rattle.fir_drop_dead.proofs.NeededRoots.{root_none, root_there, roots_more}
use Rattle.fir_drop_dead.proofs.needed.mark_roots.Goals as goal
use Rattle.fir_drop_dead.proofs.needed.mark_roots.Goals.{then-is_root, else-is_root}

pub loop-number-preserved : goal.loop-number-preserved
loop-number-preserved c =
    let i = c.loop-number.number in
    let l = c.index-leaves-number.result in
    let more = sym (roots_more c.args.leaves.now i l c.args.marks.now c.loop-number-test.true c.index-leaves-number.is) in
    elim c.if-is_root.branch [
      | then-is_root w ↦
          w.marks-is ∙ w.mark_role.ensures
          ∙ ap (marked_all (whole_role_reads l.role))
          (w.mark.ensures ∙ ap (λ (k : ℕ). marked (read.Leaf k) c.loop-number.marks) w.new.ensures ∙ ap (marked (read.Leaf i)) c.loop-number.invariant)
          ∙ ap (λ (rs : List Read). marked_all rs (marked_all (root_reads 0 (take i c.args.leaves.now)) c.args.marks.now))
          (sym (root_there i l (sym c.is_root.ensures ∙ w.if-is_root.true)))
          ∙ more
      | else-is_root w ↦
          w.marks-is ∙ c.loop-number.invariant
          ∙ ap (λ (rs : List Read). marked_all rs (marked_all (root_reads 0 (take i c.args.leaves.now)) c.args.marks.now))
          (sym (root_none i l (sym c.is_root.ensures ∙ w.if-is_root.false)))
          ∙ more
    ]
