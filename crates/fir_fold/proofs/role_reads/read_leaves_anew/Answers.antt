use Rattle.std.proofs.Common.{◌<◌, ◌≤◌, length, get_or, slice_set, arith, ap, ◌∙◌}
use Rattle.fir_fold.specs.working.Standing.{stands_for, leaf_read}
use Rattle.fir_fold.proofs.WrittenInTurn.{all_mapped, one_more, still}
use Rattle.fir_fold.proofs.role_reads.read_leaves_anew.Goals as goal

pub loop-leaf-preserved : goal.loop-leaf-preserved
loop-leaf-preserved c =
    let f = leaf_read (stands_for c.args.stands.now) in
    let xs = c.args.leaves.now in
    let i = c.loop-leaf.leaf-index in
    let d = c.leaf-item.result in
    let low : i < length xs = omega arith in
    ap (λ ys. slice_set ys i c.read_leaf_anew.new.leaf) c.loop-leaf.invariant
    ∙ one_more f xs i d c.read_leaf_anew.new.leaf low (c.read_leaf_anew.ensures ∙ ap f (ap (λ ys. get_or ys i d) c.loop-leaf.invariant ∙ still f xs i d))

pub returns : goal.returns
returns c =
    let high : length c.args.leaves.now ≤ c.loop-leaf.leaf-index = omega arith in
    c.loop-leaf.invariant ∙ all_mapped (leaf_read (stands_for c.args.stands.now)) c.args.leaves.now c.loop-leaf.leaf-index high
