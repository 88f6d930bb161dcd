use Rattle.std.proofs.Common.{◌<◌, ◌≤◌, length, get_or, slice_set, arith, ap, ◌∙◌}
use Rattle.fir_fold.specs.working.Standing.{stands_for, written_array}
use Rattle.fir_fold.proofs.WrittenInTurn.{all_mapped, one_more, still}
use Rattle.fir_fold.proofs.array_reads.read_arrays_anew.Goals as goal

pub loop-array-preserved : goal.loop-array-preserved
loop-array-preserved c =
    let f = written_array (stands_for c.args.stands.now) in
    let xs = c.args.arrays.now in
    let i = c.loop-array.array-index in
    let d = c.array-item.result in
    let low : i < length xs = omega arith in
    ap (λ ys. slice_set ys i c.read_array_anew.new.array) c.loop-array.invariant
    ∙ one_more f xs i d c.read_array_anew.new.array low (c.read_array_anew.ensures ∙ ap f (ap (λ ys. get_or ys i d) c.loop-array.invariant ∙ still f xs i d))

pub returns : goal.returns
returns c =
    let high : length c.args.arrays.now ≤ c.loop-array.array-index = omega arith in
    c.loop-array.invariant ∙ all_mapped (written_array (stands_for c.args.stands.now)) c.args.arrays.now c.loop-array.array-index high
