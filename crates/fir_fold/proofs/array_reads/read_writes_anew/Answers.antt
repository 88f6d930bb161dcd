use Rattle.std.proofs.Common.{◌<◌, ◌≤◌, length, get_or, slice_set, arith, ap, ◌∙◌}
use Rattle.fir_fold.specs.working.Standing.{stands_for, write_read}
use Rattle.fir_fold.proofs.WrittenInTurn.{all_mapped, one_more, still}
use Rattle.fir_fold.proofs.array_reads.read_writes_anew.Goals as goal

pub loop-write-preserved : goal.loop-write-preserved
loop-write-preserved c =
    let f = write_read (stands_for c.args.stands.now) in
    let xs = c.args.writes.now in
    let i = c.loop-write.write-index in
    let d = c.write-item.result in
    let low : i < length xs = omega arith in
    ap (λ ys. slice_set ys i c.read_write_anew.new.write) c.loop-write.invariant
    ∙ one_more f xs i d c.read_write_anew.new.write low (c.read_write_anew.ensures ∙ ap f (ap (λ ys. get_or ys i d) c.loop-write.invariant ∙ still f xs i d))

pub returns : goal.returns
returns c =
    let high : length c.args.writes.now ≤ c.loop-write.write-index = omega arith in
    c.loop-write.invariant ∙ all_mapped (write_read (stands_for c.args.stands.now)) c.args.writes.now c.loop-write.write-index high
