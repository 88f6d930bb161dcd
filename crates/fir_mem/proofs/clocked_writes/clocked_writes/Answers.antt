use Rattle.std.proofs.Common.{◌≡◌, ◌<◌, List, get_or, length, subst}
use Rattle.fir_net.specs.declared.array.Array.{Array}
use Rattle.fir_mem.proofs.Clocked.{array_more}
use Rattle.fir_mem.proofs.clocked_writes.clocked_writes.Goals as goal

pub loop-array-preserved : goal.loop-array-preserved
loop-array-preserved c =
    let low = subst (λ (xs : List Array). c.loop-array.array-index < length xs) c.as_slice-array-items.ensures c.loop-array-test.true in
    let item = subst (λ (xs : List Array). c.array-item.result ≡ get_or xs c.loop-array.array-index c.array-item.result) c.as_slice-array-items.ensures c.array-item.is in
    rw c.in_ok-push.ensures.items
    (array_more c.args.net.now c.args.net.now.arrays c.loop-array.all.items c.loop-array.array-index c.array-item.result c.in_ok-clocked_in.field-0 low item
    c.in_ok-clocked_in.ensures c.loop-array.invariant)
