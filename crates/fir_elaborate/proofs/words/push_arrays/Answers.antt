use Rattle.std.proofs.Common.{◌+◌, ◌-◌, ◌≤◌, arith, length, refl}
use Rattle.std.proofs.lemmas.Option.{slice_get_read}
use Rattle.fir_elaborate.proofs.CopyWords.{array_found, no_array_found}
use Rattle.fir_elaborate.proofs.words.push_arrays.Goals as goal
use Rattle.fir_elaborate.proofs.words.push_arrays.Goals.{then-has_bits+in_ok-array_number+in_ok-push, else-has_bits}

pub loop-array-preserved : goal.loop-array-preserved
loop-array-preserved c =
    let x = c.loop-array.array in
    let arrays = c.args.arrays.now in
    let invariant = c.loop-array.invariant in
    let found = rw c.in_ok-there.ensures.ok_part at c.get.ensures.lookup in
    let there = slice_get_read arrays (length arrays) x c.in_ok-there.there.now refl found.3.0 found.1 in
    let high : x + 1 ≤ c.args.from + (c.args.upto - c.args.from) = omega (arith, c.loop-array-test.true) in
    elim c.if-has_bits.branch [
      | then-has_bits+in_ok-array_number+in_ok-push w ↦
          record {
            low = omega arith;
            high = high;
            numbers =
                rw w.order-is
                (array_found c.args.at arrays c.args.from x _ _ _ _ _ invariant.low there w.if-has_bits.ensures
                w.in_ok-array_number.ensures invariant.numbers w.in_ok-push.ensures.items);
          }
      | else-has_bits w ↦
          record {
            low = omega arith;
            high = high;
            numbers = rw w.order-is (no_array_found c.args.at arrays c.args.from x _ _ _ invariant.low there w.if-has_bits.ensures invariant.numbers);
          }
    ]
