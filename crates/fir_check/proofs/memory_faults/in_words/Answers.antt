use Rattle.std.proofs.lemmas.Result.{err_from_is_err_and}
use Rattle.fir_check.proofs.FaultLists.{first_of_three, second_of_three, third_of_three}
use Rattle.fir_check.proofs.memory_faults.in_words.Goals as goal

pub returns-in_err-no_flips : goal.returns-in_err-no_flips
returns-in_err-no_flips c = λ words.
    let p = err_from_is_err_and c.from_residual.result c.from_residual.ensures.1 in
    rw (p.1, p.2, ← words) (first_of_three _ _ _ _ c.in_err-no_flips.ensures)

pub returns-in_err-unless : goal.returns-in_err-unless
returns-in_err-unless c = λ words.
    let s = c.as_slice-fields.ensures.value in
    let p = err_from_is_err_and c.from_residual-in_err-unless.result c.from_residual-in_err-unless.ensures.1 in
    rw (p.1, p.2, ← words, ← s, ← c.has_sized_words.ensures (rw s words)) (second_of_three _ _ _ _ c.in_ok-no_flips.ensures c.in_err-unless.ensures)

pub returns : goal.returns
returns c = λ words.
    let s = c.as_slice-fields.ensures.value in
    rw (← words, ← s, ← c.has_sized_words.ensures (rw s words), ← c.has_depth.ensures)
    (third_of_three _ _ _ _ c.in_ok-no_flips.ensures c.in_ok-unless.ensures c.unless-2.ensures)
