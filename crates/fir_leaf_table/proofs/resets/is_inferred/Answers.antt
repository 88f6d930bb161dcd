use Rattle.std.proofs.Common.{◌≡◌, ◌+◌, ◌∙◌, IsTrue, length, refl, sym, ap, subst, arith}
use Rattle.std.specs.Prelude.{◌↔◌}
use Rattle.std.proofs.lemmas.Option.{slice_get_read}
use Rattle.fir_meaning.specs.ResetWalks.{IsAsynchronous}
use Rattle.fir_leaf_table.proofs.MarkedResets.{answers_past, answers_sum}
use Rattle.fir_leaf_table.proofs.resets.is_inferred.Goals as goal

pub returns-in-Some-checked_add : goal.returns-in-Some-checked_add
returns-in-Some-checked_add c = λ d s e first offset frames leaf resets is_first is_shared number_is.
    let frame = c.args.frame.now in
    let firsts = frame.first_leaves.now in
    let found = c.in-Some.ensures.lookup in
    let read = c.in-Some.first.now in
    let sum : c.new.result ≡ read + c.args.shared_offset =
    c.new.ensures ∙ c.in-Some-checked_add.ensures.1 ∙ ap (λ n. n + c.args.shared_offset) c.number.ensures in
    subst (λ b. IsTrue b ↔ IsAsynchronous d e) (sym c.is_asynchronous.ensures)
    (answers_sum frame c.resets-resets.result.now c.resets-resets.ensures c.is_short.ensures c.args.declaration c.args.shared_offset d s e first
    offset frames leaf resets is_first is_shared number_is read
    (slice_get_read firsts (length firsts) c.args.declaration read refl found.3.0 found.1) c.new.result sum)

pub returns-in-None : goal.returns-in-None
returns-in-None c = λ d s e first offset frames leaf resets is_first is_shared number_is.
    let frame = c.args.frame.now in
    let firsts = frame.first_leaves.now in
    let found = c.in-Some.ensures.lookup in
    let read = c.in-Some.first.now in
    answers_past frame c.resets-resets.result.now c.resets-resets.ensures c.is_short.ensures c.args.declaration c.args.shared_offset d s e first
    offset frames leaf resets is_first is_shared number_is read (slice_get_read firsts (length firsts) c.args.declaration read refl found.3.0 found.1)
    (omega (arith, c.in-None.ensures, c.number.ensures))
