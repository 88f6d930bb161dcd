use Rattle.std.proofs.Common.{length, refl, reverse}
use Rattle.std.proofs.lemmas.Option.{slice_get_read}
use Rattle.std.proofs.lemmas.Result.{on_ok_weaker}
use Rattle.fir_elaborate.proofs.WalkSteps.{viewed_at, words_taken}
use Rattle.fir_elaborate.proofs.walk.Walk.put_words.Goals as goal

pub returns : goal.returns
returns c =
    let at = c.args.at in
    let some = c.args.some in
    let modules = c.args.modules.now in
    let part = c.in_ok-module.module.now in
    let old = c.args.self.now in
    let found = rw c.in_ok-module.ensures.ok_part at c.get.ensures.lookup in
    let got = slice_get_read modules (length modules) at.module_number part refl found.3.0 found.1 in
    on_ok_weaker c.push_arrays.result
    (λ pushed names views main d viewed finds.
    words_taken views at some part (reverse old.pending.items) old.free old.free_array main d old.found _
    (λ lt. viewed_at views modules names viewed at.module_number part lt got) refl
    (rw c.deref.ensures.value at c.in_ok-push_words.ensures) (rw c.deref-2.ensures.value at pushed) finds)
    c.push_arrays.ensures
