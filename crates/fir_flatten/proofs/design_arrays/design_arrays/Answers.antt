use Rattle.std.proofs.Common.{◌++◌, sym, ap, ◌∙◌, append-nil}
use Rattle.std.specs.Prelude.{option_copied}
use Rattle.fir_names.proofs.TablesByNumber.{item_is}
use Rattle.fir_flatten.specs.working.DesignArrays.{arrays_of_part}
use Rattle.fir_flatten.proofs.PutArrays.{copy_step}
use Rattle.fir_flatten.proofs.design_arrays.design_arrays.Goals as goal
use Rattle.fir_flatten.proofs.design_arrays.design_arrays.Goals.{in-Some+in_ok-put_arrays, in_default}

pub loop-copy-preserved : goal.loop-copy-preserved
loop-copy-preserved c =
    let parts = c.args.modules.now in
    let k = c.copy-item.result in
    let now = c.loop-copy.arrays.items in
    let there = sym (item_is parts k.module_number c.get.result c.get.ensures.lookup) in
    copy_step parts c.args.copies.now c.loop-copy.copy-index k c.new-arrays.result.items now c.match-get.arrays.items c.loop-copy-test.true
    c.copy-item.is c.loop-copy.invariant
    (elim c.match-get.branch [
      | in-Some+in_ok-put_arrays w ↦
          ap (λ v. v.items) w.arrays-is ∙ w.in_ok-put_arrays.ensures
          ∙ ap (λ o. now ++ arrays_of_part k o) (sym (there ∙ ap option_copied w.in-Some.is))
      | in_default w ↦
          ap (λ v. v.items) w.arrays-is ∙ sym (append-nil now)
          ∙ ap (λ o. now ++ arrays_of_part k o) (sym (there ∙ ap option_copied w.in_default.is))
    ])
