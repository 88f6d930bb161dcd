use Rattle.std.proofs.Common.{◌≡◌, Some, None, ap, sym, ◌∙◌, length, refl}
use Rattle.std.specs.Prelude.{slice_get}
use Rattle.std.proofs.lemmas.Option.{slice_get_read}
use Rattle.fir_inits.specs.working.AsyncInits.{async_init}
use Rattle.fir_inits.proofs.Registering.{none_more, one_more}
use Rattle.fir_inits.proofs.registers.found_registers.Goals as goal
use Rattle.fir_inits.proofs.registers.found_registers.Goals.{in-Some+in_ok-push, in_default}

pub loop-number-preserved : goal.loop-number-preserved
loop-number-preserved c =
    let leaves = c.as_slice-leaf-items.result.now in
    let n = c.loop-number.number in
    let l = c.leaf-item.result in
    let at : slice_get c.args.net.now.leaves n ≡ Some l = ap (λ ls. slice_get ls n) (sym c.as_slice-leaf-items.ensures) ∙ slice_get_read leaves (length leaves) n l refl c.loop-number-test.true c.leaf-item.is in
    elim c.match-async_init.branch [
      | in-Some+in_ok-push w ↦
          let is : async_init l.role ≡ Some w.in-Some.init = sym c.async_init.ensures ∙ w.in-Some.is in
          rw (w.registers-is, w.in_ok-push.ensures.items, w.new.ensures) (one_more c.args.net.now n c.loop-number.registers.items c.loop-number.invariant l at w.in-Some.init is)
      | in_default w ↦
          let none : async_init l.role ≡ None = sym c.async_init.ensures ∙ w.in_default.is in
          rw w.registers-is (none_more c.args.net.now n c.loop-number.registers.items c.loop-number.invariant l at none)
    ]
