use Rattle.std.proofs.Common.{length, refl, sym, subst, arith}
use Rattle.std.proofs.lemmas.Option.{slice_get_read, slice_get_within}
use Rattle.fir_inits.specs.working.AsyncInits.{AreAsync}
use Rattle.fir_inits.specs.working.Steps.{Finds, IsSearched}
use Rattle.fir_inits.proofs.Telling.{all_constant, met_more}
use Rattle.fir_inits.proofs.fault.init_fault.Goals as goal

pub loop-register-preserved : goal.loop-register-preserved
loop-register-preserved c =
    let items = c.deref-register-items.result.now in
    let n = c.loop-register.register-index in
    let r = c.register-item.result in
    let searched : IsSearched c.args.net.now c.loop-register.search c.finds.new.self r.init = subst (Finds c.args.net.now c.loop-register.search c.finds.new.self r.init) c.if-branch.false c.in_ok-finds.ensures in
    record {
      idle = searched.idle;
      met = met_more c.loop-register.search c.finds.new.self items n r (slice_get_read items (length items) n r refl c.loop-register-test.true c.register-item.is) c.loop-register.invariant.met searched.keeps searched.met;
    }

pub returns : goal.returns
returns c =
    let items = c.deref-register-items.result.now in
    all_constant c.args.net.now c.loop-register.search c.loop-register.invariant.idle items (subst (AreAsync c.args.net.now (length c.args.net.now.leaves)) (sym c.deref-register-items.ensures.value) c.in_ok-registers.ensures)
    (λ i r h. c.loop-register.invariant.met i r (omega (arith, slice_get_within items i r h, c.loop-register-test.false)) h)
