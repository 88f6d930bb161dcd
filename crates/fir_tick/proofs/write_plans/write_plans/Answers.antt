use Rattle.std.proofs.Common.{List, [], ◌∷◌, ◌++◌, get_or, take, sym, ap, ◌∙◌, subst, append-nil}
use Rattle.std.specs.Prelude.{flat_map}
use Rattle.std.specs.List.{AllZip}
use Rattle.std.proofs.lemmas.List.Concat.{flat_map-append}
use Rattle.fir_tick.specs.declared.write_plans.WritePlan.{WritePlan}
use Rattle.fir_tick.specs.working.WritePlans.{WriteOf, writes_of, IsWritePlan}
use Rattle.fir_tick.proofs.Lists.{pairs_joined}
use Rattle.fir_tick.proofs.OrderArrays.{array_next}
use Rattle.fir_tick.proofs.write_plans.write_plans.Goals as goal

pub loop-number-preserved : goal.loop-number-preserved
loop-number-preserved c =
    let net = c.args.net.now in
    let R = IsWritePlan net c.args.roots.now in
    let order = c.as_slice-order.result.now in
    let i = c.loop-number.number-index in
    let number = get_or order i 0 in
    let old = take i net.array_order in
    let next = array_next net c.requires.whole order c.as_slice-order.ensures i c.loop-number-test.true in
    let own = c.in_ok-put_plans.ensures in
    let writes = ap (flat_map (writes_of net)) next ∙ flat_map-append (writes_of net) old (number ∷ []) ∙ ap (λ (ws : List WriteOf). flat_map (writes_of net) old ++ ws) (append-nil (writes_of net number)) in
    subst (λ (ws : List WriteOf). AllZip R c.put_plans.new.plans.items ws) (sym writes)
    (subst (λ (ps : List WritePlan). AllZip R ps (flat_map (writes_of net) old ++ writes_of net number)) (sym own.1)
    (pairs_joined R c.loop-number.plans.items own.0 (flat_map (writes_of net) old) (writes_of net number) c.loop-number.invariant own.2))
