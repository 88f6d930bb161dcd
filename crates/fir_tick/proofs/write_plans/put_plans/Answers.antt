use Rattle.std.proofs.Common.{ℕ, ◌≤◌, List, [], ◌∷◌, ◌++◌, map, take, refl, sym, ap, ◌∙◌, subst, append_assoc}
use Rattle.std.specs.List.{AllZip}
use Rattle.std.proofs.lemmas.List.{map_push, take_all}
use Rattle.std.proofs.lemmas.Option.{get_or_from_slice_get}
use Rattle.fir_net.specs.working.IsNet.{IsArrayWrite}
use Rattle.fir_work.specs.working.Tasks.{IsFitTask}
use Rattle.fir_tick.specs.declared.write_plans.WritePlan.{WritePlan}
use Rattle.fir_tick.specs.working.ArraySpans.{span_of}
use Rattle.fir_tick.specs.working.WritePlans.{WriteOf, write_of, writes_at, IsWritePlan}
use Rattle.fir_tick.proofs.Lists.{item_next, pairs_joined}
use Rattle.fir_tick.proofs.OrderArrays.{array_at, array_width}
use Rattle.fir_tick.proofs.write_plans.put_plans.Goals as goal

pub loop-write-preserved : goal.loop-write-preserved
loop-write-preserved c =
    let net = c.args.net.now in
    let k = c.args.number in
    let R = IsWritePlan net c.args.roots.now in
    let array = c.index-as_slice-number.result in
    let writes = c.as_slice-writes.result.now in
    let i = c.loop-write.write-index in
    let write = c.write-item.result in
    let p = c.write_plan.result in
    let own = c.loop-write.invariant.0 in
    let e = c.write_plan.ensures in
    let wide = array_width net k c.requires.there c.as_slice.result.now c.as_slice.ensures array c.index-as_slice-number.is in
    let plan : R p (write_of k write) = record {
      signed = e.signed;
      can = subst (λ (w : ℕ). IsArrayWrite net.leaves net.nodes e.signed w write) (sym wide) e.can;
      clock = e.clock;
      condition = e.condition;
      address = e.address;
      span = e.span ∙ get_or_from_slice_get c.args.spans.now k (span_of net k) _ (c.requires.spans.each k c.requires.there);
      width = e.width ∙ sym wide;
      narrow = subst (λ (w : ℕ). w ≤ 128) (sym wide) e.narrow;
      given = subst (λ (w : ℕ). IsFitTask net write.given w p.given) (sym wide) e.given;
    } in
    let next = item_next writes writes refl i write write c.loop-write-test.true c.write-item.is in (
      own ++ p ∷ [],
      c.in_ok-push.ensures.items ∙ ap (λ (ps : List WritePlan). ps ++ p ∷ []) c.loop-write.invariant.1 ∙ append_assoc c.args.plans.now.items own (p ∷ []),
      subst (λ (ws : List WriteOf). AllZip R (own ++ p ∷ []) ws) (sym (ap (map (write_of k)) next ∙ map_push (write_of k) (take i writes) write))
          (pairs_joined R own (p ∷ []) (map (write_of k) (take i writes)) (write_of k write ∷ []) c.loop-write.invariant.2 (plan, tt)),
    )

pub returns : goal.returns
returns c =
    let net = c.args.net.now in
    let k = c.args.number in
    let R = IsWritePlan net c.args.roots.now in
    let array = c.index-as_slice-number.result in
    let writes = c.as_slice-writes.result.now in
    let own = c.loop-write.invariant.0 in
    let at = array_at net k c.requires.there c.as_slice.result.now c.as_slice.ensures array c.index-as_slice-number.is in
    let all = take_all c.loop-write.write-index writes c.loop-write-test.false in
    let own_writes = ap (map (write_of k)) (all ∙ c.as_slice-writes.ensures ∙ sym (ap writes_at at)) in
    (own, c.loop-write.invariant.1, subst (λ (ws : List WriteOf). AllZip R own ws) own_writes c.loop-write.invariant.2)
