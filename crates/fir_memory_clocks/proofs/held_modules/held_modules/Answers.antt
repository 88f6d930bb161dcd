use Rattle.std.proofs.Common.{◌≡◌, ◌+◌, false, length, replicate, set, take, true, ap, sym, subst, ◌∙◌, rules, take_all}
use Rattle.std.proofs.lemmas.List.{length-set, with_items_is}
use Rattle.fir_memory_clocks.specs.working.HeldModules.{AreHeld}
use Rattle.fir_memory_clocks.proofs.FoundModules.{held_more, none_held}
use Rattle.fir_memory_clocks.proofs.held_modules.held_modules.Goals as goal

pub loop-copy-init : goal.loop-copy-init
loop-copy-init c =
    let new : c.in_ok-held.held.items ≡ replicate c.args.count false = c.in_ok-held.ensures.items_if_clones_equal (λ y same. search rules) in
    subst (AreHeld c.args.count (take 0 c.args.copies.now)) (sym new) (none_held c.args.count)

pub loop-copy-preserved : goal.loop-copy-preserved
loop-copy-preserved c =
    let v = c.loop-copy.held in
    let k = c.copy-item.result in
    let i = c.loop-copy.copy-index in
    let new = c.hold.new.held in
    let is : new ≡ set v.items k.module_number true = c.hold.ensures ∙ ap (λ ys. set ys k.module_number true) c.deref_mut.ensures.value in
    let long : length new ≡ v.len = ap length is ∙ length-set v.items k.module_number true ∙ sym v.ok.0 in
    subst (AreHeld c.args.count (take (i + 1) c.args.copies.now)) (sym (with_items_is v new long ∙ is))
    (held_more c.args.count c.args.copies.now i k v.items c.loop-copy-test.true c.copy-item.is c.loop-copy.invariant)

pub returns : goal.returns
returns c =
    subst (λ ks. AreHeld c.args.count ks c.loop-copy.held.items) (take_all c.loop-copy.copy-index c.args.copies.now c.loop-copy-test.false) c.loop-copy.invariant
