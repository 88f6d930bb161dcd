use Rattle.std.proofs.Common.{◌≡◌, length, arith}
use Rattle.fir_memory_clocks.proofs.FoundModules.{all_found, none_found, one_more_found}
use Rattle.fir_memory_clocks.proofs.module_memories.found_in_modules.Goals as goal

pub loop-number-init : goal.loop-number-init
loop-number-init c = rw c.new-found.ensures.items (none_found c.args.modules.now c.args.nets.now c.in_ok-held.held.items)

pub loop-number-preserved : goal.loop-number-preserved
loop-number-preserved c =
    rw c.in_ok-push.ensures.items
    (one_more_found c.args.modules.now c.args.nets.now c.in_ok-held.held.items c.loop-number.found.items c.loop-number.number c.in_ok-found_in.field-0
    (rw c.deref.ensures.value at c.in_ok-found_in.ensures) c.loop-number.invariant)

pub returns : goal.returns
returns c =
    let all : c.loop-number.number ≡ length c.args.modules.now = omega arith in
    all_found c.args.modules.now c.args.nets.now c.in_ok-held.held.items c.args.copies.now c.in_ok-held.ensures c.loop-number.found.items c.loop-number.number all
    c.loop-number.invariant
