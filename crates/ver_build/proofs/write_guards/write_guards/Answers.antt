use Rattle.std.proofs.Common.{arith, ◌≡◌, ◌<◌, ◌≤◌, ◌∙◌, ℕ, List, length, get_or, subst, ap}
use Rattle.ver_build.proofs.GuardWalk.{loop_begins, loop_goes_on, loop_ends, number_read}
use Rattle.ver_build.proofs.write_guards.write_guards.Goals as goal

pub loop-array-init : goal.loop-array-init
loop-array-init c =
    loop_begins c.args.net.now c.args.table.now c.args.leaves.now c.args.first c.in_ok-guards.guards.items c.requires
    (c.in_ok-guards.ensures ∙ ap length c.as_slice.ensures)

pub loop-array-preserved : goal.loop-array-preserved
loop-array-preserved c =
    let order = c.as_slice-order.result.now in
    let i = c.loop-array.array-index in
    let same = c.as_slice-order.ensures in
    let less = subst (λ (ks : List ℕ). i < length ks) same c.loop-array-test.true in
    let is = subst (λ (ks : List ℕ). get_or order i 0 ≡ get_or ks i (get_or order i 0)) same (number_read order i c.loop-array-test.true) in
    loop_goes_on c.args.net.now c.args.table.now c.args.leaves.now c.args.first c.loop-array.guards.items c.pass.new.guards.items i c.loop-array.from
    c.in_ok-from.from (get_or order i 0) less is c.in_ok-from.ensures.near c.in_ok-from.ensures.passed c.loop-array.invariant

pub returns : goal.returns
returns c =
    let same = c.as_slice-order.ensures in
    let test = subst (λ (ks : List ℕ). length ks ≤ c.loop-array.array-index) same c.loop-array-test.false in
    let end = subst (λ (ks : List ℕ). c.loop-array.array-index ≤ length ks) same c.loop-array.auto.array-index-end in
    loop_ends c.args.net.now c.args.table.now c.args.leaves.now c.args.first c.loop-array.guards.items c.loop-array.array-index c.loop-array.from
    (omega (arith, test, end)) c.loop-array.invariant
