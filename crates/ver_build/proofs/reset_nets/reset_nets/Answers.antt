use Rattle.std.proofs.Common.{arith, ◌≡◌, ◌<◌, ◌≤◌, ℕ, List, length, get_or, subst, sym}
use Rattle.ver_build.proofs.ResetWalk.{ResetLoop, loop_begins, loop_goes_on, loop_ends}
use Rattle.ver_build.proofs.reset_nets.reset_nets.Goals as goal

pub loop-word-init : goal.loop-word-init
loop-word-init c =
    subst (λ (ns : _). ResetLoop c.args.net.now c.args.table.now c.args.leaves.now c.args.nodes.now c.args.first ns 0 c.args.first) (sym c.new-names.ensures.items)
    (loop_begins c.args.net.now c.args.table.now c.args.leaves.now c.args.nodes.now c.args.first c.requires)

pub loop-word-preserved : goal.loop-word-preserved
loop-word-preserved c =
    let same = c.as_slice-words.ensures in
    let less = subst (λ (ws : List ℕ). c.loop-word.word-index < length ws) same c.loop-word-test.true in
    let is = subst (λ (ws : List ℕ). c.word-item.result ≡ get_or ws c.loop-word.word-index c.word-item.result) same c.word-item.is in
    loop_goes_on c.args.net.now c.args.table.now c.args.leaves.now c.args.nodes.now c.args.first c.loop-word.names.items c.pass.new.names.items
    c.loop-word.word-index c.loop-word.from c.in_ok-from.from c.word-item.result less is (omega (arith, c.if-from-gt-MOST.false)) c.in_ok-from.ensures.near
    c.in_ok-from.ensures.passed c.loop-word.invariant

pub returns-clause-near : goal.returns-clause-near
returns-clause-near c = c.loop-word.invariant.near

pub returns-clause-named : goal.returns-clause-named
returns-clause-named c =
    let same = c.as_slice-words.ensures in
    let test = subst (λ (ws : List ℕ). length ws ≤ c.loop-word.word-index) same c.loop-word-test.false in
    let end = subst (λ (ws : List ℕ). c.loop-word.word-index ≤ length ws) same c.loop-word.auto.word-index-end in
    loop_ends c.args.net.now c.args.table.now c.args.leaves.now c.args.nodes.now c.args.first c.loop-word.names.items c.loop-word.word-index c.loop-word.from
    (omega (arith, test, end)) c.loop-word.invariant
