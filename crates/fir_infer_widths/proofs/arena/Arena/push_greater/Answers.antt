use Rattle.std.proofs.Common.{◌≡◌, ◌<◌, ◌^◌, length, arith}
use Rattle.fir_infer_widths.proofs.ArenaGrows.{marks_long}
use Rattle.fir_infer_widths.proofs.EachPushed.{no_greater, next_greater, all_greater}
use Rattle.fir_infer_widths.proofs.arena.Arena.push_greater.Goals as goal

pub loop-i-init : goal.loop-i-init
loop-i-init c = no_greater c.args.self.now c.args.one c.args.other c.args.count

pub loop-i-preserved : goal.loop-i-preserved
loop-i-preserved c =
    let old = c.args.self.now in
    let short : length old.written.items < 2 ^ 64 = omega (arith, old.written.ok.0) in
    next_greater old c.loop-i.self c.push.new.self c.args.one c.args.other c.args.count c.loop-i.i c.saturating_add.result c.saturating_add-in-loop-i.result
    c.in_ok-push.field-0 short (omega arith) c.saturating_add.ensures c.saturating_add-in-loop-i.ensures c.loop-i.invariant c.in_ok-push.ensures

pub returns : goal.returns
returns c = λ meant rules vs ws k p q s t.
    let old = c.args.self.now in
    let number : c.len-first.result ≡ length old.written.items = omega (arith, c.len-first.ensures, old.written.ok.0) in (
      omega (arith, number, marks_long meant old.written.items k.marks),
      all_greater meant rules vs ws old c.loop-i.self c.args.one c.args.other c.args.count c.loop-i.i (omega arith) c.loop-i.invariant k p q s t,
    )
