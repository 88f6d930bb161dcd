use Rattle.std.proofs.Common.{ℕ, get_or, refl, ap, ◌∙◌}
use Rattle.std.proofs.Math.ListN.{set}
use Rattle.fir_bits.specs.Values.{BitVector}
use Rattle.ver_runner.proofs.Rooms.{none_filled, filled_more, all_filled}
use Rattle.ver_runner.proofs.shown.fill.Goals as goal

abbrev at_width : ℕ → ℕ → BitVector
at_width number width = record { width = width; number = number }

pub loop-i-init : goal.loop-i-init
loop-i-init c = none_filled c.args.room.now.items c.args.numbers.now c.requires

pub loop-i-preserved : goal.loop-i-preserved
loop-i-preserved c =
    let number = get_or c.args.numbers.now c.loop-i.i 0 in
    filled_more c.args.room.now.items c.loop-i.room.items c.args.numbers.now c.loop-i.i c.index.result.now number c.loop-i.invariant c.loop-i-test.true c.index.ensures refl
    (set c.loop-i.room.items c.loop-i.i c.of.result) (ap (set c.loop-i.room.items c.loop-i.i) (c.of.ensures ∙ ap (at_width number) c.width.ensures.value))

pub returns : goal.returns
returns c = all_filled c.args.room.now.items c.loop-i.room.items c.args.numbers.now c.loop-i.i c.loop-i.invariant c.loop-i-test.false
