use Rattle.std.proofs.Common.{◌≡◌, min, arith}
use Rattle.fir_bits.specs.Widths.{width_of}
use Rattle.fir_bits.specs.working.Operators.{type_of}
use Rattle.fir_bits.proofs.Below.{number_below}
use Rattle.fir_bits.proofs.Typing.{typed_at-ok, typed_at-width}
use Rattle.fir_bits.proofs.values.apply_at.Goals as goal

pub of-requires-clause-below : goal.of-requires-clause-below
of-requires-clause-below c =
    let op = c.args.op in
    let a = c.args.a.now in
    let b = c.args.b.now in
    let narrow = typed_at-width op (type_of a) (type_of b) c.args.n c.args.m c.requires in
    let legal = (typed_at-ok op (type_of a) (type_of b) c.args.n c.args.m c.requires).1 in
    let width_is : c.width-r.result ≡ min (width_of op a.signed a.value.width b.value.width c.args.n c.args.m) 129 =
    rw (← c.width-w.ensures.value, ← c.width-v.ensures.value) c.width-r.ensures in
    let r_is : c.width-r.result ≡ width_of op a.signed a.value.width b.value.width c.args.n c.args.m = omega (arith, narrow, width_is) in
    rw (c.value.ensures, r_is) (number_below op a b c.args.n c.args.m c.width-w.ensures.holds c.width-v.ensures.holds legal)
