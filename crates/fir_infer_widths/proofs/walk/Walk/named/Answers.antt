use Rattle.std.proofs.Common.{◌<◌, ◌^◌, length, arith}
use Rattle.fir_infer_widths.proofs.NamedSides.{side_ahead}
use Rattle.fir_infer_widths.proofs.walk.Walk.named.Goals as goal

pub returns-in-Reference-clause-side : goal.returns-in-Reference-clause-side
returns-in-Reference-clause-side c = λ typed sized s r meant rules rest enters reaches.
    let numbers = c.len-numbers.ensures meant rules enters.keeps in
    let in_range = c.len-numbers.type_inv in
    let small : length meant < 2 ^ 64 = omega arith in
    side_ahead c.args.ground.now meant rules typed sized s r rest c.args.self.now enters small reaches c.note-item.result c.in-Reference.range c.note-item.is c.in-Reference.is c.side_of.result
    c.side_of.ensures
