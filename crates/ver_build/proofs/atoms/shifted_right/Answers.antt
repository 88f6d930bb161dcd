use Rattle.std.proofs.Common.{◌^◌, arith}
use Rattle.std.proofs.lemmas.Nat.{pow_pos, div_below}
use Rattle.ver_build.proofs.Residues.{below_power}
use Rattle.ver_build.proofs.atoms.shifted_right.Goals as goal

pub returns-then-by-ge128 : goal.returns-then-by-ge128
returns-then-by-ge128 c =
    let small = below_power c.args.n 128 c.args.by c.ranges.n.fits c.if-by-ge128.true in
    omega (arith, div_below c.args.n (2 ^ c.args.by) 1 (pow_pos c.args.by) (omega arith))
