use Rattle.std.proofs.Common.{◌≡◌, length, subst, arith}
use Rattle.fir_flatten.specs.working.FirstSites.{IsFirstAhead}
use Rattle.fir_flatten.proofs.clock_faults.first_site.Goals as goal

pub returns : goal.returns
returns c = λ scenes parts.
    let all : c.loop-number.number ≡ length c.args.copies.now = omega arith in
    subst (λ n. IsFirstAhead scenes c.args.copies.now n 0 c.loop-number.first) all (c.loop-number.invariant scenes parts)
