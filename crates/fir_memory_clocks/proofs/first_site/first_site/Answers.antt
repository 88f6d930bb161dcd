use Rattle.std.proofs.Common.{◌≡◌, length, subst, arith}
use Rattle.fir_memory_clocks.specs.working.FirstMemories.{IsFirstBefore}
use Rattle.fir_memory_clocks.proofs.first_site.first_site.Goals as goal

pub loop-number-preserved : goal.loop-number-preserved
loop-number-preserved c =
    c.earlier_site-first.ensures c.args.found.now c.args.copies.now c.loop-number.number c.loop-number.invariant c.site_of.ensures

pub returns : goal.returns
returns c =
    let all : c.loop-number.number ≡ length c.args.copies.now = omega arith in
    subst (λ n. IsFirstBefore c.args.found.now c.args.copies.now n c.loop-number.first) all c.loop-number.invariant
