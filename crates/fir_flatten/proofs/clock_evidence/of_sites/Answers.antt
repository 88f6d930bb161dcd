use Rattle.std.proofs.Common.{flat_map, subst, take_all}
use Rattle.fir_leaf.specs.working.ClockFaults.{live_places}
use Rattle.fir_flatten.specs.working.FirstIndices.{IsFirstOf}
use Rattle.fir_flatten.proofs.EvidenceOfSites.{none_told, told_more, told_second}
use Rattle.fir_flatten.proofs.clock_evidence.of_sites.Goals as goal

pub loop-site-init : goal.loop-site-init
loop-site-init c = λ ls h. none_told ls h

pub loop-site-preserved : goal.loop-site-preserved
loop-site-preserved c =
    told_more c.args.sites.now c.loop-site.site-index _ c.loop-site.index c.earlier-index.result c.loop-site-test.true c.loop-site.invariant
    c.earlier-index.ensures

pub returns-in-None-len2-up : goal.returns-in-None-len2-up
returns-in-None-len2-up c = λ ls h.
    let first = rw (take_all c.loop-site.site-index c.args.sites.now c.loop-site-test.false) at c.loop-site.invariant in
    told_second c.args.sites.now _ ls (subst (IsFirstOf (flat_map live_places ls)) c.in-None-len2-up.is-0 (first ls h)) h c.in-None-len2-up.len_at_least
