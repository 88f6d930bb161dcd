use Rattle.std.proofs.Common.{◌≡◌, length, subst, arith}
use Rattle.fir_meaning.specs.working.LeafedModules.{leafed_module}
use Rattle.fir_whens.proofs.CoveredViews.{as_many}
use Rattle.fir_flatten.specs.working.FirstSites.{IsFirstAhead}
use Rattle.fir_flatten.proofs.clock_faults.first_in_module.Goals as goal

pub loop-leaf-preserved : goal.loop-leaf-preserved
loop-leaf-preserved c = λ scenes copies k s is is_scene part start.
    c.earlier_site-first.ensures scenes copies k s c.args.copy c.loop-leaf.leaf is is_scene (c.loop-leaf.invariant scenes copies k s is is_scene part start)
    (c.site_of.ensures (leafed_module s) part)

pub returns : goal.returns
returns c = λ scenes copies k s is is_scene part start.
    let all : c.loop-leaf.leaf ≡ length (leafed_module s).leaves = omega (arith, as_many c.args.module.now.part.now (leafed_module s) part.view, c.len-leaf-end.ensures) in
    subst (λ n. IsFirstAhead scenes copies c.args.copy n c.loop-leaf.first) all (c.loop-leaf.invariant scenes copies k s is is_scene part start)
