use Rattle.std.proofs.Common.{refl, sym, ap, ◌∙◌, subst}
use Rattle.std.proofs.lemmas.Option.{same_Some}
use Rattle.fir_types.specs.declared.note.LeafRange.{LeafRange}
use Rattle.fir_ground.specs.working.Indices.{IsPicked, base_of}
use Rattle.fir_ground.proofs.references.picked.Goals as goal

pub returns : goal.returns
returns c =
    let gives = rw c.deref.ensures.value at c.in_ok-chain.ensures in
    λ own meant is are.
    let chained = gives meant are in
    let same = same_Some c.in-Some.range own (sym c.in-Some.is ∙ is) in
    subst (λ (x : LeafRange). IsPicked c.args.ground.now.firsts.now x meant c.args.nodes.now.items c.chained.new.nodes.items (record { base = c.base.result; picks = c.in_ok-chain.chain.picks; found = c.in-Some.range.found })) same
    (record {
      grows = chained.grows;
      base = c.base.ensures ∙ ap (base_of c.args.ground.now.firsts.now c.in-Some.range) chained.is_there;
      within = chained.within;
      picks = chained.picks;
      found = refl;
    })
