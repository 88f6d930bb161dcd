use Rattle.std.proofs.Common.{ap}
use Rattle.std.proofs.lemmas.Option.{none-some, same_Some}
use Rattle.fir_names.specs.declared.declaration.Declaration.{Declaration as Entry}
use Rattle.fir_infer_resets.proofs.leaf_place.place_of.Goals as goal

pub returns-in-Some : goal.returns-in-Some
returns-in-Some c d h = let r = c.in-Some.ensures d h in ap (λ (e : Entry). e.place) (same_Some c.in-Some.declaration.now _ r.1)

pub returns-in-None : goal.returns-in-None
returns-in-None c d h = let r = c.in-None.ensures d h in absurd (none-some _ r.1)
