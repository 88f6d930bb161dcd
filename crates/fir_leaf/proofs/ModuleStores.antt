-- The body of a module, from nothing stored.
use Rattle.std.proofs.Common.{[], None, refl}
use Rattle.fir_meaning.specs.Visibility.{behind_ports, at_head, declarations}
use Rattle.fir_meaning.specs.ComponentTypes.{typed_scope}
use Rattle.fir_meaning.proofs.WellTypedCircuits.{well_typed}
use Rattle.fir_meaning.specs.working.LeafBlocks.{nothing_stored}
use Rattle.fir_leaf.specs.working.LeafLaws.{IsSameStore, SameModuleStores}
use Rattle.fir_leaf.proofs.ScopesBegin.{begins_all}
use Rattle.fir_leaf.proofs.BlockStores.{same_stores}
use Rattle.fir_leaf.proofs.ClearScopes.{fine_module}

pub same_module_stores : SameModuleStores
same_module_stores c m facts env h clear i =
    let legal = (well_typed c h).0 clear m i in
    let whole = typed_scope c.modules (declarations m) in
    let nothing : IsSameStore whole nothing_stored (λ x. None) = record { each = λ k lt. refl } in
    same_stores c.modules (behind_ports at_head m.ports) whole facts env m.body [] nothing_stored (λ x. None)
    (fine_module c h m i legal) (begins_all whole) legal nothing
