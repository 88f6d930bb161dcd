use Rattle.std.proofs.Common.{[], append-nil, refl, sym, subst}
use Rattle.std.proofs.lemmas.Result.{on_ok_weaker}
use Rattle.fir_ast.specs.working.Views.{port_of}
use Rattle.fir_meaning.specs.Components as component
use Rattle.fir_meaning.specs.Visibility.{with_declaration}
use Rattle.fir_meaning.specs.working.LeafedModules.{own_leaves, port_role}
use Rattle.fir_leaf_table.specs.declared.giver.Giver.TheVariants as giver
use Rattle.fir_leaf_table.specs.declared.places.Places.TheVariants as places
use Rattle.fir_leaf_table.specs.working.Walks.{ComesBehind}
use Rattle.fir_leaf_table.proofs.DeclarationWalks.{leaves_come, ready_by}
use Rattle.fir_leaf_table.proofs.ports.in_port.Goals as goal

pub returns : goal.returns
returns c = λ circuit s before nodes rest enters declared.
    let p = port_of c.args.port.now in
    let part = component.port p.direction p.data_type in
    let old = c.args.walk.now in
    let new = c.push_leaves.new.walk in
    on_ok_weaker c.push_leaves.result
    (λ pushes.
    subst (λ ls. ComesBehind s (with_declaration before p.named part) nodes rest ls [] [] old new)
    (sym (append-nil (own_leaves s before p.named part (λ k l. port_role p.direction l))))
    (leaves_come c.args.frame.now circuit s before p.named part nodes rest rest 0 (places.Own p.named.place) (giver.Port p.direction)
    (λ l. p.named.place) (λ k l. port_role p.direction l) [] [] old old new enters declared
    (ready_by part nodes rest old old refl refl enters.drivers)
    pushes (λ k l there. record { place = refl; role = refl })))
    c.push_leaves.ensures
