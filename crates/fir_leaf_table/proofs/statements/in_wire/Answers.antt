use Rattle.std.proofs.Common.{[], ◌∷◌, refl}
use Rattle.std.proofs.lemmas.Result.{on_ok_weaker}
use Rattle.fir_ast.specs.working.Views.{named_of}
use Rattle.fir_meaning.specs.Components as component
use Rattle.fir_ground.specs.working.DeclarationDrivers.{others}
use Rattle.fir_meaning.specs.working.LeafModules.{sink}
use Rattle.fir_leaf_table.specs.declared.giver.Giver.TheVariants as giver
use Rattle.fir_leaf_table.specs.declared.places.Places.TheVariants as places
use Rattle.fir_leaf_table.proofs.DeclarationWalks.{leaves_come, ready_by}
use Rattle.fir_leaf_table.proofs.NextDrivers.{takes_rest}
use Rattle.fir_leaf_table.proofs.statements.in_wire.Goals as goal

pub returns : goal.returns
returns c = λ place begins t circuit s before nodes rest enters declared.
    let n = named_of c.args.ident.now in
    let old = c.args.walk.now in
    let mid = c.next_driver.new.self in
    on_ok_weaker c.push_leaves.result
    (λ pushes.
    leaves_come c.args.frame.now circuit s before n (component.wire t) nodes (others ∷ rest) rest c.args.depth (places.Own n.place) giver.Wire
    (λ l. n.place) (λ k l. sink) [] [] old mid c.push_leaves.new.walk enters declared
    (ready_by (component.wire t) nodes rest old mid refl c.next_driver.ensures.stays
    (takes_rest nodes others rest _ mid (c.next_driver.ensures.takes nodes others rest enters.drivers)))
    pushes (λ k l there. record { place = refl; role = refl }))
    c.push_leaves.ensures
