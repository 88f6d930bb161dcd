use Rattle.std.proofs.Common.{◌≡◌, ℕ, [], ◌∷◌, Some, refl, sym, subst}
use Rattle.std.specs.Prelude.{slice_get}
use Rattle.std.proofs.lemmas.Result.{on_ok_weaker}
use Rattle.fir_ast.specs.working.Views.{named_of}
use Rattle.fir_meaning.specs.Components.{instance}
use Rattle.fir_meaning.specs.ComponentTypes.{instance_type}
use Rattle.fir_meaning.specs.ResetJoins.{numbered_module}
use Rattle.fir_meaning.specs.TypeLeaves.{TypeLeaf}
use Rattle.fir_ground.specs.working.DeclarationDrivers.{others}
use Rattle.fir_meaning.specs.working.LeafedModules.{instance_place, instance_role}
use Rattle.fir_meaning.specs.FoundTypes.{leaves_of_data}
use Rattle.fir_leaf_table.specs.declared.giver.Giver.TheVariants as giver
use Rattle.fir_leaf_table.specs.declared.places.Places.TheVariants as places
use Rattle.fir_leaf_table.proofs.DeclarationWalks.{leaves_come, ready_by}
use Rattle.fir_leaf_table.proofs.GivenLeaves.{Agrees}
use Rattle.fir_leaf_table.proofs.InstancePlaces.{instance_agrees}
use Rattle.fir_leaf_table.proofs.NextDrivers.{takes_rest}
use Rattle.fir_leaf_table.proofs.instances.in_instance.Goals as goal

pub returns : goal.returns
returns c = λ place other circuit s before nodes rest enters declared.
    let n = named_of c.args.ident.now in
    let name = other.name in
    let old = c.args.walk.now in
    let mid = c.next_driver.new.self in
    let frames = enters.frames in
    let ports = c.port_places-ports.result in
    let stands = places.Ports n.place ports in
    let those = c.port_places-ports.ensures circuit s before n name frames (record { begins = declared; counted = enters.counts.declared }) in
    let agree = instance_agrees circuit frames.named n name ports.now nodes stands (λ k flip. refl) those in
    on_ok_weaker c.push_leaves.result
    (λ pushes.
    leaves_come c.args.frame.now circuit s before n (instance name) nodes (others ∷ rest) rest c.args.depth stands giver.Instance
    (instance_place n (numbered_module 0 s.own.modules name)) instance_role [] [] old mid c.push_leaves.new.walk enters declared
    (ready_by (instance name) nodes rest old mid refl c.next_driver.ensures.stays
    (takes_rest nodes others rest _ mid (c.next_driver.ensures.takes nodes others rest enters.drivers)))
    pushes
    (subst (λ ms. (k : ℕ) (l : TypeLeaf) → slice_get (leaves_of_data (instance_type ms name)) k ≡ Some l
    → Agrees nodes stands giver.Instance (instance_place n (numbered_module 0 ms name)) instance_role k l) (sym frames.modules) agree))
    c.push_leaves.ensures
