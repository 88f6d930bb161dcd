use Rattle.std.proofs.Common.{◌≡◌, ◌∷◌, [], map, refl, ap, sym, ◌∙◌}
use Rattle.std.specs.Prelude.{option_map}
use Rattle.std.proofs.lemmas.Result.{on_ok_weaker}
use Rattle.fir_ast.specs.working.Views.{named_of}
use Rattle.fir_meaning.specs.Components as component
use Rattle.fir_meaning.specs.TypeGroup.{scope_at}
use Rattle.fir_ground.specs.working.DeclarationDrivers.{driver_seen, node_terms}
use Rattle.fir_meaning.specs.working.Leafed.{terms}
use Rattle.fir_meaning.specs.working.LeafedBlocks.{term_at}
use Rattle.fir_meaning.specs.ModuleScenes.{scope_before}
use Rattle.fir_meaning.specs.working.LeafModules.{computed}
use Rattle.fir_leaf.specs.working.Nodes.{node_term}
use Rattle.fir_leaf_table.specs.declared.giver.Giver.TheVariants as giver
use Rattle.fir_leaf_table.specs.declared.places.Places.TheVariants as places
use Rattle.fir_leaf_table.proofs.DeclarationWalks.{leaves_come, ready_by}
use Rattle.fir_leaf_table.proofs.NextDrivers.{node_driver, takes_none, takes_rest, takes_some}
use Rattle.fir_leaf_table.proofs.statements.in_node.Goals as goal

pub returns-in_default : goal.returns-in_default
returns-in_default c = λ place e circuit s before nodes rest enters declared.
    absurd (takes_none nodes _ rest _ c.next_driver.new.self (ap (option_map (λ d. d.now)) c.in_default.is)
    (c.next_driver.ensures.takes nodes _ rest enters.drivers))

pub returns-in_default-driver : goal.returns-in_default-driver
returns-in_default-driver c = λ place e circuit s before nodes rest enters declared.
    absurd (node_driver nodes c.in-Some.driver.now _
    (takes_some nodes _ rest _ c.in-Some.driver.now c.next_driver.new.self (ap (option_map (λ d. d.now)) c.in-Some.is)
    (c.next_driver.ensures.takes nodes _ rest enters.drivers))
    c.in_default-driver.not-Node)

pub returns : goal.returns
returns c = λ place e circuit s before nodes rest enters declared.
    let n = named_of c.args.ident.now in
    let part = component.node e in
    let old = c.args.walk.now in
    let mid = c.next_driver.new.self in
    let taken = c.next_driver.ensures.takes nodes _ rest enters.drivers in
    let meant = node_terms (terms (scope_at circuit.modules before) e) in
    let ids = c.in-Node.ids in
    let driver : driver_seen nodes c.in-Some.driver.now ≡ meant =
    takes_some nodes meant rest _ c.in-Some.driver.now mid (ap (option_map (λ d. d.now)) c.in-Some.is) taken in
    let same : node_terms (map (node_term nodes) ids.items) ≡ node_terms (terms (scope_before s before) e) =
    ap (driver_seen nodes) (sym c.in-Node.is) ∙ driver ∙ ap (λ ms. node_terms (terms (scope_at ms before) e)) (sym enters.frames.modules) in
    let own : map (node_term nodes) ids.items ≡ terms (scope_before s before) e = cc in
    on_ok_weaker c.push_leaves.result
    (λ pushes.
    leaves_come c.args.frame.now circuit s before n part nodes (meant ∷ rest) rest c.args.depth (places.Own n.place) (giver.Node c.deref.result)
    (λ l. n.place) (λ k l. computed (term_at (terms (scope_before s before) e) k)) [] [] old mid c.push_leaves.new.walk enters declared
    (ready_by part nodes rest old mid refl c.next_driver.ensures.stays (takes_rest nodes meant rest _ mid taken))
    pushes
    (λ k l there. record {
      place = refl;
      role = ap (λ ts. computed (term_at ts k)) (ap (map (node_term nodes)) c.deref.ensures.value ∙ own);
    }))
    c.push_leaves.ensures
