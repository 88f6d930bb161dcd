use Rattle.std.proofs.Common.{◌++◌, ap, ◌∙◌, [], ◌∷◌}
use Rattle.std.proofs.lemmas.Result.{on_ok_weaker}
use Rattle.fir_ast.specs.working.Views.{expr_of}
use Rattle.fir_meaning.specs.Components.{node}
use Rattle.fir_meaning.specs.TypeGroup.{scope_at}
use Rattle.fir_meaning.specs.Visibility.{declaration_at}
use Rattle.fir_types.specs.working.Notes.{expression_notes}
use Rattle.fir_types.proofs.KnownScopes.{begins_before}
use Rattle.fir_meaning.specs.working.Leafed.{terms}
use Rattle.fir_ground.specs.declared.driver.Driver.TheVariants.{Node}
use Rattle.fir_ground.specs.working.DeclarationDrivers.{node_terms}
use Rattle.fir_leaf_pairs.proofs.Giving.{all_keep}
use Rattle.fir_ground.proofs.PlaceWalks.{declared_behind, enters_place}
use Rattle.fir_ground.proofs.statements.in_node.Goals as goal

pub returns : goal.returns
returns c = λ place named out modules costs whole before rest enters begins legal cost.
    let f = c.args.frame.now in
    let e = expr_of c.args.value.now in
    let typed = scope_at modules before in
    let notes = expression_notes typed e ++ rest in
    let old = c.args.walk.now in
    let mid = c.in_expression.new.walk in
    let new = c.declare.new.walk in
    let ids = c.in_ok-leaves.leaves in
    let expands = c.in_ok-leaves.ensures typed legal.0 rest
    (enters_place f modules whole before before notes c.args.declared.now old enters
    (begins_before whole before.declared (declaration_at before named (node e) ∷ []) begins)) legal.1 in
    on_ok_weaker c.declare.result
    (declared_behind f modules whole before named (node e) notes rest c.args.declared.now c.declare.new.declared old mid new out (Node ids)
    (node_terms (terms typed e)) enters expands.comes
    (λ later g. ap node_terms (all_keep mid.nodes.items later ids.items g expands.gives.within ∙ expands.gives.terms)))
    c.declare.ensures
