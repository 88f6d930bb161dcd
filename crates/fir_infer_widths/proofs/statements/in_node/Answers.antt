use Rattle.std.proofs.Common.{[], ◌++◌, refl}
use Rattle.std.proofs.lemmas.Result.{on_ok_weaker}
use Rattle.fir_ast.specs.working.Views.{expr_of, named_of}
use Rattle.fir_meaning.specs.Components.{node}
use Rattle.fir_meaning.specs.TypeGroup.{scope_at}
use Rattle.fir_meaning.specs.Visibility.{declarations}
use Rattle.fir_meaning.specs.SizedDeclarations.{sized_at, sized_declared}
use Rattle.fir_meaning.specs.SizedScopes.{sized_type}
use Rattle.fir_meaning.specs.WidthRules.{connect_rules}
use Rattle.fir_types.specs.working.Notes.{expression_notes}
use Rattle.fir_infer_widths.specs.working.Spots.{spots_within}
use Rattle.fir_infer_widths.proofs.DeclarationWalks.{begins_declared, declared_enters, declared_then, node_type}
use Rattle.fir_infer_widths.proofs.statements.in_node.Goals as goal

pub returns : goal.returns
returns c = λ place k m before meant rules rest enters begins legal.
    let g = c.args.ground.now in
    let n = named_of c.args.ident.now in
    let e = expr_of c.args.value.now in
    let typed = scope_at m.modules before in
    let sized = sized_at m before in
    let s = sized_declared m before n (node e) in
    let notes = expression_notes typed e ++ rest in
    let d = c.in_ok-own.ensures k m before (node e) legal.0 meant rules notes
    (record { enters = enters; begins = begins; is = node_type m.modules typed n e legal.0 legal.1 }) (record { leaves = refl; written = refl }) in
    on_ok_weaker c.in_driver.result
    (λ still.
    declared_then k g m before n (node e) meant rules (connect_rules s (sized_type sized e)) notes rest (spots_within sized e) c.args.walk.now c.declared.new.walk c.in_driver.new.walk
    c.in_ok-own.own d still)
    (c.in_driver.ensures k typed sized s legal.0 (meant ++ d.passed.comes.more) (rules ++ []) rest
    (declared_enters k g m before n (node e) meant rules notes c.args.walk.now c.declared.new.walk c.in_ok-own.own enters d before
    (begins_declared before n (node e) (declarations m.inside) begins)) d.is legal.1)
