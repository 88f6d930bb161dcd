use Rattle.std.proofs.Common.{[], ◌++◌, append_assoc, refl}
use Rattle.std.specs.Prelude.{option_map}
use Rattle.std.proofs.lemmas.Result.{on_ok_weaker}
use Rattle.fir_ast.specs.Types.{clock}
use Rattle.fir_ast.specs.working.Views.{expr_of, named_of, reset_of}
use Rattle.fir_ast.specs.working.TypeViews.{type_of}
use Rattle.fir_meaning.specs.Components.{register}
use Rattle.fir_meaning.specs.TypeGroup.{scope_at}
use Rattle.fir_meaning.specs.Visibility.{declarations, with_declaration}
use Rattle.fir_meaning.specs.SizedDeclarations.{sized_at, sized_declared}
use Rattle.fir_meaning.specs.SizedScopes.{sized_type}
use Rattle.fir_meaning.specs.WidthRules.{init_rules}
use Rattle.fir_types.specs.working.ModuleNotes.{register_notes, reset_notes}
use Rattle.fir_types.specs.working.Notes.{expression_notes}
use Rattle.fir_infer_widths.specs.working.Spots.{spots_of_reset, spots_within}
use Rattle.fir_infer_widths.specs.working.Walks.{types_in}
use Rattle.fir_infer_widths.proofs.DeclarationWalks.{begins_declared, declared_enters, declared_then}
use Rattle.fir_infer_widths.proofs.PlaceWalks.{enters_behind, enters_notes, still_then}
use Rattle.fir_infer_widths.proofs.Standing.{side_more}
use Rattle.fir_infer_widths.proofs.statements.in_register.Goals as goal

pub returns : goal.returns
returns c = λ place k m before meant rules rest enters begins legal.
    let g = c.args.ground.now in
    let x = c.args.register.now in
    let n = named_of x.ident in
    let t = type_of x.ty in
    let e = expr_of x.clock in
    let r = option_map reset_of x.reset in
    let after = with_declaration before n (register t) in
    let typed = scope_at m.modules before in
    let typed_behind = scope_at m.modules after in
    let s = sized_declared m before n (register t) in
    let notes = register_notes m.modules before n t e r ++ rest in
    let next = reset_notes typed_behind r ++ rest in
    let joined = append_assoc (expression_notes typed e) (reset_notes typed_behind r) rest in
    let d = c.in_ok-own.ensures k m before (register t) t meant rules notes (record { enters = enters; begins = begins; is = refl }) (record { leaves = refl; written = refl }) in
    let own = c.in_ok-own.own in
    let first = c.args.walk.now in
    let second = c.declared.new.walk in
    let third = c.in_expression.new.walk in
    let more = meant ++ d.passed.comes.more in
    let in_clock = enters_notes g typed (sized_at m before) more (rules ++ []) notes (expression_notes typed e ++ next) second joined
    (declared_enters k g m before n (register t) meant rules notes first second own enters d before (begins_declared before n (register t) (declarations m.inside) begins)) in
    let in_reset = enters_notes g typed_behind (sized_at m after) more (rules ++ []) notes (expression_notes typed e ++ next) second joined
    (declared_enters k g m before n (register t) meant rules notes first second own enters d after begins) in
    let to = c.in_ok-in_expression.ensures k typed (sized_at m before) clock more (rules ++ []) next in_clock legal.2 in
    on_ok_weaker c.in_reset.result
    (λ still.
    declared_then k g m before n (register t) meant rules (init_rules s (sized_at m after) r) notes rest (spots_within (sized_at m before) e ++ spots_of_reset (sized_at m after) r) first second
    c.in_reset.new.walk own d
    (still_then k g more (rules ++ []) next rest (spots_within (sized_at m before) e) (spots_of_reset (sized_at m after) r) (init_rules s (sized_at m after) r) second third
    c.in_reset.new.walk (sized_type (sized_at m before) e) c.in_ok-in_expression.field-0 to still))
    (c.in_reset.ensures k typed_behind (sized_at m after) s t (more ++ to.comes.more) ((rules ++ []) ++ []) rest
    (enters_behind k g typed_behind (sized_at m after) more (rules ++ []) [] (expression_notes typed e ++ next) next (spots_within (sized_at m before) e) second third in_reset to.comes)
    (side_more (types_in g) more to.comes.more own s d.is) legal.3)
