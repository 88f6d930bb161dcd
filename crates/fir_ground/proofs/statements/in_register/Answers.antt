use Rattle.std.proofs.Common.{◌++◌, [], ◌∷◌, append_assoc, ap, ◌∙◌, subst}
use Rattle.std.specs.Prelude.{option_map}
use Rattle.std.proofs.lemmas.Result.{on_ok_weaker}
use Rattle.fir_ast.specs.Types.{clock}
use Rattle.fir_ast.specs.working.Views.{expr_of, named_of, reset_of}
use Rattle.fir_ast.specs.working.TypeViews.{type_of}
use Rattle.fir_meaning.specs.Components.{register}
use Rattle.fir_meaning.specs.TypeGroup.{scope_at}
use Rattle.fir_meaning.specs.Visibility.{declaration_at, with_declaration}
use Rattle.fir_types.specs.working.ModuleNotes.{register_notes, reset_notes}
use Rattle.fir_types.specs.working.Notes.{expression_notes}
use Rattle.fir_types.proofs.KnownScopes.{begins_before}
use Rattle.fir_meaning.specs.working.Leafed.{first_term, terms}
use Rattle.fir_ground.specs.declared.driver.Driver.TheVariants.{Register}
use Rattle.fir_ground.specs.working.DeclarationDrivers.{register_terms, reset_seen, reset_terms}
use Rattle.fir_ground.specs.working.Grounds.{Enters}
use Rattle.fir_ground.proofs.Connecting.{comes_on}
use Rattle.fir_leaf_pairs.proofs.Entries.{grows_on}
use Rattle.fir_leaf_pairs.proofs.Giving.{term_keeps}
use Rattle.fir_ground.proofs.FramedScopes.{frames_stand}
use Rattle.fir_ground.proofs.PlaceWalks.{declared_behind, enters_place}
use Rattle.fir_ground.proofs.statements.in_register.Goals as goal

pub returns : goal.returns
returns c = λ place out modules costs whole before rest enters begins legal cost.
    let f = c.args.frame.now in
    let x = c.args.register.now in
    let n = named_of x.ident in
    let t = type_of x.ty in
    let e = expr_of x.clock in
    let r = option_map reset_of x.reset in
    let after = with_declaration before n (register t) in
    let typed = scope_at modules before in
    let behind = scope_at modules after in
    let was = c.args.declared.now in
    let old = c.args.walk.now in
    let mid = c.in_first.new.walk in
    let made = c.in_reset.new.walk in
    let new = c.declare.new.walk in
    let id = c.in_ok-clock.clock in
    let set = c.in_ok-reset.reset in
    let notes = register_notes modules before n t e r ++ rest in
    let next = reset_notes behind r ++ rest in
    let whole_enters = enters_place f modules whole before before notes was old enters
    (begins_before whole before.declared (declaration_at before n (register t) ∷ []) begins) in
    let first : Enters f.ground typed (expression_notes typed e ++ next) old =
    subst (λ l. Enters f.ground typed l old) (append_assoc (expression_notes typed e) (reset_notes behind r) rest) whole_enters in
    let a = c.in_ok-clock.ensures typed clock next first legal.2 in
    let second : Enters f.ground behind next mid = record { stands = frames_stand f modules whole after enters.frames begins; ahead = a.comes.ahead } in
    let b = c.in_ok-reset.ensures behind t rest second legal.3 in
    on_ok_weaker c.declare.result
    (declared_behind f modules whole before n (register t) notes rest was c.declare.new.declared old made new out
    (Register (record { clock = id; reset = set })) (register_terms (first_term (terms typed e)) (option_map (reset_terms behind) r)) enters
    (comes_on f.ground next rest old mid made a.comes b.comes)
    (λ later g.
    ap (λ x. register_terms x (option_map (reset_seen later) set))
    (term_keeps mid.nodes.items later id (grows_on mid.nodes.items made.nodes.items later b.comes.grows g) a.shows.within ∙ a.shows.term)
    ∙ ap (register_terms (first_term (terms typed e))) (b.seen later g)))
    c.declare.ensures
