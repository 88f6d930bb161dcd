use Rattle.std.proofs.Common.{refl, option_map}
use Rattle.std.proofs.lemmas.Result.{err_from_is_err_and}
use Rattle.fir_ast.specs.working.Views.{expr_of, named_of, reset_of}
use Rattle.fir_ast.specs.working.TypeViews.{type_of}
use Rattle.fir_meaning.specs.Components.{register}
use Rattle.fir_meaning.specs.TypeGroup.{scope_at}
use Rattle.fir_meaning.specs.Visibility.{with_declaration}
use Rattle.fir_type_table.specs.working.Tables.{types_of}
use Rattle.fir_types.specs.working.ModuleNotes.{reset_notes}
use Rattle.fir_types.specs.working.Notes.{expression_notes}
use Rattle.fir_check.proofs.NotedWalks.{noted_on}
use Rattle.fir_types.proofs.KnownScopes.{knows_before, knows_scope}
use Rattle.fir_check.proofs.RegisterWalks.{walks_written, own_type_fails, clock_fails, declared_behind, walks_register, register_passes}
use Rattle.fir_check.proofs.statements.in_register.Goals as goal

pub returns-in_err-register_type-clause-passes : goal.returns-in_err-register_type-clause-passes
returns-in_err-register_type-clause-passes c =
    let p = err_from_is_err_and c.from_residual-in_err-register_type.result c.from_residual-in_err-register_type.ensures.1 in
    let d = c.args.register.now in
    λ modules bundles before whole of begins walks.
    rw (p.1, p.2)
    (own_type_fails modules bundles before (named_of d.ident) (type_of d.ty) (expr_of d.clock) (option_map reset_of d.reset) c.args.scope.now c.add.new.self c.in_ok-found.found _
    c.in_ok-found.ensures c.in_err-register_type.ensures)

pub returns-in_err-in_clock-clause-passes : goal.returns-in_err-in_clock-clause-passes
returns-in_err-in_clock-clause-passes c =
    let p = err_from_is_err_and c.from_residual-in_err-in_clock.result c.from_residual-in_err-in_clock.ensures.1 in
    let d = c.args.register.now in
    let n = named_of d.ident in
    let t = type_of d.ty in
    λ modules bundles before whole of begins walks.
    let written = walks_written modules bundles before n t (expr_of d.clock) (option_map reset_of d.reset) c.args.scope.now c.add.new.self c.in_ok-found.found c.in_ok-found.ensures walks in
    let knows = knows_before modules c.args.names.now whole bundles c.add.new.self before n (register t) of begins written in
    rw (p.1, p.2)
    (clock_fails modules bundles before n t (expr_of d.clock) (option_map reset_of d.reset) c.args.scope.now c.add.new.self c.in_ok-found.found _
    c.in_ok-found.ensures c.in_ok-register_type.ensures (c.in_err-in_clock.ensures.found (scope_at modules before) knows))

pub returns-clause-passes : goal.returns-clause-passes
returns-clause-passes c =
    let d = c.args.register.now in
    let n = named_of d.ident in
    let t = type_of d.ty in
    let f = c.in_ok-found.found in
    let old = c.args.scope.now in
    let new = c.add.new.self in
    let last = record new { declared = c.push.new.self } in
    λ modules bundles before whole of begins walks.
    let behind = with_declaration before n (register t) in
    let clock = expr_of d.clock in
    let reset = option_map reset_of d.reset in
    let written = walks_written modules bundles before n t clock reset old new f c.in_ok-found.ensures walks in
    let declared = declared_behind modules bundles before n t clock reset old new last f c.in_ok-found.ensures refl c.in_ok-push.ensures.items in
    let after = walks_register modules bundles before n t clock reset old last declared walks in
    let knows = knows_before modules c.args.names.now whole bundles new before n (register t) of begins written in
    let known = knows_scope modules c.args.names.now whole bundles last behind of begins after in
    register_passes modules bundles before n t clock reset old new last f c.in_reset.result c.in_ok-found.ensures c.in_ok-register_type.ensures
    (c.in_ok-in_clock.ensures.found (scope_at modules before) knows)
    (rw c.in_ok-found.ensures.is at (c.in_reset.ensures.found (scope_at modules behind) known)) after declared

pub returns-clause-notes : goal.returns-clause-notes
returns-clause-notes c =
    let d = c.args.register.now in
    let n = named_of d.ident in
    let t = type_of d.ty in
    let f = c.in_ok-found.found in
    let old = c.args.scope.now in
    let new = c.add.new.self in
    let last = record new { declared = c.push.new.self } in
    λ modules bundles before whole of begins walks.
    let behind = with_declaration before n (register t) in
    let clock = expr_of d.clock in
    let reset = option_map reset_of d.reset in
    let written = walks_written modules bundles before n t clock reset old new f c.in_ok-found.ensures walks in
    let declared = declared_behind modules bundles before n t clock reset old new last f c.in_ok-found.ensures refl c.in_ok-push.ensures.items in
    let after = walks_register modules bundles before n t clock reset old last declared walks in
    let knows = knows_before modules c.args.names.now whole bundles new before n (register t) of begins written in
    let known = knows_scope modules c.args.names.now whole bundles last behind of begins after in
    noted_on (types_of new.table) _ _ _ (expression_notes (scope_at modules before) clock) (reset_notes (scope_at modules behind) reset) c.in_reset.result
    (c.in_ok-in_clock.ensures.notes (scope_at modules before) knows) (c.in_reset.ensures.notes (scope_at modules behind) known)
