use Rattle.std.proofs.Common.{map, ap, subst}
use Rattle.std.proofs.lemmas.Result.{err_from_is_err_and}
use Rattle.fir_ast.specs.working.Views.{block_of, module_of, port_of, stmt_of}
use Rattle.fir_meaning.specs.Visibility.{at_head, behind_ports, declarations}
use Rattle.fir_type_table.specs.working.Tables.{types_of}
use Rattle.fir_types.specs.declared.scope.Scope.{Scope}
use Rattle.fir_types.specs.working.ModuleNotes.{block_notes}
use Rattle.fir_types.specs.working.Noted.{Noted}
use Rattle.fir_check.proofs.ModuleWalks.{begins_module, body_fails, module_judged, walks_ports}
use Rattle.fir_check.proofs.module.in_module.Goals as goal

pub returns-in_err-declare_ports : goal.returns-in_err-declare_ports
returns-in_err-declare_ports c =
    let p = err_from_is_err_and c.from_residual.result c.from_residual.ensures.1 in
    λ modules of holds. rw (p.1, p.2) tt

pub returns-in_err-in_block : goal.returns-in_err-in_block
returns-in_err-in_block c =
    let p = err_from_is_err_and c.from_residual-in_err-in_block.result c.from_residual-in_err-in_block.ensures.1 in
    let bundles = c.args.bundles.now in
    let m = module_of c.args.part.now in
    let ports = map port_of c.deref.result.now in
    let body = block_of (map stmt_of c.deref-2.result.now) in
    let first = ap (map port_of) c.deref.ensures.value in
    let second = ap (λ b. block_of (map stmt_of b)) c.deref-2.ensures.value in
    λ modules of holds.
    let old : Scope = record { table = c.args.table; declared = c.new.result } in
    let walks = walks_ports modules bundles m ports body first second old c.declare_ports.new.scope c.new.ensures.items holds c.in_ok-declare_ports.ensures in
    rw (p.1, p.2)
    (body_fails modules bundles m ports body first second c.in_err-in_block.field-0.0
    (c.in_err-in_block.ensures.passes modules (behind_ports at_head ports) (declarations m) of (begins_module modules bundles m ports body first second) walks))

pub returns : goal.returns
returns c =
    let bundles = c.args.bundles.now in
    let m = module_of c.args.part.now in
    let ports = map port_of c.deref.result.now in
    let body = block_of (map stmt_of c.deref-2.result.now) in
    let first = ap (map port_of) c.deref.ensures.value in
    let second = ap (λ b. block_of (map stmt_of b)) c.deref-2.ensures.value in
    λ modules of holds.
    let old : Scope = record { table = c.args.table; declared = c.new.result } in
    let walks = walks_ports modules bundles m ports body first second old c.declare_ports.new.scope c.new.ensures.items holds c.in_ok-declare_ports.ensures in
    module_judged modules bundles m ports body first second old c.declare_ports.new.scope c.in_block.new.scope c.in_ok-declare_ports.ensures
    (c.in_ok-in_block.ensures.passes modules (behind_ports at_head ports) (declarations m) of (begins_module modules bundles m ports body first second) walks)
    c.in_block.new.notes
    (subst (λ start. Noted (types_of c.in_block.new.scope.table) start c.in_block.new.notes.items (block_notes modules (behind_ports at_head ports) body)) c.new-notes.ensures.items
    (c.in_ok-in_block.ensures.notes modules (behind_ports at_head ports) (declarations m) of (begins_module modules bundles m ports body first second) walks))
