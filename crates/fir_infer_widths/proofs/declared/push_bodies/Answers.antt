use Rattle.std.proofs.Common.{ap, ◌∙◌}
use Rattle.fir_ast.specs.working.Views.{circuit_of}
use Rattle.fir_type_table.specs.working.Tables.{types_of}
use Rattle.fir_types.specs.working.TypedModules.{found_types}
use Rattle.fir_infer_widths.proofs.DeclaredWalks.{module_beside, bodies_begin, bodies_end, bodies_next}
use Rattle.fir_infer_widths.proofs.declared.push_bodies.Goals as goal

pub loop-number-init : goal.loop-number-init
loop-number-init c =
    bodies_begin (circuit_of c.args.named.now) (types_of c.args.findings.now.table) c.args.findings.now.declared.items c.requires.typed.types c.args.arena.now
    c.requires.ports

pub unreachable-requires : goal.unreachable-requires
unreachable-requires c =
    let ts = types_of c.args.findings.now.table in
    let types = ap (found_types ts) c.deref-declared-items.ensures.value ∙ c.requires.typed.types in
    let there = module_beside (circuit_of c.args.named.now) ts c.deref-declared-items.result.now types c.loop-number.number c.declared-item.result c.loop-number-test.true c.declared-item.is in
    c.in_default.ensures there.0 there.1

pub loop-number-preserved : goal.loop-number-preserved
loop-number-preserved c =
    let ts = types_of c.args.findings.now.table in
    let types = ap (found_types ts) c.deref-declared-items.ensures.value ∙ c.requires.typed.types in
    let pushes = rw c.deref.ensures.value at c.in_ok-push_module.ensures in
    bodies_next (circuit_of c.args.named.now) ts c.deref-declared-items.result.now types c.requires.names c.requires.typed.clear c.in-Some.names.now c.loop-number.number c.declared-item.result
    c.loop-number.arena c.push_module.new.arena c.loop-number-test.true c.declared-item.is c.in-Some.ensures c.loop-number.invariant pushes

pub returns : goal.returns
returns c =
    let ts = types_of c.args.findings.now.table in
    let types = ap (found_types ts) c.deref-declared-items.ensures.value ∙ c.requires.typed.types in
    bodies_end (circuit_of c.args.named.now) ts c.deref-declared-items.result.now types c.loop-number.number c.loop-number.arena c.loop-number-test.false
    c.loop-number.invariant
