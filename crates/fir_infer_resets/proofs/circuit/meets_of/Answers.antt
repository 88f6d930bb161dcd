use Rattle.std.proofs.Common.{length, refl, ap, ◌∙◌, ◌≤◌, arith}
use Rattle.std.proofs.lemmas.List.{length-map}
use Rattle.fir_ast.specs.working.Views.{circuit_of, module_of}
use Rattle.fir_type_table.specs.working.Tables.{types_of}
use Rattle.fir_types.proofs.ModuleItems.{module_there}
use Rattle.fir_infer_resets.proofs.ModulesMet.{met_all, met_first, met_next, notes_ahead, numbered}
use Rattle.fir_infer_resets.proofs.circuit.meets_of.Goals as goal

pub loop-number-init : goal.loop-number-init
loop-number-init c = met_first (circuit_of c.args.named.now) (types_of c.args.findings.now.table) c.new-meets.result.items c.new-meets.ensures.items

pub loop-number-preserved : goal.loop-number-preserved
loop-number-preserved c =
    let tree = c.args.named.now in
    let items = c.deref-part-items.result.now in
    let same = c.deref-part-items.ensures.value ∙ ap (λ x. x.modules.items) c.circuit.ensures.tree in
    let i = c.loop-number.number in
    let part = c.part-item.result in
    let at = module_there tree items same i part c.loop-number-test.true c.part-item.is in
    let found = c.args.findings.now in
    let lookup = c.in-Some.ensures.lookup in
    let ahead = notes_ahead (circuit_of tree) found c.requires.typed i (module_of part) at c.deref.result.now c.in-Some.notes.now c.deref-in-loop-number.result.now
    c.deref.ensures.value lookup.3.0 lookup.1 c.deref-in-loop-number.ensures.value in
    met_next (circuit_of tree) (types_of found.table) i (module_of part) c.loop-number.meets.items c.push.new.self.items c.in_ok-in_module.field-0 at c.loop-number.invariant
    (c.in_ok-in_module.ensures (types_of found.table) (numbered (circuit_of tree) i (module_of part)) refl ahead) c.in_ok-push.ensures.items

pub returns : goal.returns
returns c =
    let tree = c.args.named.now in
    let same = c.deref-part-items.ensures.value ∙ ap (λ x. x.modules.items) c.circuit.ensures.tree in
    let past : length (circuit_of tree).modules ≤ c.loop-number.number =
    omega (arith, c.loop-number-test.false, ap length same, length-map tree.modules.items module_of) in
    met_all (circuit_of tree) (types_of c.args.findings.now.table) c.loop-number.number c.loop-number.meets.items past c.loop-number.invariant
