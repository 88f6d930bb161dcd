use Rattle.std.proofs.Common.{◌∙◌, ◌+◌, [], ◌∷◌, map, drop, sym}
use Rattle.fir_ast.specs.View.{fields_of}
use Rattle.fir_ast.specs.working.TypeViews.{type_of}
use Rattle.fir_ast.specs.working.BundleText.{field_of}
use Rattle.fir_ast.specs.working.CodeFaults.{fault_of}
use Rattle.fir_pass.specs.Groups.{first_of}
use Rattle.fir_meaning.specs.Mentions.{declares, field_mentions, placed_name, type_mentions}
use Rattle.fir_meaning.specs.NameGroups.{faults_in}
use Rattle.fir_names.proofs.FirstMentions.{head_silent, silent, told}
use Rattle.fir_resolve.proofs.WalkedNames.{at_found, at_next, field_step, fields_next}
use Rattle.fir_resolve.proofs.fields.+types.Goals as goal

pub in_fields-returns-in-Some-2 : goal.in_fields-returns-in-Some-2
in_fields-returns-in-Some-2 t c =
    let fields = c.args.fields.now in
    let i = c.loop-field.field-index in
    let f = c.field-item.result in
    let name = placed_name f.place f.name in
    let types = type_mentions (type_of f.ty) in
    at_found field_mentions c.loop-field.namespace [] (fields_of (map field_of fields)) (fields_of (map field_of (drop i fields)))
    (fields_of (map field_of (drop (i + 1) fields))) (field_step f) (name ∷ []) (fault_of c.in-Some-2.fault)
    (fields_next fields i f c.loop-field-test.true c.field-item.is)
    (λ before held. told _ _ (first_of (faults_in types)) c.in-Some-2.is c.in_ok-fault-2.ensures
    ∙ sym (head_silent _ (declares before name) types c.in_default.is (c.in_ok-fault.ensures.fault before held)))
    c.loop-field.invariant

pub in_fields-loop-field-preserved : goal.in_fields-loop-field-preserved
in_fields-loop-field-preserved t c =
    let fields = c.args.fields.now in
    let i = c.loop-field.field-index in
    let f = c.field-item.result in
    let name = placed_name f.place f.name in
    let types = type_mentions (type_of f.ty) in
    at_next field_mentions c.loop-field.namespace c.declare.new.self [] (fields_of (map field_of fields)) (fields_of (map field_of (drop i fields)))
    (fields_of (map field_of (drop (i + 1) fields))) (field_step f) (name ∷ [])
    (fields_next fields i f c.loop-field-test.true c.field-item.is)
    (λ before held. silent _ (first_of (faults_in types)) c.in_default-2.is c.in_ok-fault-2.ensures
    ∙ sym (head_silent _ (declares before name) types c.in_default.is (c.in_ok-fault.ensures.fault before held)))
    (c.in_ok-fault.ensures.held c.in_default.is)
    c.loop-field.invariant
