use Rattle.std.proofs.Common.{◌∙◌, ◌+◌, [], map, drop, sym}
use Rattle.fir_ast.specs.working.Views.{memory_part_of}
use Rattle.fir_ast.specs.working.CodeFaults.{fault_of}
use Rattle.fir_pass.specs.Groups.{first_of}
use Rattle.fir_meaning.specs.Mentions.{data_mentions, memory_mentions, port_mentions, ports_of}
use Rattle.fir_meaning.specs.NameGroups.{faults_in}
use Rattle.fir_names.proofs.FirstMentions.{front_silent, front_told, silent}
use Rattle.fir_resolve.proofs.WalkedNames.{at_found, at_next, memory_next, memory_step}
use Rattle.fir_resolve.proofs.memory_ports.in_memory.Goals as goal

pub returns-in-Some : goal.returns-in-Some
returns-in-Some c =
    let fields = c.args.fields.now in
    let i = c.loop-field.field-index in
    let m = memory_part_of c.field-item.result in
    at_found memory_mentions c.loop-field.namespace [] (map memory_part_of fields) (map memory_part_of (drop i fields))
    (map memory_part_of (drop (i + 1) fields)) (memory_step m) (ports_of m) (fault_of c.in-Some.fault)
    (memory_next fields i c.field-item.result c.loop-field-test.true c.field-item.is)
    (λ before held. front_told _ _ (data_mentions m) (port_mentions before (ports_of m)) c.in-Some.is c.in_ok-fault.ensures)
    c.loop-field.invariant

pub loop-field-preserved : goal.loop-field-preserved
loop-field-preserved c =
    let fields = c.args.fields.now in
    let i = c.loop-field.field-index in
    let m = memory_part_of c.field-item.result in
    at_next memory_mentions c.loop-field.namespace c.in_ports.new.namespace [] (map memory_part_of fields) (map memory_part_of (drop i fields))
    (map memory_part_of (drop (i + 1) fields)) (memory_step m) (ports_of m)
    (memory_next fields i c.field-item.result c.loop-field-test.true c.field-item.is)
    (λ before held. silent _ (first_of (faults_in (port_mentions before (ports_of m)))) c.in_default-2.is
    (rw c.ports_of.ensures at (c.in_ok-fault-2.ensures.fault before held))
    ∙ sym (front_silent _ (data_mentions m) (port_mentions before (ports_of m)) c.in_default.is c.in_ok-fault.ensures))
    (λ before held. rw c.ports_of.ensures at (c.in_ok-fault-2.ensures.held c.in_default-2.is before held))
    c.loop-field.invariant
