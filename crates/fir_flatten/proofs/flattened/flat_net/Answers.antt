-- Each fault, and the net, by the laws of designs; the net is whole before its inits are looked at.
use Rattle.std.proofs.Common.{◌≡◌, map, None, ap, ◌∙◌, subst}
use Rattle.fir_ast.specs.declared.circuit.Circuit.{Circuit}
use Rattle.fir_ast.specs.working.Views.{circuit_of}
use Rattle.fir_memory_clocks.specs.working.MemoriesTold as memories_told
use Rattle.fir_flatten.specs.working.DesignNets.{MakesDesign}
use Rattle.fir_flatten.specs.working.DesignParts.{AreAllMemoriesTyped}
use Rattle.fir_flatten.specs.working.FirstSites.{TellsFirst}
use Rattle.fir_flatten.proofs.FlatNets.{LawsOfDesigns, clear_copies, is_flat_net, is_whole, shows_none, tells_fault, tells_fault_of_init, tells_fault_of_memory}
use Rattle.fir_flatten.proofs.flattened.flat_net.Goals as goal
use Rattle.fir_flatten.proofs.flattened.flat_net.Goals.{After-designs_tell_inits, After-memories_have_types, In_ok-net}

laws : After-designs_tell_inits → LawsOfDesigns
laws c = record {
  one_tree = c.has_one_tree.ensures;
  stand = c.copies_stand.ensures;
  give = c.copies_give_all.ensures;
  same = c.clock_faults_stand_by_path.ensures;
  told = c.first_is_told.ensures;
  plain = c.designs_are_plain.ensures;
  one_clocks = c.designs_have_one_clocks.ensures;
  flatten = c.designs_flatten.ensures;
  inits = c.designs_tell_inits.ensures;
}

memories : (c : After-memories_have_types) → AreAllMemoriesTyped (circuit_of c.args.circuit.now)
memories c = subst (λ (t : Circuit). AreAllMemoriesTyped (circuit_of t)) c.leafed.ensures.tree c.memories_have_types.ensures

pub returns-in-Some-clause-told : goal.returns-in-Some-clause-told
returns-in-Some-clause-told c =
    tells_fault (laws (goal.at.returns-in-Some-clause-told c).After-designs_tell_inits) (circuit_of c.args.circuit.now)
    (memories (goal.at.returns-in-Some-clause-told c).After-memories_have_types) c.in_ok-names.field-0 c.in_ok-names.ensures c.in-Some.fault
    (rw (c.deref.ensures.value, c.deref-2.ensures.value, c.deref-3.ensures.value, c.in-Some.is) at c.in_ok-fault.ensures)

pub memory_clock_fault-requires-clause-copies : goal.memory_clock_fault-requires-clause-copies
memory_clock_fault-requires-clause-copies c =
    rw c.deref-5.ensures.value
    (clear_copies (laws (goal.at.memory_clock_fault-requires-clause-copies c).After-designs_tell_inits) (circuit_of c.args.circuit.now)
    (memories (goal.at.memory_clock_fault-requires-clause-copies c).After-memories_have_types) c.in_ok-names.field-0 c.in_ok-names.ensures
    (rw (c.deref.ensures.value, c.deref-2.ensures.value, c.deref-3.ensures.value, c.in_default.is) at c.in_ok-fault.ensures))

pub returns-in-Some-2-clause-told : goal.returns-in-Some-2-clause-told
returns-in-Some-2-clause-told c =
    tells_fault_of_memory (laws (goal.at.returns-in-Some-2-clause-told c).After-designs_tell_inits) (circuit_of c.args.circuit.now)
    (memories (goal.at.returns-in-Some-2-clause-told c).After-memories_have_types) c.in_ok-names.field-0 c.in_ok-names.ensures
    (rw (c.deref.ensures.value, c.deref-2.ensures.value, c.deref-3.ensures.value, c.in_default.is) at c.in_ok-fault.ensures) c.in-Some-2.fault
    (rw (c.deref-5.ensures.value, c.in-Some-2.is) at c.in_ok-fault-2.ensures)

-- no fault of clocks is found
none_told : (c : In_ok-net)
    → TellsFirst c.in_ok-names.field-0.modules.items (map (λ ns. ns.items) c.in_ok-names.field-0.names.items) c.in_ok-names.field-0.elaborated.copies.items None
none_told c = rw (c.deref.ensures.value, c.deref-2.ensures.value, c.deref-3.ensures.value, c.in_default.is) at c.in_ok-fault.ensures

-- nor of the clocks of memories
one_clocks : (c : In_ok-net) → memories_told.ShowsNone (circuit_of c.args.circuit.now) c.in_ok-names.field-0.elaborated.copies.items
one_clocks c = rw (c.deref-5.ensures.value, c.in_default-2.is) at c.in_ok-fault-2.ensures

makes : (c : In_ok-net) → MakesDesign c.in_ok-names.field-0.modules.items c.in_ok-names.field-0.elaborated.copies.items c.in_ok-design.design
makes c = rw (c.deref-6.ensures.value, c.deref-7.ensures.value) at c.in_ok-design.ensures

pub init_fault-requires : goal.init_fault-requires
init_fault-requires c =
    let n = (goal.at.init_fault-requires c).In_ok-net in
    is_whole (laws (goal.at.init_fault-requires c).After-designs_tell_inits) (circuit_of c.args.circuit.now)
    (memories (goal.at.init_fault-requires c).After-memories_have_types) c.in_ok-names.field-0 c.in_ok-names.ensures (none_told n) (one_clocks n)
    c.in_ok-design.design (makes n) c.in_ok-net.net c.in_ok-net.ensures.flat

pub returns-in-Some-3-clause-told : goal.returns-in-Some-3-clause-told
returns-in-Some-3-clause-told c =
    let n = (goal.at.returns-in-Some-3-clause-told c).In_ok-net in
    tells_fault_of_init (laws (goal.at.returns-in-Some-3-clause-told c).After-designs_tell_inits) (circuit_of c.args.circuit.now)
    (memories (goal.at.returns-in-Some-3-clause-told c).After-memories_have_types) c.in_ok-names.field-0 c.in_ok-names.ensures (none_told n) (one_clocks n)
    c.in_ok-design.design (makes n) c.in_ok-net.net c.in_ok-net.ensures.flat c.in-Some-3.fault (rw c.in-Some-3.is at c.in_ok-fault-3.ensures)

pub returns-clause-flat : goal.returns-clause-flat
returns-clause-flat c =
    let n = (goal.at.returns-clause-flat c).In_ok-net in
    let tree = c.args.circuit.now in
    let leafed : c.leafed-2.result.now ≡ tree = c.leafed-2.ensures.tree in
    let fitted : c.fitted.result.now ≡ tree = c.fitted.ensures.tree ∙ leafed in
    let typed : c.typed.result.now ≡ tree = c.typed.ensures.tree ∙ fitted in
    let named : c.named.result.now ≡ tree = c.named.ensures.tree ∙ typed in
    let given : c.circuit-tree.result.now ≡ tree = c.circuit-tree.ensures.tree ∙ named in
    is_flat_net (laws (goal.at.returns-clause-flat c).After-designs_tell_inits) (circuit_of c.args.circuit.now)
    (memories (goal.at.returns-clause-flat c).After-memories_have_types) c.in_ok-names.field-0 c.in_ok-names.ensures (none_told n) (one_clocks n)
    c.in_ok-design.design (makes n) c.in_ok-net.net c.in_ok-net.ensures.flat
    (c.in_ok-net.ensures.named ∙ c.in_ok-name.ensures ∙ ap (λ (t : Circuit). (circuit_of t).named.name) given)
    (rw c.in-None.is at c.in_ok-fault-3.ensures)

pub returns-clause-clear : goal.returns-clause-clear
returns-clause-clear c =
    let n = (goal.at.returns-clause-clear c).In_ok-net in
    shows_none (laws (goal.at.returns-clause-clear c).After-designs_tell_inits) (circuit_of c.args.circuit.now)
    (memories (goal.at.returns-clause-clear c).After-memories_have_types) c.in_ok-names.field-0 c.in_ok-names.ensures (none_told n) (one_clocks n)
    c.in_ok-design.design (makes n) c.in_ok-net.net c.in_ok-net.ensures.flat (rw c.in-None.is at c.in_ok-fault-3.ensures)
