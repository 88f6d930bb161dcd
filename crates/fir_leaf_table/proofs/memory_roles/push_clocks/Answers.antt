use Rattle.std.proofs.Common.{List, ◌∷◌, ◌++◌, [], map, ap, ◌∙◌}
use Rattle.std.proofs.lemmas.List.{map-append}
use Rattle.fir_meaning.specs.working.LeafModules.{MemoryDeclared}
use Rattle.fir_leaf_circuit.specs.declared.leaf_module.MemoryClocks.{MemoryClocks}
use Rattle.fir_leaf_circuit.specs.working.Seen.{memory_seen}
use Rattle.fir_leaf_table.proofs.memory_roles.push_clocks.Goals as goal

pub returns : goal.returns
returns c = λ meant holds is.
    let old = c.args.memories.now.items in
    let ports = c.in_ok-port_clocks.port_clocks in
    let clocks : MemoryClocks = record { declaration = c.args.memory.now.declaration; port_clocks = ports } in
    let seen : MemoryDeclared → List MemoryDeclared = λ m. map memory_seen old ++ m ∷ [] in
    ap (map memory_seen) c.in_ok-push.ensures.items ∙ map-append memory_seen old (clocks ∷ [])
    ∙ ap (λ d. seen (record { declaration = d; port_clocks = ports.items })) is.declaration
    ∙ ap (λ ks. seen (record { declaration = meant.declaration; port_clocks = ks })) (c.in_ok-port_clocks.ensures meant holds is)
