use Rattle.std.proofs.Common.{◌+◌, ◌<◌, ◌≤◌, map, get_or, length, refl, ap, ◌∙◌}
use Rattle.fir_meaning.specs.working.LeafMemories.{port_roles, port_size, roles_from}
use Rattle.fir_leaf_table.specs.declared.memory.MemoryPort.TheVariants.{Reads}
use Rattle.fir_leaf_table.specs.working.Memories.{port_seen}
use Rattle.fir_leaf_circuit.specs.working.Seen.{role_seen}
use Rattle.fir_leaf_table.proofs.PortsLeft.{ports_done, ports_next, same_ports}
use Rattle.fir_leaf_table.proofs.memory_roles.memory_roles.Goals as goal

pub loop-port-preserved : goal.loop-port-preserved
loop-port-preserved c = λ nodes meant holds is.
    let m = c.args.memory.now in
    let i = c.loop-port.port-index in
    let b = c.loop-port.begins in
    let p = get_or c.deref-port-items.result.now i Reads in
    let within : i < length m.ports.items = rw (← c.deref-port-items.ensures.value) c.loop-port-test.true in
    ports_next (roles_from meant) (port_roles meant) meant.data_leaves (λ b. refl) (λ b p ps. refl) m.ports.items m.first i b c.in_ok-begins.begins
    (map (role_seen nodes) c.loop-port.roles.items) (map (role_seen nodes) c.put_roles.new.roles.items) p Reads
    (c.loop-port.invariant nodes meant holds is) within (ap (λ ps. get_or ps i Reads) c.deref-port-items.ensures.value)
    (c.in_ok-begins.ensures ∙ ap (λ d. b + port_size d (port_seen p)) is.data_leaves) (c.in_ok-put_roles.ensures nodes meant holds is)

pub returns : goal.returns
returns c = λ nodes meant holds is.
    let m = c.args.memory.now in
    let past : length m.ports.items ≤ c.loop-port.port-index = rw (← c.deref-port-items.ensures.value) c.loop-port-test.false in
    ports_done (roles_from meant) (port_roles meant) meant.data_leaves (λ b. refl) (λ b p ps. refl) m.ports.items m.first
    c.loop-port.port-index c.loop-port.begins (map (role_seen nodes) c.loop-port.roles.items) (c.loop-port.invariant nodes meant holds is) past
    ∙ same_ports (λ d b ps. roles_from meant b ps) m meant holds is
