use Rattle.std.proofs.Common.{◌≡◌, ◌<◌, ◌≤◌, ◌∷◌, [], List, length, map, take, get_or, sym, subst, ap, ◌∙◌, take_all}
use Rattle.fir_leaf_circuit.specs.declared.leaf_module.MemoryClocks.{MemoryClocks}
use Rattle.fir_leaf_circuit.specs.working.Seen.{memory_seen}
use Rattle.fir_memory_clocks.specs.working.ModuleMemories.{IsFirstAmong}
use Rattle.fir_memory_clocks.proofs.FoundMemories.{memories_grow, memory_among}
use Rattle.fir_memory_clocks.proofs.module_memories.first_memory.Goals as goal

pub loop-memory-preserved : goal.loop-memory-preserved
loop-memory-preserved c = λ m h.
    let part = c.args.module.now in
    let i = c.loop-memory.memory-index in
    let memory = c.memory-item.result in
    let d = c.deref-memory-items.ensures.value in
    let within : i < length part.memories.items = subst (λ (ys : List MemoryClocks). i < length ys) d c.loop-memory-test.true in
    let is : memory ≡ get_or part.memories.items i memory = subst (λ (ys : List MemoryClocks). memory ≡ get_or ys i memory) d c.memory-item.is in
    subst (λ ys. IsFirstAmong m ys c.earlier-first.result) (sym (memories_grow part m i memory within is h.view.memories))
    (c.earlier-first.ensures m (map memory_seen (take i part.memories.items)) (memory_seen memory ∷ []) (c.loop-memory.invariant m h)
    (c.found_memory.ensures m h (memory_among part m i memory within is h.view.memories)))

pub returns : goal.returns
returns c = λ m h.
    let part = c.args.module.now in
    let i = c.loop-memory.memory-index in
    let past : length part.memories.items ≤ i =
    subst (λ (ys : List MemoryClocks). length ys ≤ i) c.deref-memory-items.ensures.value c.loop-memory-test.false in
    subst (λ ys. IsFirstAmong m ys c.loop-memory.first) (ap (map memory_seen) (take_all i part.memories.items past) ∙ h.view.memories)
    (c.loop-memory.invariant m h)
