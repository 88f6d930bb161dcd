-- A walk over the ports of a memory, each of which begins behind the leaves of those before it.
use Rattle.std.proofs.Common.{◌≡◌, ℕ, ◌+◌, ◌<◌, ◌≤◌, List, [], ◌∷◌, ◌++◌, map, drop, length, get_or, sym, ap, ◌∙◌, append_assoc}
use Rattle.std.proofs.lemmas.List.{append-nil, drop_more, drop_all}
use Rattle.fir_meaning.specs.working.LeafMemories.{LeafMemory, port_size}
use Rattle.fir_meaning.specs.MemoryPorts.{MemoryPortKind}
use Rattle.fir_meaning.specs.LeafTypes.{LeafType}
use Rattle.fir_leaf_table.specs.declared.memory.Memory.{Memory}
use Rattle.fir_leaf_table.specs.declared.memory.MemoryPort.{MemoryPort}
use Rattle.fir_leaf_table.specs.working.Memories.{IsMemory, port_seen}

-- what is given so far, and what those give that are left
pub record PortsLeft {A : Type 0} (give : ℕ → List MemoryPortKind → List A) (ports : List MemoryPort) (first i begins : ℕ) (so_far : List A) :
    Type 0 where
  pub are : so_far ++ give begins (map port_seen (drop i ports)) ≡ give first (map port_seen ports)

module _ {A : Type 0} (give : ℕ → List MemoryPortKind → List A) (one : ℕ → MemoryPortKind → List A) (data_leaves : ℕ)
    (none : (b : ℕ) → give b [] ≡ [])
    (more : (b : ℕ) (p : MemoryPortKind) (ps : List MemoryPortKind) → give b (p ∷ ps) ≡ one b p ++ give (b + port_size data_leaves p) ps) where
  pub ports_next : (ports : List MemoryPort) (first i begins next : ℕ) (so_far new : List A) (p other : MemoryPort)
      → PortsLeft give ports first i begins so_far → i < length ports → p ≡ get_or ports i other
      → next ≡ begins + port_size data_leaves (port_seen p) → new ≡ so_far ++ one begins (port_seen p)
      → PortsLeft give ports first (i + 1) next new
  ports_next ports first i begins next so_far new p other left within at behind grown =
      let rest = map port_seen (drop (i + 1) ports) in
      let split : map port_seen (drop i ports) ≡ port_seen p ∷ rest =
      ap (map port_seen) (drop_more ports i other within ∙ ap (λ q. q ∷ drop (i + 1) ports) (sym at)) in
      let given : give begins (map port_seen (drop i ports)) ≡ one begins (port_seen p) ++ give next rest =
      ap (give begins) split ∙ more begins (port_seen p) rest ∙ ap (λ b. one begins (port_seen p) ++ give b rest) (sym behind) in
      record {
        are =
            ap (λ xs. xs ++ give next rest) grown ∙ append_assoc so_far (one begins (port_seen p)) (give next rest)
            ∙ ap (λ xs. so_far ++ xs) (sym given) ∙ left.are;
      }

  pub ports_done : (ports : List MemoryPort) (first i begins : ℕ) (so_far : List A) → PortsLeft give ports first i begins so_far
      → length ports ≤ i → so_far ≡ give first (map port_seen ports)
  ports_done ports first i begins so_far left past =
      let nothing : give begins (map port_seen (drop i ports)) ≡ [] =
      ap (λ ps. give begins (map port_seen ps)) (drop_all i ports past) ∙ none begins in
      sym (append-nil so_far) ∙ ap (λ xs. so_far ++ xs) (sym nothing) ∙ left.are

-- the code's memory has the ports, the data leaves and the first leaf of the one that it stands for
pub same_ports : {A : Type 0} (give : ℕ → ℕ → List MemoryPortKind → List A) (m : Memory) (meant : LeafMemory) (holds : List LeafType)
    → IsMemory m meant holds
    → give (length m.data.items) m.first (map port_seen m.ports.items) ≡ give meant.data_leaves meant.first meant.ports
same_ports give m meant holds is =
    ap (λ d. give d m.first (map port_seen m.ports.items)) is.data_leaves
    ∙ ap (λ b. give meant.data_leaves b (map port_seen m.ports.items)) is.first
    ∙ ap (λ ps. give meant.data_leaves meant.first ps) is.ports
