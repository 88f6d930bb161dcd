-- The leaves of a memory's ports, port after port, by their paths: addr, en and clk, and then the fields of data, each with the leaves of the data.
use Rattle.std.proofs.Common.{◌≡◌, ℕ, List, [], ◌∷◌, ◌++◌, map, flat_map, length, refl, sym, ap, ap₂, ◌∙◌, arith, length-append}
use Rattle.std.specs.Prelude.{codes}
use Rattle.std.proofs.lemmas.List.{length-map, map-append}
use Rattle.fir_ast.specs.Statements.{PlacedName, MemoryPart, reader, writer, readwriter}
use Rattle.fir_meaning.specs.LeafPaths.{LeafPath, named}
use Rattle.fir_meaning.proofs.LeafSteps.{behind_step}
use Rattle.fir_meaning.specs.MemoryPorts.{MemoryPortKind, reads, reads_and_writes, writes}
use Rattle.fir_meaning.specs.working.LeafMemories.{port_kinds_of, port_size}
use Rattle.fir_meaning.specs.SourceRoles.{NamedPort, ports_of_part}

-- where the leaves of the data have these paths: of a field of data
abbrev pub behind_field : List ℕ → List LeafPath → List LeafPath
behind_field x qs = map (behind_step (named x)) qs

abbrev pub control_paths : List LeafPath
control_paths = (named (codes "addr") ∷ []) ∷ (named (codes "en") ∷ []) ∷ (named (codes "clk") ∷ []) ∷ []

-- behind the controls of a port
abbrev pub data_paths : List LeafPath → MemoryPortKind → List LeafPath
data_paths qs reads = behind_field (codes "data") qs
data_paths qs writes = behind_field (codes "data") qs ++ behind_field (codes "mask") qs
data_paths qs reads_and_writes =
    behind_field (codes "rdata") qs
    ++ ((named (codes "wmode") ∷ []) ∷ (behind_field (codes "wdata") qs ++ behind_field (codes "wmask") qs))

abbrev pub kind_paths : List LeafPath → MemoryPortKind → List LeafPath
kind_paths qs kind = control_paths ++ data_paths qs kind

abbrev pub port_paths : List LeafPath → NamedPort → List LeafPath
port_paths qs p = map (behind_step (named p.name)) (kind_paths qs p.kind)

-- as many as are counted
pub port_long : (qs : List LeafPath) (d : ℕ) → length qs ≡ d → (p : NamedPort) → length (port_paths qs p) ≡ port_size d p.kind
port_long qs d long p = length-map (kind_paths qs p.kind) (behind_step (named p.name)) ∙ by p.kind
  where
    one : (x : List ℕ) → length (behind_field x qs) ≡ d
    one x = length-map qs (behind_step (named x)) ∙ long

    by : (kind : MemoryPortKind) → length (kind_paths qs kind) ≡ port_size d kind
    by reads = omega (arith, one (codes "data"))
    by writes =
        omega (
          arith,
          length-append (behind_field (codes "data") qs) (behind_field (codes "mask") qs),
          one (codes "data"),
          one (codes "mask"),
        )
    by reads_and_writes =
        let mode : LeafPath = named (codes "wmode") ∷ [] in
        let given = behind_field (codes "wdata") qs ++ behind_field (codes "wmask") qs in
        omega (
          arith,
          length-append (behind_field (codes "rdata") qs) (mode ∷ given),
          length-append (behind_field (codes "wdata") qs) (behind_field (codes "wmask") qs),
          one (codes "rdata"),
          one (codes "wdata"),
          one (codes "wmask"),
        )

-- the kinds and the names of ports go in step
kinds_same : (k : MemoryPortKind) (ns : List PlacedName)
    → map (λ (n : PlacedName). k) ns ≡ map (λ (p : NamedPort). p.kind) (map (λ (n : PlacedName). record { name = n.name; kind = k }) ns)
kinds_same k [] = refl
kinds_same k (n ∷ ns) = ap (λ ks. k ∷ ks) (kinds_same k ns)

pub port_kinds : (parts : List MemoryPart) → flat_map port_kinds_of parts ≡ map (λ (p : NamedPort). p.kind) (flat_map ports_of_part parts)
port_kinds [] = refl
port_kinds (m ∷ ms) =
    ap₂ (λ xs ys. xs ++ ys) (by m) (port_kinds ms) ∙ sym (map-append (λ (p : NamedPort). p.kind) (ports_of_part m) (flat_map ports_of_part ms))
  where
    by : (m : MemoryPart) → port_kinds_of m ≡ map (λ (p : NamedPort). p.kind) (ports_of_part m)
    by (reader q ns) = kinds_same reads ns
    by (writer q ns) = kinds_same writes ns
    by (readwriter q ns) = kinds_same reads_and_writes ns
    by m = refl
