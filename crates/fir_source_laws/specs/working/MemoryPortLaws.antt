-- Which leaves of a memory's ports are driven (FIRRTL spec, "Memories").
-- All but the data of a reader and the rdata of a readwriter are driven by the statements of the module.
use Rattle.std.specs.Prelude.{◌≡◌, ℕ, List, ◌∷◌, map}
use Rattle.fir_base.specs.Lists.{Distinct, In}
use Rattle.fir_ast.specs.Statements.{memory}
use Rattle.fir_meaning.specs.LeafPaths.{LeafPath, named}
use Rattle.fir_meaning.specs.SourceRoles.{NamedPort, SourceLeaf, sink, sources_in}
use Rattle.fir_meaning.specs.Visibility.{Before}
use Rattle.fir_source_laws.specs.working.MemoryLeaves.{IsShown, Memory, ports}

abbrev pub OthersAreDriven : Type 0
OthersAreDriven =
    (m : Memory) (before : Before) (port : NamedPort) (field : List ℕ) (q : LeafPath) (x : SourceLeaf) → In (ports m) port
    → Distinct (map (λ (o : NamedPort). o.name) (ports m)) → In (sources_in m.scene before (memory m.place m.named m.parts)) x
    → x.path ≡ named m.named.name ∷ named port.name ∷ named field ∷ q → (IsShown port.kind field → ⊥) → x.role ≡ sink
