-- The ports of a module are sources and sinks, which read nothing by number and by path.
use Rattle.std.proofs.Common.{◌≡◌, ℕ, List, [], ◌∷◌, Bool, true, false, if◌then◌else◌, refl}
use Rattle.std.specs.List.{AllByRecursion}
use Rattle.fir_base.proofs.Each.{all_joined}
use Rattle.fir_ast.specs.Circuits.{PortTree}
use Rattle.fir_meaning.specs.Components as component
use Rattle.fir_meaning.specs.Flows.{flow_under, is_source, port_flow}
use Rattle.fir_meaning.specs.LeafPaths.{LeafPath}
use Rattle.fir_meaning.specs.LeafTypes.{LeafType}
use Rattle.fir_meaning.specs.ModuleScenes.{Scene}
use Rattle.fir_meaning.specs.SourceRoles as sources
use Rattle.fir_meaning.specs.SourceRoles.{SourceLeaf, SourceRole, declared_sources, source_leaves_of, source_port_role, sources_of_ports}
use Rattle.fir_meaning.specs.TypeLeaves.{TypeLeaf}
use Rattle.fir_meaning.specs.Visibility.{Before, with_declaration}
use Rattle.fir_meaning.specs.working.LeafCircuits.{LeafCircuit}
use Rattle.fir_meaning.specs.working.LeafModules as role
use Rattle.fir_meaning.specs.working.LeafModules.{Role}
use Rattle.fir_design.proofs.InStep.{SameRoleBelow}
use Rattle.fir_source_faults.proofs.RoleReads.{init_reads, path_inits, path_reads, role_reads}

abbrev pub IsPortRole : SourceRole → Type 0
IsPortRole sources.source = Unit {0}
IsPortRole sources.sink = Unit {0}
IsPortRole _ = ⊥

abbrev pub ArePorts : List SourceLeaf → Type 0
ArePorts = AllByRecursion (λ (l : SourceLeaf). IsPortRole l.role)

source_or_sink : (b : Bool) → IsPortRole (if b then sources.source else sources.sink)
source_or_sink true = tt
source_or_sink false = tt

one_port : (name : List ℕ) (role_of : TypeLeaf → SourceRole) → ((l : TypeLeaf) → IsPortRole (role_of l)) → (ls : List TypeLeaf) (hs : List LeafType)
    → ArePorts (source_leaves_of name role_of ls hs)
one_port name role_of h [] hs = tt
one_port name role_of h (l ∷ ls) [] = tt
one_port name role_of h (l ∷ ls) (x ∷ hs) = (h l, one_port name role_of h ls hs)

pub all_ports : (s : Scene) (ps : List PortTree) (before : Before) → ArePorts (sources_of_ports s before ps)
all_ports s [] before = tt
all_ports s (p ∷ ps) before =
    let x = component.port p.direction p.data_type in
    let next = with_declaration before p.named x in
    all_joined (λ (l : SourceLeaf). IsPortRole l.role) (declared_sources s before p.named x (source_port_role s p.direction)) (sources_of_ports s next ps)
    (one_port p.named.name (source_port_role s p.direction) (λ l. source_or_sink (is_source (flow_under l.flip (port_flow p.direction)))) _ _)
    (all_ports s ps next)

pub record ReadsNothing (r : Role) (q : SourceRole) : Type 0 where
  pub reads : role_reads r ≡ []
  pub inits : init_reads r ≡ []
  pub paths : path_reads q ≡ []
  pub path_inits : path_inits q ≡ []

pub port_reads : (c : LeafCircuit) (at : LeafPath) (r : Role) (q : SourceRole) → SameRoleBelow c at r q → IsPortRole q → ReadsNothing r q
port_reads c at role.source sources.source same port = record { reads = refl; inits = refl; paths = refl; path_inits = refl }
port_reads c at role.sink sources.sink same port = record { reads = refl; inits = refl; paths = refl; path_inits = refl }
port_reads c at (role.computed t) (sources.computed scope e p) same port = absurd port
port_reads c at (role.register k r) (sources.register scope clock reset p) same port = absurd port
port_reads c at (role.reading r) (sources.reading p) same port = absurd port
port_reads c at (role.pipe r x u) (sources.pipe p clock kept) same port = absurd port
port_reads c at _ _ same port = absurd same
