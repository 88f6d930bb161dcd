-- What a memory's statement says of a leaf that shows what is read.
use Rattle.std.proofs.Common.{◌≡◌, ℕ, List, [], ◌∷◌, true, false, map, Some, unwrap_or, refl, sym, ap, subst, ◌∙◌, inl, inr}
use Rattle.std.specs.Prelude.{codes}
use Rattle.std.specs.Str.{bytes_eq}
use Rattle.fir_base.specs.Lists.{Distinct, In}
use Rattle.fir_base.proofs.Members.{in_map}
use Rattle.fir_base.proofs.SameNames.{name_other, name_same}
use Rattle.fir_meaning.specs.Components as component
use Rattle.fir_meaning.specs.MemoryPorts.{MemoryPortKind, reads, reads_and_writes, writes}
use Rattle.fir_meaning.specs.FoundTypes.{leaves_of_data}
use Rattle.fir_meaning.specs.LeafPaths.{LeafPath, named}
use Rattle.fir_meaning.specs.ModuleScenes.{held_by_declared, type_of_declared}
use Rattle.fir_meaning.specs.MemoryTypes.{first_one}
use Rattle.fir_meaning.specs.SourceCircuits.{PlacedLeaf}
use Rattle.fir_meaning.specs.SourceRoles.{NamedPort, PathNeed, PathReading, SourceLeaf, SourceRole, kind_of, latency_of, memory_role, needed, port_field, port_role, read_by, sink, sources_in, under_write_of}
use Rattle.fir_source_laws.proofs.DeclaredLeaves.{declared}
use Rattle.fir_meaning.specs.Visibility.{Before}
use Rattle.fir_ast.specs.Statements.{memory}
use Rattle.fir_source_laws.specs.working.MemoryPortLaws.{OthersAreDriven}
use Rattle.fir_source_laws.specs.working.MemoryLeaves.{HasLatency, IsRead, IsShown, Memory, ports}

kind_found : (ps : List NamedPort) (port : NamedPort) → In ps port → Distinct (map (λ (o : NamedPort). o.name) ps) → kind_of ps port.name ≡ Some port.kind
kind_found [] port among once = absurd among
kind_found (o ∷ ps) port (inl is) once =
    let here : bytes_eq o.name port.name ≡ true = ap (λ (x : NamedPort). bytes_eq x.name port.name) is ∙ name_same port.name in
    rw here (ap (λ (x : NamedPort). Some x.kind) is)
kind_found (o ∷ ps) port (inr m) once =
    let other : bytes_eq o.name port.name ≡ false =
    name_other o.name port.name
    (λ e. once.0 (subst (In (map (λ (x : NamedPort). x.name) ps)) (sym e) (in_map (λ (x : NamedPort). x.name) ps port m))) in
    rw other (kind_found ps port m once.1)

-- what a port needs besides its enable
abbrev pub needs_of : Memory → List ℕ → MemoryPortKind → List PathNeed
needs_of m port reads = []
needs_of m port writes = []
needs_of m port reads_and_writes = record { leaf = port_field m.named.name port (codes "wmode"); high = false } ∷ []

abbrev pub reading_of : Memory → NamedPort → LeafPath → PathReading
reading_of m port q = record {
  array = named m.named.name ∷ q;
  address = port_field m.named.name port.name (codes "addr");
  needs = needed (port_field m.named.name port.name (codes "en")) ∷ needs_of m port.name port.kind;
}

module _ (m : Memory) (port : NamedPort) (q : LeafPath) where
  abbrev pub role_at : ℕ → SourceRole
  role_at latency = read_by latency (reading_of m port q) (port_field m.named.name port.name (codes "clk")) (under_write_of m.parts)

  shown_role : (kind : MemoryPortKind) (field : List ℕ) → port.kind ≡ kind → IsShown kind field
      → port_role m.named.name m.parts port.name field q (Some kind) ≡ role_at (latency_of m.parts)
  shown_role reads field e shown =
      let test : bytes_eq field (codes "data") ≡ true = ap (λ x. bytes_eq x (codes "data")) shown ∙ name_same (codes "data") in
      rw (test, e) refl
  shown_role writes field e shown = absurd shown
  shown_role reads_and_writes field e shown =
      let test : bytes_eq field (codes "rdata") ≡ true = ap (λ x. bytes_eq x (codes "rdata")) shown ∙ name_same (codes "rdata") in
      rw (test, e) refl

  -- the role of a leaf of a field of the port
  port_role_is : (before : Before) (x : SourceLeaf) (field : List ℕ) → In (sources_in m.scene before (memory m.place m.named m.parts)) x
      → x.path ≡ named m.named.name ∷ named port.name ∷ named field ∷ q → In (ports m) port → Distinct (map (λ (o : NamedPort). o.name) (ports m))
      → x.role ≡ port_role m.named.name m.parts port.name field q (Some port.kind)
  port_role_is before x field among is is_port once =
      let d =
      declared m.named.name (λ l. memory_role m.named.name m.parts l.path)
      (leaves_of_data (type_of_declared m.scene (record { named = m.named; component = component.memory m.parts; before = before })))
      (held_by_declared m.scene (record { named = m.named; component = component.memory m.parts; before = before })) x among in
      let whole : named m.named.name ∷ d.0.path ≡ named m.named.name ∷ named port.name ∷ named field ∷ q = sym d.1 ∙ is in
      let path : d.0.path ≡ named port.name ∷ named field ∷ q = cc in
      d.2 ∙ ap (memory_role m.named.name m.parts) path
      ∙ ap (port_role m.named.name m.parts port.name field q) (kind_found (ports m) port is_port once)

  pub role_is : (p : PlacedLeaf) → IsRead m port q p → p.leaf.role ≡ role_at (latency_of m.parts)
  role_is p h = port_role_is h.before p.leaf h.field h.declared h.path h.is_port h.once ∙ shown_role port.kind h.field refl h.shown

  pub role_late : (p : PlacedLeaf) (latency : ℕ) → IsRead m port q p → HasLatency m latency → p.leaf.role ≡ role_at latency
  role_late p latency h late = role_is p h ∙ ap role_at (ap (λ (ns : List ℕ). unwrap_or (first_one ns) 0) late)

  other_role : (kind : MemoryPortKind) (field : List ℕ) → (IsShown kind field → ⊥) → port_role m.named.name m.parts port.name field q (Some kind) ≡ sink
  other_role reads field other = let test : bytes_eq field (codes "data") ≡ false = name_other field (codes "data") other in rw test refl
  other_role writes field other = refl
  other_role reads_and_writes field other = let test : bytes_eq field (codes "rdata") ≡ false = name_other field (codes "rdata") other in rw test refl

pub others_are_driven : OthersAreDriven
others_are_driven m before port field q x is_port once among is other =
    port_role_is m port q before x field among is is_port once ∙ other_role m port q port.kind field other
