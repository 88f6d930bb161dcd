-- The clock leaves of a memory's ports hold clocks, and have the paths of the ports' clocks.
use Rattle.std.proofs.Common.{◌≡◌, ℕ, zero, suc, ◌+◌, ◌<◌, List, [], ◌∷◌, ◌++◌, map, flat_map, length, slice_get, Some, None, refl, ap, ap₂, ◌∙◌, arith}
use Rattle.std.specs.List.{AllByRecursion}
use Rattle.std.proofs.lemmas.List.{length-map}
use Rattle.std.proofs.lemmas.Option.{none-some, same_Some}
use Rattle.fir_ast.specs.declared.place.Place.{Place}
use Rattle.fir_ast.specs.Statements.{MemoryPart, PlacedName, reader, readwriter, writer}
use Rattle.fir_ast.specs.Types.{DataType, Fields}
use Rattle.fir_ast.specs.View.{fields_of}
use Rattle.fir_meaning.specs.HeldTypes.{held_field_types, held_types}
use Rattle.fir_meaning.specs.LeafPaths.{LeafPath, named}
use Rattle.fir_meaning.specs.LeafTypes.{LeafType, a_clock}
use Rattle.fir_meaning.specs.MemoryPorts.{MemoryPortKind, reads, reads_and_writes, writes}
use Rattle.fir_meaning.specs.MemoryTypes.{flipped_fields, mask_type, port_fields_of, reader_type, readwriter_type, writer_type}
use Rattle.fir_meaning.specs.ModuleScenes.{Declared, Scene}
use Rattle.fir_meaning.specs.SizedTypes.{numbered, numbered_fields}
use Rattle.fir_meaning.specs.SourceMemoryClocks.{clock_of_port}
use Rattle.fir_meaning.specs.SourceRoles.{NamedPort}
use Rattle.fir_meaning.specs.TypeLeaves.{TypeLeaf, leaf_count, type_leaves}
use Rattle.fir_meaning.specs.WidthExpressions.{Widths}
use Rattle.fir_meaning.specs.working.LeafMemories.{clocks_from, port_kinds_of, port_size}
use Rattle.fir_meaning.specs.working.LeafModules.{LeafDeclared, Role, leaf_at}
use Rattle.fir_meaning.specs.working.LeafedModules.{leafed_module, leaves_from, module_leaves}
use Rattle.fir_meaning.proofs.LeafSteps.{behind_step, path_of}
use Rattle.fir_leaf.specs.working.ClockRoots.{IsClockLeaf}
use Rattle.fir_leaf.specs.working.ModuleCircuits.{module_circuit}
use Rattle.fir_leaf.proofs.LeafPlaces.{get_left, get_right, leaves_counted}
use Rattle.fir_design.specs.working.SameRoles.{path_at}
use Rattle.fir_design.proofs.MaskLeaves.{mask_paths}
use Rattle.fir_design.proofs.MemoryPortPaths.{kind_paths, port_long, port_paths}
use Rattle.fir_design.proofs.MemoryPortPlaces.{clock_there}
use Rattle.fir_design.proofs.StandingLists.{Stands, stands_left, stands_right, stands_unmapped}
use Rattle.fir_source_faults.specs.working.ReadsByPath.{path_in}

-- what the ports of these kinds hold, of data with so many leaves: the third leaf of each is a clock
abbrev pub ClocksIn : ℕ → List MemoryPortKind → List LeafType → Type 0
ClocksIn d [] hs = Unit {0}
ClocksIn d (k ∷ ks) hs =
    (one : List LeafType) × (rest : List LeafType) × (hs ≡ one ++ rest) × (length one ≡ port_size d k) × (slice_get one 2 ≡ Some a_clock) × ClocksIn d ks rest

mask_counted : (t : DataType) → leaf_count (mask_type t) ≡ leaf_count t
mask_counted t =
    let same = ap length (mask_paths t) in
    omega (
      arith,
      same,
      length-map (type_leaves (mask_type t)) path_of,
      length-map (type_leaves t) path_of,
      leaves_counted (mask_type t),
      leaves_counted t,
    )

module _ (w : Widths) (p : Place) (t : DataType) (words : ℕ) (counted : (u : DataType) → length (held_types w (numbered None u)) ≡ leaf_count u) where
  abbrev held_of : List (Fields → Fields) → List LeafType
  held_of fs = held_field_types w (numbered_fields None (fields_of fs))

  reader_long : length (held_types w (numbered None (reader_type p t words))) ≡ port_size (leaf_count t) reads
  reader_long = let e = counted (reader_type p t words) in omega (arith, e)

  writer_long : length (held_types w (numbered None (writer_type p t words))) ≡ port_size (leaf_count t) writes
  writer_long = let e = counted (writer_type p t words) in omega (arith, e, mask_counted t)

  readwriter_long : length (held_types w (numbered None (readwriter_type p t words))) ≡ port_size (leaf_count t) reads_and_writes
  readwriter_long = let e = counted (readwriter_type p t words) in omega (arith, e, mask_counted t)

  part_clocks : (u : DataType) (k : MemoryPortKind) → length (held_types w (numbered None u)) ≡ port_size (leaf_count t) k
      → slice_get (held_types w (numbered None u)) 2 ≡ Some a_clock → (ns : List PlacedName) (more : List (Fields → Fields)) (ks : List MemoryPortKind)
      → ClocksIn (leaf_count t) ks (held_of more) → ClocksIn (leaf_count t) (map (λ n. k) ns ++ ks) (held_of (flipped_fields u ns ++ more))
  part_clocks u k long third [] more ks h = h
  part_clocks u k long third (n ∷ ns) more ks h =
      (held_types w (numbered None u), held_of (flipped_fields u ns ++ more), refl, long, third, part_clocks u k long third ns more ks h)

  pub all_clocks : (parts : List MemoryPart) → ClocksIn (leaf_count t) (flat_map port_kinds_of parts) (held_of (flat_map (port_fields_of p t words) parts))
  all_clocks [] = tt
  all_clocks (m ∷ ms) = by m (all_clocks ms)
    where
      by : (m : MemoryPart) → ClocksIn (leaf_count t) (flat_map port_kinds_of ms) (held_of (flat_map (port_fields_of p t words) ms))
          → ClocksIn (leaf_count t) (port_kinds_of m ++ flat_map port_kinds_of ms) (held_of (port_fields_of p t words m ++ flat_map (port_fields_of p t words) ms))
      by (reader q ns) h =
          part_clocks (reader_type p t words) reads reader_long refl ns (flat_map (port_fields_of p t words) ms) (flat_map port_kinds_of ms) h
      by (writer q ns) h =
          part_clocks (writer_type p t words) writes writer_long refl ns (flat_map (port_fields_of p t words) ms) (flat_map port_kinds_of ms) h
      by (readwriter q ns) h =
          part_clocks (readwriter_type p t words) reads_and_writes readwriter_long refl ns (flat_map (port_fields_of p t words) ms)
          (flat_map port_kinds_of ms) h
      by m h = h

-- a leaf of a declaration holds what its type does
pub held_there : (d : Declared) (place : TypeLeaf → Place) (role_of : ℕ → TypeLeaf → Role) (k : ℕ) (ls : List TypeLeaf) (hs : List LeafType)
    (j : ℕ) (l : TypeLeaf) (h : LeafType) → slice_get ls j ≡ Some l → slice_get hs j ≡ Some h
    → (x : LeafDeclared) × (slice_get (leaves_from d place role_of k ls hs) j ≡ Some x) × (x.holds ≡ h)
held_there d place role_of k [] hs j l h e f = absurd (none-some l e)
held_there d place role_of k (m ∷ ls) [] j l h e f = absurd (none-some h f)
held_there d place role_of k (m ∷ ls) (g ∷ hs) zero l h e f = (_, refl, same_Some g h f)
held_there d place role_of k (m ∷ ls) (g ∷ hs) (suc j) l h e f = held_there d place role_of (suc k) ls hs j l h e f

module _ (s : Scene) where
  -- the leaves from a number on hold these
  abbrev pub HoldFrom : ℕ → List LeafType → Type 0
  HoldFrom b hs =
      (j : ℕ) (h : LeafType) → slice_get hs j ≡ Some h → (b + j < length (module_leaves s)) × ((leaf_at (module_leaves s) (b + j)).holds ≡ h)

  pub are_clocks : (d b : ℕ) (ks : List MemoryPortKind) (hs : List LeafType) → HoldFrom b hs → ClocksIn d ks hs
      → AllByRecursion (IsClockLeaf (module_circuit (leafed_module s))) (clocks_from d b ks)
  are_clocks d b [] hs held h = tt
  are_clocks d b (k ∷ ks) hs held h =
      let third = held 2 a_clock (ap (λ zs. slice_get zs 2) h.2 ∙ get_left h.0 h.1 2 a_clock h.4) in (
        record { within = third.0; is_clock = third.1 },
        are_clocks d (b + port_size d k) ks h.1
            (λ j g e.
            let there = held (port_size d k + j) g (ap (λ zs. slice_get zs (port_size d k + j)) h.2 ∙ get_right h.0 h.1 (port_size d k) j h.3 ∙ e) in
            let same : b + (port_size d k + j) ≡ b + port_size d k + j = omega arith in
            rw same at there)
            h.5,
      )

  -- the paths of the clocks of ports
  module _ (n : PlacedName) (qs : List LeafPath) (d : ℕ) (long : length qs ≡ d) where
    pub clocks_named : (b : ℕ) (ps : List NamedPort) → Stands (path_at (module_leaves s)) (behind_step (named n.name)) b (flat_map (port_paths qs) ps)
        → map (path_in s) (clocks_from d b (map (λ (p : NamedPort). p.kind) ps)) ≡ map (clock_of_port n) ps
    clocks_named b [] h = refl
    clocks_named b (p ∷ ps) h =
        let at = path_at (module_leaves s) in
        let g = behind_step (named n.name) in
        let rest = flat_map (port_paths qs) ps in
        ap₂ (λ (x : LeafPath) (xs : List LeafPath). x ∷ xs)
        (clock_there (module_leaves s) n.name p.name qs d long p.kind b
        (stands_unmapped at g b (behind_step (named p.name)) (kind_paths qs p.kind) (stands_left at g b (port_paths qs p) rest h)))
        (clocks_named (b + port_size d p.kind) ps (stands_right at g b (port_size d p.kind) (port_paths qs p) rest (port_long qs d long p) h))
