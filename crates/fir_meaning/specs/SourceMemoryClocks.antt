-- E26 in a circuit (FIRRTL spec, "Memories", "Clock Type"): two ports of a memory on different clocks.
-- The clock of a port is the leaf at which its chain of connects ends in the module that holds the memory: an input, or what an instance gives. No chain goes
-- on through an index that picks a clock, which is E25. It stands at the memory. The evidence is the clock of the first port that has one, and the first that differs from it. Before each path stands that of the module's
-- instance. Told is the fault of the first memory. That clocks are known by where their chains end is a choice of this project.
use Rattle.std.specs.Prelude.{Some, ◌≡◌, ℕ, ◌≤◌, List, [], ◌∷◌, ◌++◌, codes, flat_map, map, slice_get, false}
use Rattle.fir_base.specs.Lists.{In}
use Rattle.fir_ast.specs.Faults.{E26, Fault}
use Rattle.fir_ast.specs.declared.place.Place.{Place}
use Rattle.fir_ast.specs.Circuits.{CircuitTree}
use Rattle.fir_ast.specs.Expressions.{Expression, reference}
use Rattle.fir_ast.specs.Statements.{MemoryPart, PlacedName, memory}
use Rattle.fir_pass.specs.Groups.{Group}
use Rattle.fir_meaning.specs.Lack.{is_before}
use Rattle.fir_meaning.specs.LeafTypes.{a_clock}
use Rattle.fir_meaning.specs.LeafPaths.{LeafPath, named, path_text}
use Rattle.fir_meaning.specs.ModuleScenes.{Scene}
use Rattle.fir_meaning.specs.SourceChoices.{IsLive}
use Rattle.fir_meaning.specs.SourceClocks.{IsOfSource, picking_places}
use Rattle.fir_meaning.specs.SourceDependence.{PlacedModule, all_modules}
use Rattle.fir_meaning.specs.SourceDesigns.{SourceDesign}
use Rattle.fir_meaning.specs.SourceDrives.{Drive, module_drives}
use Rattle.fir_meaning.specs.SourceFacts.{source_depth}
use Rattle.fir_meaning.specs.SourceReads.{leaves_named}
use Rattle.fir_meaning.specs.SourceRoles.{NamedPort, SourceLeaf, SourceRole, computed, port_field, ports_of_part, sink, source, source_leaves}
use Rattle.fir_meaning.specs.TypedScopes.{TypedScope}
use Rattle.fir_meaning.specs.Visits.{Visit, module_visits}

abbrev pub leaves_read : TypedScope → Expression → LeafPath → List LeafPath
leaves_read scope (reference p n ps) q = leaves_named scope n ps q
leaves_read scope e q = []

-- in the module of a scene, in which what an instance gives is a source, as inputs are
module _ (s : Scene) where
  -- the one drive that is live for the leaf names the other
  pub record DriveNames (x y : LeafPath) : Type 0 where
    pub drive : Drive
    pub live : IsLive (source_depth s x) x (module_drives s) drive
    pub only : (other : Drive) → IsLive (source_depth s x) x (module_drives s) other → other ≡ drive
    pub is : drive.given.leaves ≡ y ∷ []
    pub plain : drive.given.index_places ≡ []

  abbrev pub RoleNames : LeafPath → SourceRole → LeafPath → Type 0
  RoleNames x sink y = DriveNames x y
  RoleNames x (computed scope e q) y = (leaves_read scope e q ≡ y ∷ []) × (picking_places e ≡ [])
  RoleNames x _ y = ⊥

  -- a clock leaf takes the clock of another
  abbrev pub TakesClockOf : LeafPath → LeafPath → Type 0
  TakesClockOf x y = (l : SourceLeaf) × In (source_leaves s) l × (l.path ≡ x) × (l.holds ≡ a_clock) × RoleNames x l.role y

  -- a chain leads from the one through these to the other
  abbrev pub IsClockChain : LeafPath → List LeafPath → LeafPath → Type 0
  IsClockChain x [] final = x ≡ final
  IsClockChain x (y ∷ ys) final = TakesClockOf x y × IsClockChain y ys final

  -- the chain of a clock leaf ends at an input, or at what an instance gives
  pub record HasClock (x root : LeafPath) : Type 0 where
    pub through : List LeafPath
    pub chain : IsClockChain x through root
    pub leaf : SourceLeaf
    pub among : In (source_leaves s) leaf
    pub is : leaf.path ≡ root
    pub is_clock : leaf.holds ≡ a_clock
    pub is_source : leaf.role ≡ source

abbrev pub clock_of_port : PlacedName → NamedPort → LeafPath
clock_of_port n p = port_field n.name p.name (codes "clk")

-- the clock leaves of the ports of a memory, in the order of the text
abbrev pub port_clocks : PlacedName → List MemoryPart → List LeafPath
port_clocks n parts = map (clock_of_port n) (flat_map ports_of_part parts)

-- at a memory, with the clocks of two ports
abbrev pub memory_clocks_fault : Place → List ℕ → List ℕ → List ℕ → Fault
memory_clocks_fault p leaf a b =
    record { code = E26; place = p; evidence = codes "memory clocks " ++ leaf ++ codes " " ++ a ++ codes " " ++ b }

pub record ShowsMemoryClocks (m : PlacedModule) (f : Fault) : Type 0 where
  pub visit : Visit
  pub among : In (module_visits m.scene.own.inside) visit
  pub place : Place
  pub name : PlacedName
  pub parts : List MemoryPart
  pub is_memory : visit.statement ≡ memory place name parts
  -- the ports, of which one has the first clock and another the first that differs
  pub before : List LeafPath
  pub one : LeafPath
  pub between : List LeafPath
  pub other : LeafPath
  pub after : List LeafPath
  pub ports : port_clocks name parts ≡ before ++ one ∷ between ++ other ∷ after
  pub clock : LeafPath
  pub other_clock : LeafPath
  pub none_before : (x root : LeafPath) → In before x → HasClock m.scene x root → ⊥
  pub one_has : HasClock m.scene one clock
  pub same_between : (x root : LeafPath) → In between x → HasClock m.scene x root → root ≡ clock
  pub other_has : HasClock m.scene other other_clock
  pub differ : clock ≡ other_clock → ⊥
  pub is :
      f ≡ memory_clocks_fault name.place (path_text (m.at ++ named name.name ∷ [])) (path_text (m.at ++ clock)) (path_text (m.at ++ other_clock))

-- in the module of the instance of a number
pub record ShowsMemoryFault (t : SourceDesign) (f : Fault) : Type 0 where
  pub number : ℕ
  pub holder : PlacedModule
  pub is_holder : slice_get (all_modules t) number ≡ Some holder
  pub shows : ShowsMemoryClocks holder f

-- at a memory before which no other shows one: by its place in the text, and then by its instance
pub record TellsMemoryFault (t : SourceDesign) (f : Fault) : Type 0 where
  pub told : ShowsMemoryFault t f
  pub first :
      (other : Fault) (shown : ShowsMemoryFault t other) → is_before shown.shows.name.place told.shows.name.place ≡ false
  pub first_instance :
      (other : Fault) (shown : ShowsMemoryFault t other) → shown.shows.name.place ≡ told.shows.name.place → told.number ≤ shown.number

abbrev pub memory_clock_group : CircuitTree → Group
memory_clock_group c = record { shows = IsOfSource ShowsMemoryFault c; tells = IsOfSource TellsMemoryFault c }
