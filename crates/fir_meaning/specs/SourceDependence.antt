-- What a leaf of a whole design depends on within a tick, by paths, and walks of dependence (FIRRTL spec, "Last Connect Semantics", "Registers", "Memories").
-- A sink depends on what the drives read that are live for it, in the module whose statements drive it; a node on its expression; a register with an
-- asynchronous reset on that reset and its init, at once, a choice of this project; a read at once on its address and enables. What shows state otherwise, and
-- an input, depend on nothing.
use Rattle.std.specs.Prelude.{◌≡◌, List, [], ◌∷◌, ◌++◌, map, Bool, true, false, Option, Some, None}
use Rattle.fir_base.specs.Lists.{In}
use Rattle.fir_meaning.specs.LeafPaths.{LeafPath, named}
use Rattle.fir_meaning.specs.ModuleScenes.{Scene}
use Rattle.fir_meaning.specs.SourceChoices.{IsLive, live_reads}
use Rattle.fir_meaning.specs.SourceCircuits.{PlacedLeaf, all_leaves, leaf_path}
use Rattle.fir_meaning.specs.SourceDesigns.{Instances, SourceDesign, held, made_of, no_instances}
use Rattle.fir_meaning.specs.SourceDrives.{Drive, module_drives}
use Rattle.fir_meaning.specs.SourceFacts.{source_depth}
use Rattle.fir_meaning.specs.SourceReads.{reads}
use Rattle.fir_meaning.specs.SourceRoles.{PathReading, SourceReset, SourceRole, computed, pipe, reading, register, sink, source}

-- the module of the instance at a path
pub record PlacedModule : Type 0 where
  pub at : LeafPath
  pub scene : Scene

abbrev mutual
  pub modules_of_design : LeafPath → SourceDesign → List PlacedModule
  modules_of_design at (made_of s is) = record { at = at; scene = s } ∷ modules_of_instances at is

  pub modules_of_instances : LeafPath → Instances → List PlacedModule
  modules_of_instances at no_instances = []
  modules_of_instances at (held name d rest) = modules_of_design (at ++ named name ∷ []) d ++ modules_of_instances at rest

-- the main module and all below it
abbrev pub all_modules : SourceDesign → List PlacedModule
all_modules t = modules_of_design [] t

-- paths of a module, from the main module on
abbrev pub from_main : LeafPath → List LeafPath → List LeafPath
from_main at paths = map (λ path. at ++ path) paths

abbrev pub reads_if : Bool → SourceReset → LeafPath → List LeafPath
reads_if true r q = reads r.scope r.condition [] ++ reads r.scope r.init q
reads_if false r q = []

abbrev pub reset_reads : Option SourceReset → LeafPath → List LeafPath
reset_reads None q = []
reset_reads (Some r) q = reads_if r.is_async r q

abbrev pub reading_reads : PathReading → List LeafPath
reading_reads r = r.address ∷ map (λ n. n.leaf) r.needs

module _ (t : SourceDesign) where
  -- a drive of a module that is live for a leaf reads another
  pub record DriveReads (x y : LeafPath) : Type 0 where
    pub holder : PlacedModule
    pub among : In (all_modules t) holder
    -- the path of the leaf in that module
    pub leaf : LeafPath
    pub is : holder.at ++ leaf ≡ x
    pub drive : Drive
    pub live : IsLive (source_depth holder.scene leaf) leaf (module_drives holder.scene) drive
    pub reads : In (from_main holder.at (live_reads (source_depth holder.scene leaf) leaf holder.scene drive)) y

  -- of the leaf at a path, in the module of the instance at a path, by its role
  abbrev pub RoleDepends : LeafPath → LeafPath → SourceRole → LeafPath → Type 0
  RoleDepends at x source y = ⊥
  RoleDepends at x sink y = DriveReads x y
  RoleDepends at x (computed scope e q) y = In (from_main at (reads scope e q)) y
  RoleDepends at x (register scope clock reset q) y = In (from_main at (reset_reads reset q)) y
  RoleDepends at x (reading r) y = In (from_main at (reading_reads r)) y
  RoleDepends at x (pipe r clock under) y = ⊥

  abbrev pub LeafDepends : PlacedLeaf → LeafPath → Type 0
  LeafDepends p y = RoleDepends p.at (leaf_path p) p.leaf.role y

  abbrev pub Depends : LeafPath → LeafPath → Type 0
  Depends x y = (p : PlacedLeaf) × In (all_leaves t) p × (leaf_path p ≡ x) × LeafDepends p y

  -- from a leaf through these, each of which the one before it depends on; the last one is named
  abbrev pub IsDependenceWalk : LeafPath → List LeafPath → LeafPath → Type 0
  IsDependenceWalk x [] final = x ≡ final
  IsDependenceWalk x (y ∷ ys) final = Depends x y × IsDependenceWalk y ys final
