-- The arrays of a design's circuit are those of the copies of its modules, one copy behind the other (FIRRTL spec, "Memories", "Instances").
use Rattle.std.specs.Prelude.{◌≡◌, ℕ, List, [], ◌∷◌, ◌++◌, flat_map, map}
use Rattle.fir_meaning.specs.LeafPaths.{LeafPath, path_text}
use Rattle.fir_meaning.specs.LeafTypes.{LeafType}
use Rattle.fir_meaning.specs.ModuleScenes.{Scene}
use Rattle.fir_meaning.specs.working.Designs.{Design, IsDesignOf, module_of}
use Rattle.fir_meaning.specs.working.Elaborated.{views}
use Rattle.fir_meaning.specs.working.FlatLeaves.{placed_array}
use Rattle.fir_meaning.specs.working.Flattened.{flattened}
use Rattle.fir_meaning.specs.working.LeafModules.{LeafArray, LeafModule, Writing}
use Rattle.fir_meaning.specs.working.Numberings.{Numbering, moved_writing, numbering}
use Rattle.fir_copies.specs.working.Copies.{Copy, copies_of}
use Rattle.fir_elaborate.specs.declared.elaborated.Elaborated.{Elaborated}
use Rattle.fir_elaborate.specs.declared.elaborated.ModuleCopy.{ModuleCopy}
use Rattle.fir_elaborate.specs.working.CopyPaths.{paths_below}
use Rattle.fir_elaborate.specs.working.Elaborations.{IsElaborated}

-- those of a copy of a module whose instance has a path
abbrev pub arrays_at : List LeafModule → Copy → LeafPath → List LeafArray
arrays_at modules k path =
    let m = module_of modules k.module_number in
    map (placed_array path (numbering m k.first k.own)) m.arrays

-- of copies and their paths
abbrev pub arrays_by : List LeafModule → List Copy → List LeafPath → List LeafArray
arrays_by modules (k ∷ ks) (p ∷ ps) = arrays_at modules k p ++ arrays_by modules ks ps
arrays_by modules _ _ = []

abbrev pub ArraysAreOfCopies : Type 0
ArraysAreOfCopies =
    (modules : List LeafModule) (x : ℕ) (d : Design) → IsDesignOf modules (module_of modules x) d
    → (flattened d).arrays ≡ arrays_by modules (copies_of x d) (paths_below [] d)

-- what an array is for a net, with its path as it is printed
pub record ArraySeen : Type 0 where
  pub path : List ℕ
  pub declaration : ℕ
  pub holds : LeafType
  pub words : ℕ
  pub writings : List Writing

abbrev pub array_seen : LeafArray → ArraySeen
array_seen a = record { path = path_text a.path; declaration = a.declaration; holds = a.holds; words = a.words; writings = a.writings }

-- behind what stands before the paths of a copy, by the numbers of the copy's leaves
abbrev pub array_behind : List ℕ → Numbering → LeafArray → ArraySeen
array_behind prefix n a = record {
  path = prefix ++ path_text a.path;
  declaration = a.declaration;
  holds = a.holds;
  words = a.words;
  writings = map (moved_writing n) a.writings;
}

abbrev pub arrays_of_copy : List Scene → ModuleCopy → List ArraySeen
arrays_of_copy scenes k =
    let m = module_of (views scenes) k.module_number in
    map (array_behind k.prefix (numbering m k.first k.own)) m.arrays

-- and so of the copies of the code
abbrev pub ArraysAreOfModules : Type 0
ArraysAreOfModules =
    (scenes : List Scene) (x : ℕ) (d : Design) → IsDesignOf (views scenes) (module_of (views scenes) x) d → (e : Elaborated) → IsElaborated x d e
    → map array_seen (flattened d).arrays ≡ flat_map (arrays_of_copy scenes) e.copies.items
