-- Leaves of a design by their paths (FIRRTL spec, "Instances").
-- A leaf's path in the design is the names of the instances from the main module inward, and then its path in its module. An instance's port has the same
-- path in the module that holds it and in its own, so the two are one leaf.
use Rattle.std.specs.Prelude.{ℕ, List, [], ◌∷◌, ◌++◌, slice_index_or}
use Rattle.fir_ast.specs.Statements.{PlacedName}
use Rattle.fir_meaning.specs.LeafPaths.{LeafPath, named}
use Rattle.fir_meaning.specs.working.LeafBlocks.{HeldInstance}
use Rattle.fir_meaning.specs.working.LeafModules.{LeafModule, leaf_at}

abbrev pub no_name : PlacedName
no_name = record { place = record { line = 0; col = 0 }; name = [] }

-- the name of an instance is that of its declaration
abbrev pub instance_name : LeafModule → HeldInstance → List ℕ
instance_name m i = (slice_index_or m.declared i.declaration no_name).name

-- that of an instance in the module of the instance at a path
abbrev pub instance_path : LeafPath → LeafModule → HeldInstance → LeafPath
instance_path path m i = path ++ named (instance_name m i) ∷ []

-- leaf x of the module of the instance at a path
abbrev pub leaf_path : LeafPath → LeafModule → ℕ → LeafPath
leaf_path path m x = path ++ (leaf_at m.leaves x).path

-- what a function of paths is over the module's numbers
abbrev pub seen : {A : Type 0} → LeafPath → LeafModule → (LeafPath → A) → ℕ → A
seen path m f x = f (leaf_path path m x)
