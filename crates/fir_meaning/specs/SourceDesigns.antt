-- The tree of modules below a module, each with its scene: of each instance, by its name, the tree below its module (FIRRTL spec, "Instances").
use Rattle.std.specs.Prelude.{◌≡◌, ℕ, List, [], ◌∷◌, ◌++◌, Option, Some, None, slice_get}
use Rattle.fir_ast.specs.Circuits.{ModuleTree}
use Rattle.fir_ast.specs.Statements.{PlacedName, Statement, instance, when, Block, done, then}
use Rattle.fir_meaning.specs.ResetJoins.{numbered_module}
use Rattle.fir_meaning.specs.ModuleScenes.{Scene}

mutual
  pub data SourceDesign : Type 0 where
    made_of : Scene → Instances → SourceDesign

  pub data Instances : Type 0 where
    no_instances : Instances
    held : List ℕ → SourceDesign → Instances → Instances

-- an instance and its module
pub record InstanceOf : Type 0 where
  pub named : PlacedName
  pub other : PlacedName

-- the instances of a block, in the order of the text
abbrev mutual
  pub instances_of : Statement → List InstanceOf
  instances_of (instance p n other) = record { named = n; other = other } ∷ []
  instances_of (when p c a b) = instances_of_block a ++ instances_of_block b
  instances_of _ = []

  pub instances_of_block : Block → List InstanceOf
  instances_of_block done = []
  instances_of_block ((then) s b) = instances_of s ++ instances_of_block b

abbrev pub scene_where : List Scene → Option (ℕ × ModuleTree) → Option Scene
scene_where scenes None = None
scene_where scenes (Some child) = slice_get scenes child.0

-- the scene of the module of an instance
abbrev pub scene_of : List Scene → Scene → InstanceOf → Option Scene
scene_of scenes s i = scene_where scenes (numbered_module 0 s.own.modules i.other.name)

-- the tree below a scene's module, where the modules of the circuit have these scenes
module _ (scenes : List Scene) where
  abbrev mutual
    pub IsSourceDesignOf : Scene → SourceDesign → Type 0
    IsSourceDesignOf s (made_of t is) = (t ≡ s) × AreInstances s (instances_of_block s.own.inside.body) is

    pub AreInstances : Scene → List InstanceOf → Instances → Type 0
    AreInstances s [] no_instances = Unit {0}
    AreInstances s (i ∷ more) (held name d rest) =
        (name ≡ i.named.name) × ((child : Scene) × (scene_of scenes s i ≡ Some child) × IsSourceDesignOf child d) × AreInstances s more rest
    AreInstances s _ _ = ⊥
