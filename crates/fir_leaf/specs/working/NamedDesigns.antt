-- What makes the paths of a design distinct (FIRRTL spec, "Namespaces", "Instances").
-- In each module no name is declared twice, and no path is that of two leaves; all leaves and arrays are of its declarations; a leaf's path begins with the
-- name of its declaration; and the leaves of the declaration of an instance are those of its ports.
use Rattle.std.specs.Prelude.{◌≡◌, ℕ, ◌+◌, ◌<◌, List, [], ◌∷◌, ◌++◌, map, length, slice_index_or}
use Rattle.fir_base.specs.Lists.{Distinct}
use Rattle.fir_ast.specs.Statements.{PlacedName}
use Rattle.fir_meaning.specs.LeafPaths.{LeafPath, named}
use Rattle.fir_meaning.specs.working.LeafBlocks.{HeldInstance}
use Rattle.fir_meaning.specs.working.LeafModules.{LeafDeclared, LeafModule, leaf_at}
use Rattle.fir_meaning.specs.working.Designs.{Item, drive, when, instance, Items, done, then, Design, made_of}
use Rattle.fir_meaning.specs.working.DesignPaths.{no_name}
use Rattle.fir_leaf.specs.working.DesignStates.{array_at}

abbrev pub declared_name : LeafModule → ℕ → List ℕ
declared_name m k = (slice_index_or m.declared k no_name).name

abbrev pub paths_of : List LeafDeclared → List LeafPath
paths_of leaves = map (λ (l : LeafDeclared). l.path) leaves

-- the path begins with the name
pub record IsBehind (name : List ℕ) (path : LeafPath) : Type 0 where
  pub rest : LeafPath
  pub is : path ≡ named name ∷ rest

pub record HasOwnNames (m : LeafModule) : Type 0 where
  pub names : Distinct (map (λ (n : PlacedName). n.name) m.declared)
  pub paths : Distinct (paths_of m.leaves)
  pub declared : (x : ℕ) → x < length m.leaves → (leaf_at m.leaves x).declaration < length m.declared
  pub begins : (x : ℕ) → x < length m.leaves → IsBehind (declared_name m (leaf_at m.leaves x).declaration) (leaf_at m.leaves x).path
  pub arrays : (x : ℕ) → x < length m.arrays → (array_at m.arrays x).declaration < length m.declared

-- leaf x is one of the ports of the instance
pub record IsPortOf (i : HeldInstance) (c : LeafModule) (x : ℕ) : Type 0 where
  pub port : ℕ
  pub within : port < c.port_leaves
  pub is : x ≡ i.first + port

-- an instance of the module c
pub record IsOwnInstance (m : LeafModule) (i : HeldInstance) (c : LeafModule) : Type 0 where
  pub declared : i.declaration < length m.declared
  pub leaves : (x : ℕ) → x < length m.leaves → (leaf_at m.leaves x).declaration ≡ i.declaration → IsPortOf i c x

-- the declarations of a module's instances
abbrev mutual
  pub instances_in : Item → List ℕ
  instances_in (drive p b ps t) = []
  instances_in (when p c a b) = all_instances_in a ++ all_instances_in b
  instances_in (instance i d) = i.declaration ∷ []

  pub all_instances_in : Items → List ℕ
  all_instances_in done = []
  all_instances_in ((then) i is) = instances_in i ++ all_instances_in is

abbrev mutual
  pub IsNamedItem : LeafModule → Item → Type 0
  IsNamedItem m (drive p b ps t) = Unit {0}
  IsNamedItem m (when p c a b) = AreNamedItems m a × AreNamedItems m b
  IsNamedItem m (instance i d) = IsNamedInstance m i d

  pub AreNamedItems : LeafModule → Items → Type 0
  AreNamedItems m done = Unit {0}
  AreNamedItems m ((then) i is) = IsNamedItem m i × AreNamedItems m is

  pub IsNamedInstance : LeafModule → HeldInstance → Design → Type 0
  IsNamedInstance m i (made_of c is) = IsOwnInstance m i c × HasOwnNames c × Distinct (all_instances_in is) × AreNamedItems c is

abbrev pub IsNamed : Design → Type 0
IsNamed (made_of m is) = HasOwnNames m × Distinct (all_instances_in is) × AreNamedItems m is
