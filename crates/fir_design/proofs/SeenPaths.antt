-- What a function of paths is over the numbers of a module's leaves is the same by the module's table and by its scope.
use Rattle.std.proofs.Common.{◌≡◌, ℕ, ◌++◌, ap}
use Rattle.std.proofs.Math.Path.{fun_ext}
use Rattle.fir_meaning.specs.LeafPaths.{LeafPath}
use Rattle.fir_meaning.specs.working.DesignPaths.{leaf_path, seen}
use Rattle.fir_leaf.specs.working.LeafLaws.{numbered, path_at}
use Rattle.fir_meaning.specs.ModuleScenes.{Scene}
use Rattle.fir_meaning.specs.working.LeafedModules.{leafed_module}
use Rattle.fir_meaning.specs.SourceStores.{below}
use Rattle.fir_design.proofs.FineScenes.{IsFineScene, whole_scope}
use Rattle.fir_design.proofs.FineScenes as scenes

pub path_is : (s : Scene) → IsFineScene s → (path : LeafPath) (x : ℕ)
    → leaf_path path (leafed_module s) x ≡ path ++ path_at (whole_scope s) x
path_is s f path x = ap (λ p. path ++ p) (scenes.leaf_path s f x)

pub seen_is : {A : Type 0} → (s : Scene) → IsFineScene s → (path : LeafPath) (g : LeafPath → A)
    → seen path (leafed_module s) g ≡ numbered (whole_scope s) (below path g)
seen_is s f path g = fun_ext (λ x. ap g (path_is s f path x))
