-- Leaves and arrays that have the same roles by numbers and by paths: joined lists, and a declaration without arrays.
use Rattle.std.proofs.Common.{◌≡◌, ℕ, ◌+◌, List, [], ◌∷◌, ◌++◌, map, slice_get, Some, refl, ap₂, ◌∙◌, arith}
use Rattle.std.proofs.lemmas.List.{map-append}
use Rattle.fir_ast.specs.declared.place.Place.{Place}
use Rattle.fir_meaning.specs.TypeLeaves.{TypeLeaf}
use Rattle.fir_meaning.specs.FoundTypes.{leaves_of_data}
use Rattle.fir_meaning.specs.working.LeafModules.{LeafArray, LeafDeclared, Role}
use Rattle.fir_meaning.specs.ModuleScenes.{Declared, Scene, held_by_declared, type_of_declared}
use Rattle.fir_meaning.specs.working.LeafedModules.{declared_leaves, leafed_module, module_leaves}
use Rattle.fir_design.specs.working.SameRoles.{SameLeaves, SameRole, array_on}
use Rattle.fir_meaning.specs.SourceRoles.{SourceArray, SourceLeaf, SourceRole, declared_sources}
use Rattle.fir_design.proofs.RolesInOrder as one

module _ (leaves : List LeafDeclared) (arrays : List LeafArray) where
  joined_same : (ls ms : List LeafDeclared) (ts us : List SourceLeaf) → SameLeaves leaves arrays ls ts → SameLeaves leaves arrays ms us
      → SameLeaves leaves arrays (ls ++ ms) (ts ++ us)
  joined_same [] ms [] us h k = k
  joined_same [] ms (t ∷ ts) us h k = absurd h
  joined_same (l ∷ ls) ms [] us h k = absurd h
  joined_same (l ∷ ls) ms (t ∷ ts) us h k = (h.0, joined_same ls ms ts us h.1 k)

-- of a module: leaves and arrays
pub record AreSame (s : Scene) (ls : List LeafDeclared) (xs : List LeafArray) (ts : List SourceLeaf) (ys : List SourceArray) : Type 0 where
  pub leaves : SameLeaves (module_leaves s) (leafed_module s).arrays ls ts
  pub arrays : map (array_on (module_leaves s)) xs ≡ ys

pub none_same : (s : Scene) → AreSame s [] [] [] []
none_same s = record { leaves = tt; arrays = refl }

pub both_same : (s : Scene) (ls ms : List LeafDeclared) (xs ys : List LeafArray) (ts us : List SourceLeaf) (zs ws : List SourceArray)
    → AreSame s ls xs ts zs → AreSame s ms ys us ws → AreSame s (ls ++ ms) (xs ++ ys) (ts ++ us) (zs ++ ws)
both_same s ls ms xs ys ts us zs ws h k = record {
  leaves = joined_same (module_leaves s) (leafed_module s).arrays ls ms ts us h.leaves k.leaves;
  arrays = map-append (array_on (module_leaves s)) xs ys ∙ ap₂ (λ a b. a ++ b) h.arrays k.arrays;
}

-- of a declaration without arrays
pub declared_same : (s : Scene) (d : Declared) (place : TypeLeaf → Place) (role_of : ℕ → TypeLeaf → Role)
    (source_of : TypeLeaf → SourceRole)
    → ((k : ℕ) (l : TypeLeaf) → slice_get (leaves_of_data (type_of_declared s d)) k ≡ Some l
    → SameRole (module_leaves s) (leafed_module s).arrays (role_of k l) (source_of l))
    → AreSame s (declared_leaves s d place role_of) [] (declared_sources s d.before d.named d.component source_of) []
declared_same s d place role_of source_of h = record {
  leaves =
      one.declared_same (module_leaves s) (leafed_module s).arrays d place role_of source_of 0 (leaves_of_data (type_of_declared s d))
      (held_by_declared s d)
      (λ k l e. let none : 0 + k ≡ k = omega arith in rw none (h k l e));
  arrays = refl;
}
