-- Roles that stand side by side in two lists, and leaves of one declaration that have such roles.
use Rattle.std.proofs.Common.{◌≡◌, ℕ, zero, suc, ◌+◌, List, [], ◌∷◌, ◌++◌, map, slice_get, Some, refl, arith, subst}
use Rattle.std.specs.Prelude.{slice_index_or}
use Rattle.fir_ast.specs.declared.place.Place.{Place}
use Rattle.fir_meaning.specs.TypeLeaves.{TypeLeaf}
use Rattle.fir_meaning.specs.working.LeafModules.{LeafArray, LeafDeclared, Role, source}
use Rattle.fir_meaning.specs.LeafTypes.{LeafType}
use Rattle.fir_meaning.specs.ModuleScenes.{Declared}
use Rattle.fir_meaning.specs.working.LeafedModules.{leaves_from}
use Rattle.fir_design.specs.working.SameRoles.{SameLeaves, SameRole}
use Rattle.fir_meaning.specs.SourceRoles.{SourceRole, source_leaves_of}

module _ (leaves : List LeafDeclared) (arrays : List LeafArray) where
  abbrev pub SameInOrder : List Role → List SourceRole → Type 0
  SameInOrder [] [] = Unit {0}
  SameInOrder (r ∷ rs) (t ∷ ts) = SameRole leaves arrays r t × SameInOrder rs ts
  SameInOrder _ _ = ⊥

  pub roles_joined : (rs qs : List Role) (ts us : List SourceRole) → SameInOrder rs ts → SameInOrder qs us → SameInOrder (rs ++ qs) (ts ++ us)
  roles_joined [] qs [] us h k = k
  roles_joined [] qs (t ∷ ts) us h k = absurd h
  roles_joined (r ∷ rs) qs [] us h k = absurd h
  roles_joined (r ∷ rs) qs (t ∷ ts) us h k = (h.0, roles_joined rs qs ts us h.1 k)

  pub role_there : {A : Type 0} → (f : A → SourceRole) (rs : List Role) (xs : List A) → SameInOrder rs (map f xs) → (k : ℕ) (x : A)
      → slice_get xs k ≡ Some x → SameRole leaves arrays (slice_index_or rs k source) (f x)
  role_there f rs [] h k x e = absurd (cc)
  role_there f [] (y ∷ xs) h k x e = absurd h
  role_there f (r ∷ rs) (y ∷ xs) h zero x e = let same : y ≡ x = cc in subst (λ z. SameRole leaves arrays r (f z)) same h.0
  role_there f (r ∷ rs) (y ∷ xs) h (suc k) x e = role_there f rs xs h.1 k x e

  pub declared_same : (d : Declared) (place : TypeLeaf → Place) (role_of : ℕ → TypeLeaf → Role) (tree_role : TypeLeaf → SourceRole)
      (k : ℕ) (ls : List TypeLeaf) (hs : List LeafType)
      → ((j : ℕ) (l : TypeLeaf) → slice_get ls j ≡ Some l → SameRole leaves arrays (role_of (k + j) l) (tree_role l))
      → SameLeaves leaves arrays (leaves_from d place role_of k ls hs) (source_leaves_of d.named.name tree_role ls hs)
  declared_same d place role_of tree_role k [] hs h = tt
  declared_same d place role_of tree_role k (l ∷ ls) [] h = tt
  declared_same d place role_of tree_role k (l ∷ ls) (t ∷ hs) h =
      let first : k + 0 ≡ k = omega arith in
      let own : SameRole leaves arrays (role_of k l) (tree_role l) = rw first at (h 0 l refl) in (
        (refl, refl, own),
        declared_same d place role_of tree_role (suc k) ls hs
            (λ j x e. let next : suc k + j ≡ k + suc j = omega arith in rw next (h (suc j) x e)),
      )
