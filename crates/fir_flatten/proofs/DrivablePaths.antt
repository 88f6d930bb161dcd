-- What statements of a module may drive by its path is one of the module's leaves.
use Rattle.std.proofs.Common.{◌≡◌, ℕ, List, [], ◌∷◌, Bool, true, false, if◌then◌else◌, Option, Some, None, refl, sym, ap, ◌∙◌, subst, inl, inr}
use Rattle.std.specs.Str.{bytes_eq}
use Rattle.std.proofs.lemmas.Option.{get_or_from_slice_get, none-some, same_Some, slice_get_within}
use Rattle.fir_base.specs.Lists.{In}
use Rattle.fir_base.proofs.Elements.{number_of}
use Rattle.fir_base.proofs.Members.{in_flat_map, in_map, in_map_from}
use Rattle.fir_base.proofs.SameNames.{name_is}
use Rattle.fir_meaning.specs.FoundTypes.{leaves_of_data}
use Rattle.fir_meaning.specs.LeafPaths.{LeafPath, element, named}
use Rattle.fir_meaning.specs.ModuleScenes.{Scene}
use Rattle.fir_meaning.specs.SamePaths.{same_path}
use Rattle.fir_meaning.specs.SourceFacts.{driven_of, driven_under, flip_on, source_may_drive}
use Rattle.fir_meaning.specs.TypeLeaves.{TypeLeaf}
use Rattle.fir_meaning.specs.TypedScopes.{Known, TypedScope, known}
use Rattle.fir_meaning.specs.working.LeafModules.{LeafDeclared, no_leaf}
use Rattle.fir_meaning.specs.working.LeafedModules.{module_leaves}
use Rattle.fir_leaf.specs.working.LeafLaws.{known_paths, scope_paths}
use Rattle.fir_leaf.proofs.OneStore.{path_is}
use Rattle.fir_design.proofs.FineScenes.{IsFineScene, leaf_path, whole_scope}
use Rattle.fir_design.proofs.SourceLeaves.{source_may_drive_is}
use Rattle.fir_source_faults.specs.working.ReadsByPath.{path_in}
use Rattle.fir_design_faults.proofs.DrivenPaths.{IsDriven}

-- what is known of a name, and the leaf of a type at a path
record IsKnown (scope : TypedScope) (name : List ℕ) (k : Known) : Type 0 where
  among : In scope k
  name_is : k.name ≡ name

known_in : (scope : TypedScope) (name : List ℕ) (k : Known) → known scope name ≡ Some k → IsKnown scope name k
known_in [] name k e = absurd (none-some k e)
known_in (x ∷ scope) name k e = by (bytes_eq x.name name) refl e (known_in scope name k)
  where
    by : (b : Bool) → bytes_eq x.name name ≡ b → (if b then Some x else known scope name) ≡ Some k → (known scope name ≡ Some k → IsKnown scope name k)
        → IsKnown (x ∷ scope) name k
    by true t h rest =
        let same = same_Some x k h in
        record { among = inl same; name_is = ap (λ (y : Known). y.name) (sym same) ∙ name_is x.name name t }
    by false t h rest = let r = rest h in record { among = inr r.among; name_is = r.name_is }

record IsLeafAt (ls : List TypeLeaf) (path : LeafPath) : Type 0 where
  leaf : TypeLeaf
  among : In ls leaf
  path_is : leaf.path ≡ path

leaf_in : (ls : List TypeLeaf) (path : LeafPath) (flip : Bool) → flip_on ls path ≡ Some flip → IsLeafAt ls path
leaf_in [] path flip e = absurd (none-some flip e)
leaf_in (l ∷ ls) path flip e = by (same_path l.path path) refl e (leaf_in ls path flip)
  where
    by : (b : Bool) → same_path l.path path ≡ b → (if b then Some l.flip else flip_on ls path) ≡ Some flip → (flip_on ls path ≡ Some flip → IsLeafAt ls path)
        → IsLeafAt (l ∷ ls) path
    by true t h rest = record { leaf = l; among = inl refl; path_is = path_is l.path path t }
    by false t h rest = let r = rest h in record { leaf = r.leaf; among = inr r.among; path_is = r.path_is }

module _ (s : Scene) (f : IsFineScene s) where
  at_path : (q : LeafPath) → In (scope_paths (whole_scope s)) q → source_may_drive s q ≡ true → IsDriven s q
  at_path q i e =
      let from = in_map_from (λ (l : LeafDeclared). l.path) (module_leaves s) q (subst (λ qs. In qs q) (sym f.paths) i) in
      let z = number_of (module_leaves s) from.0 from.1 in
      let lt = slice_get_within (module_leaves s) z.0 from.0 z.1 in
      let path : path_in s z.0 ≡ q = ap (λ (l : LeafDeclared). l.path) (get_or_from_slice_get (module_leaves s) z.0 from.0 no_leaf z.1) ∙ from.2 in
      record {
        leaf = z.0;
        within = lt;
        path = path;
        may = sym (source_may_drive_is s f z.0 lt) ∙ ap (source_may_drive s) (sym (leaf_path s f z.0) ∙ path) ∙ e;
      }

  named_path : (x : List ℕ) (path : LeafPath) (o : Option Known) → known (whole_scope s) x ≡ o → driven_of o path ≡ true
      → In (scope_paths (whole_scope s)) (named x ∷ path)
  named_path x path None e h = absurd (cc)
  named_path x path (Some k) e h = by (flip_on (leaves_of_data k.data_type) path) refl h
    where
      by : (o : Option Bool) → flip_on (leaves_of_data k.data_type) path ≡ o → driven_under k.flow o ≡ true
          → In (scope_paths (whole_scope s)) (named x ∷ path)
      by None same never = absurd (cc)
      by (Some flip) same may =
          let n = known_in (whole_scope s) x k e in
          let l = leaf_in (leaves_of_data k.data_type) path flip same in
          let there : named k.name ∷ l.leaf.path ≡ named x ∷ path =
          ap (λ y. named y ∷ l.leaf.path) n.name_is ∙ ap (λ (p : LeafPath). named x ∷ p) l.path_is in
          subst (In (scope_paths (whole_scope s))) there
          (in_flat_map known_paths (whole_scope s) k (named k.name ∷ l.leaf.path) n.among
          (in_map (λ (y : TypeLeaf). named k.name ∷ y.path) (leaves_of_data k.data_type) l.leaf l.among))

  pub driven_leaf : (q : LeafPath) → source_may_drive s q ≡ true → IsDriven s q
  driven_leaf [] e = absurd (cc)
  driven_leaf (element i ∷ path) e = absurd (cc)
  driven_leaf (named x ∷ path) e = at_path (named x ∷ path) (named_path x path (known (whole_scope s) x) refl e) e
