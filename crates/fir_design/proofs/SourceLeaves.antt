-- What the declarations of a module say of a leaf by its path is what the module's table says by its number.
use Rattle.std.proofs.Common.{◌≡◌, ℕ, ◌<◌, List, [], ◌∷◌, map, length, false, Option, Some, None, refl, sym, ap, ◌∙◌, subst, inl, inr}
use Rattle.std.proofs.lemmas.Bool.{false_from_ne_true}
use Rattle.fir_base.specs.Lists.{In, Distinct}
use Rattle.fir_base.proofs.Elements.{get_in}
use Rattle.fir_base.proofs.Members.{in_map}
use Rattle.fir_base.proofs.SameNames.{name_other, name_same}
use Rattle.fir_ast.specs.Types.{DataType}
use Rattle.fir_meaning.specs.Components.{find}
use Rattle.fir_meaning.specs.LeafPaths.{named}
use Rattle.fir_meaning.specs.Mentions.{type_mentions}
use Rattle.fir_meaning.specs.NameGroups.{faults_in}
use Rattle.fir_meaning.specs.TypeLeaves.{TypeLeaf}
use Rattle.fir_meaning.specs.TypedScopes.{Known, TypedScope, known}
use Rattle.fir_meaning.specs.Visibility.{declarations}
use Rattle.fir_meaning.proofs.DistinctLeaves.{paths_distinct}
use Rattle.fir_meaning.proofs.FoundDeclarations.{Once, once_found}
use Rattle.fir_leaf.specs.working.LeafLaws.{path_at}
use Rattle.fir_meaning.specs.FoundTypes.{leaves_of_data}
use Rattle.fir_meaning.specs.working.LeafModules.{leaf_at, may_drive}
use Rattle.fir_meaning.specs.ModuleScenes.{Scene}
use Rattle.fir_meaning.specs.working.LeafedModules.{module_leaves}
use Rattle.fir_leaf.specs.working.TableLaws.{IsLeafOf}
use Rattle.fir_meaning.specs.SamePaths.{same_path}
use Rattle.fir_leaf.proofs.OneStore.{path_is, path_same}
use Rattle.fir_meaning.specs.SourceFacts.{depth_of, driven_of, driven_under, flip_on, source_depth, source_may_drive}
use Rattle.fir_design.proofs.FineScenes.{IsFineScene, leaf_is, leaf_path, whole_scope}
use Rattle.fir_design.proofs.KnownDeclarations.{known_names, same_name}

-- where no name stands twice, each is known under its name
known_alone : (scope : TypedScope) → Distinct (map (λ (k : Known). k.name) scope) → (k : Known) → In scope k → known scope k.name ≡ Some k
known_alone [] d k m = absurd m
known_alone (x ∷ scope) d k (inl e) = subst (λ (y : Known). known (x ∷ scope) y.name ≡ Some y) e (rw (name_same x.name) refl)
known_alone (x ∷ scope) d k (inr m) =
    let apart = name_other x.name k.name
    (λ e. d.0 (subst (In (map (λ (y : Known). y.name) scope)) (sym e) (in_map (λ (y : Known). y.name) scope k m))) in
    rw apart (known_alone scope d.1 k m)

-- and where no path does, each leaf is found by its path
flip_alone : (ls : List TypeLeaf) → Distinct (map (λ (l : TypeLeaf). l.path) ls) → (l : TypeLeaf) → In ls l
    → flip_on ls l.path ≡ Some l.flip
flip_alone [] d l m = absurd m
flip_alone (x ∷ ls) d l (inl e) = subst (λ (y : TypeLeaf). flip_on (x ∷ ls) y.path ≡ Some y.flip) e (rw (path_same x.path) refl)
flip_alone (x ∷ ls) d l (inr m) =
    let apart : same_path x.path l.path ≡ false =
    false_from_ne_true (same_path x.path l.path)
    (λ t.
    d.0
    (subst (In (map (λ (y : TypeLeaf). y.path) ls)) (sym (path_is x.path l.path t)) (in_map (λ (y : TypeLeaf). y.path) ls l m))) in
    rw apart (flip_alone ls d.1 l m)

leaves_distinct : (o : Option DataType) → ((t : DataType) → o ≡ Some t → faults_in (type_mentions t) ≡ [])
    → Distinct (map (λ (l : TypeLeaf). l.path) (leaves_of_data o))
leaves_distinct None h = tt
leaves_distinct (Some t) h = paths_distinct t (h t refl)

module _ (s : Scene) (f : IsFineScene s) (x : ℕ) (lt : x < length (module_leaves s)) where
  abbrev is : IsLeafOf (whole_scope s) (declarations s.own.inside) (leaf_at (module_leaves s) x)
  is = leaf_is s f x lt

  pub path_there : path_at (whole_scope s) x ≡ named (leaf_is s f x lt).known.name ∷ (leaf_is s f x lt).leaf.path
  path_there = sym (leaf_path s f x) ∙ is.path

  pub found : find (declarations s.own.inside) (leaf_is s f x lt).known.name ≡ Some (leaf_is s f x lt).declared
  found =
      let all = declarations s.own.inside in
      let place = (leaf_at (module_leaves s) x).declaration in
      let once : Once all = record { once = subst Distinct (known_names s.own.modules all) f.fine.names } in
      ap (find all) (same_name s.own.modules all place is.known is.declared is.is_known is.is_declared)
      ∙ once_found all once is.declared (get_in all place is.declared is.is_declared)

  pub source_depth_is : source_depth s (path_at (whole_scope s) x) ≡ (leaf_at (module_leaves s) x).depth
  source_depth_is = ap (source_depth s) path_there ∙ ap depth_of found ∙ sym is.depth

  known_there : known (whole_scope s) (leaf_is s f x lt).known.name ≡ Some (leaf_is s f x lt).known
  known_there =
      known_alone (whole_scope s) f.fine.names is.known (get_in (whole_scope s) (leaf_at (module_leaves s) x).declaration is.known is.is_known)

  flip_there : flip_on (leaves_of_data (leaf_is s f x lt).known.data_type) (leaf_is s f x lt).leaf.path ≡ Some (leaf_is s f x lt).leaf.flip
  flip_there =
      let place = (leaf_at (module_leaves s) x).declaration in
      flip_alone (leaves_of_data is.known.data_type)
      (leaves_distinct is.known.data_type (λ t e. f.fine.fields is.known t (get_in (whole_scope s) place is.known is.is_known) e)) is.leaf is.among

  pub source_may_drive_is : source_may_drive s (path_at (whole_scope s) x) ≡ may_drive (leaf_at (module_leaves s) x).role
  source_may_drive_is =
      ap (source_may_drive s) path_there ∙ ap (λ o. driven_of o is.leaf.path) known_there ∙ ap (driven_under is.known.flow) flip_there
      ∙ sym is.drives
