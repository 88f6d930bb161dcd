-- By their flow statements may drive exactly the leaves whose role says so.
use Rattle.std.proofs.Common.{◌≡◌, List, [], ◌∷◌, ◌++◌, map, Bool, refl, sym, ap, ◌∙◌, subst}
use Rattle.std.specs.Prelude.{flat_map}
use Rattle.std.proofs.lemmas.List.{map-append}
use Rattle.std.proofs.lemmas.Simd.{map-map}
use Rattle.fir_base.specs.Lists.{In, Distinct}
use Rattle.fir_base.proofs.Elements.{get_in}
use Rattle.fir_base.proofs.Members.{in_flat_map, in_map}
use Rattle.fir_ast.specs.Circuits.{CircuitTree}
use Rattle.fir_meaning.specs.LeafPaths.{LeafPath, named}
use Rattle.fir_meaning.specs.TypeLeaves.{TypeLeaf}
use Rattle.fir_meaning.specs.TypedScopes.{Known, TypedScope}
use Rattle.fir_meaning.specs.Components.{Declarations}
use Rattle.fir_meaning.specs.ComponentTypes.{typed_scope}
use Rattle.fir_meaning.specs.working.NameGroups.{HasNames}
use Rattle.fir_meaning.specs.SizedDeclarations.{numbered_modules}
use Rattle.fir_meaning.specs.TypeGroup.{type_faults}
use Rattle.fir_meaning.specs.Visibility.{declarations}
use Rattle.fir_meaning.proofs.WellTypedCircuits.{well_typed}
use Rattle.fir_meaning.specs.ModuleScenes.{Scene}
use Rattle.fir_meaning.specs.working.LeafedModules.{module_leaves}
use Rattle.fir_leaf.specs.working.LeafLaws.{scope_paths}
use Rattle.fir_meaning.specs.FoundTypes.{leaves_of_data}
use Rattle.fir_meaning.specs.working.LeafModules.{LeafDeclared, may_drive}
use Rattle.fir_leaf.specs.working.TableLaws.{IsLeafOf}
use Rattle.fir_leaf.proofs.ClearScopes.{fine_module}
use Rattle.fir_leaf.proofs.DeclaredLeaves.{leaves_declared, own_module}
use Rattle.fir_leaf.proofs.LeafDeclarations.{leaves_follow_types}
use Rattle.fir_leaf.proofs.OwnPaths.{distinct_paths}
use Rattle.fir_leaf_table.specs.declared.frame.Frame.{Frame}
use Rattle.fir_leaf_table.specs.working.DrivenLeaves.{driven_in, may_be_driven}
use Rattle.fir_leaf_table.specs.working.Frames.{Frames}
use Rattle.fir_leaf_table.proofs.SameKeys.{HasTwin, same_values}

-- a leaf of a declaration
record Spot : Type 0 where
  known : Known
  leaf : TypeLeaf

abbrev spot_of : Known → TypeLeaf → Spot
spot_of k l = record { known = k; leaf = l }

abbrev spots_of : Known → List Spot
spots_of k = map (spot_of k) (leaves_of_data k.data_type)

abbrev spots : TypedScope → List Spot
spots scope = flat_map spots_of scope

abbrev spot_path : Spot → LeafPath
spot_path s = named s.known.name ∷ s.leaf.path

abbrev spot_driven : Spot → Bool
spot_driven s = may_be_driven s.known.flow s.leaf.flip

-- what is told of each
told : {A : Type 0} (f : Spot → A) (scope : TypedScope)
    → map f (spots scope) ≡ flat_map (λ (k : Known). map (λ (l : TypeLeaf). f (spot_of k l)) (leaves_of_data k.data_type)) scope
told f [] = refl
told f (k ∷ ks) =
    map-append f (spots_of k) (spots ks) ∙ ap (λ xs. map f (spots_of k) ++ xs) (told f ks)
    ∙ ap
    (λ xs. xs ++ flat_map (λ (k : Known). map (λ (l : TypeLeaf). f (spot_of k l)) (leaves_of_data k.data_type)) ks)
    (map-map f (spot_of k) (leaves_of_data k.data_type))

abbrev path_of : LeafDeclared → LeafPath
path_of l = l.path

abbrev drives : LeafDeclared → Bool
drives l = may_drive l.role

-- a leaf of the module is one of a declaration, which statements may drive where they may drive the leaf
spot_there : (scope : TypedScope) (ds : Declarations) (l : LeafDeclared) → IsLeafOf scope ds l
    → HasTwin path_of spot_path drives spot_driven (spots scope) l
spot_there scope ds l h = record {
  twin = spot_of h.known h.leaf;
  among =
      in_flat_map spots_of scope h.known (spot_of h.known h.leaf) (get_in scope l.declaration h.known h.is_known)
      (in_map (spot_of h.known) (leaves_of_data h.known.data_type) h.leaf h.among);
  key_is = h.path;
  value_is = h.drives;
}

pub driven_by_role : (c : CircuitTree) (s : Scene) → HasNames c → type_faults c ≡ [] → In (numbered_modules c) s.own
    → driven_in (typed_scope c.modules (declarations s.own.inside)) ≡ map (λ (l : LeafDeclared). may_drive l.role) (module_leaves s)
driven_by_role c s names types i =
    let own = own_module c s.own i in
    let ds = declarations s.own.inside in
    let scope = typed_scope c.modules ds in
    let fine = fine_module c names s.own.inside own.inside ((well_typed c names).0 types s.own.inside own.inside) in
    let paths : map path_of (module_leaves s) ≡ scope_paths scope = leaves_declared c s i in
    sym
    (same_values path_of spot_path drives spot_driven (module_leaves s) (spots scope) (paths ∙ sym (told spot_path scope))
    (subst Distinct (sym paths) (distinct_paths scope fine)) (λ l m. spot_there scope ds l (leaves_follow_types c s names types i l m))
    ∙ told spot_driven scope)

pub driven_are_sinks : (frame : Frame) (c : CircuitTree) (s : Scene) → Frames frame c s
    → driven_in (typed_scope c.modules (declarations s.own.inside)) ≡ map (λ (l : LeafDeclared). may_drive l.role) (module_leaves s)
driven_are_sinks frame c s h = driven_by_role c s h.named h.typed.clear (get_in (numbered_modules c) frame.number s.own h.scene.own)
