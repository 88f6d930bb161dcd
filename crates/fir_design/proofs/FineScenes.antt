-- What holds of the leaves and the statements of each scene of a circuit without a fault of names or types.
use Rattle.std.proofs.Common.{◌≡◌, ℕ, ◌<◌, List, [], map, length, sym, ap, ◌∙◌, subst}
use Rattle.std.specs.Prelude.{slice_index_or}
use Rattle.std.proofs.lemmas.List.{length-map}
use Rattle.std.proofs.Math.ListN.{get_or-map}
use Rattle.fir_base.specs.Lists.{In}
use Rattle.fir_ast.specs.Circuits.{CircuitTree}
use Rattle.fir_meaning.specs.LeafPaths.{LeafPath}
use Rattle.fir_meaning.specs.working.NameGroups.{HasNames}
use Rattle.fir_meaning.specs.TypedScopes.{TypedScope}
use Rattle.fir_meaning.specs.TypeGroup.{type_faults}
use Rattle.fir_meaning.specs.ComponentTypes.{typed_scope}
use Rattle.fir_meaning.specs.SizedDeclarations.{numbered_modules}
use Rattle.fir_meaning.specs.Visibility.{declarations}
use Rattle.fir_meaning.specs.working.WellTyped.{AreLegal}
use Rattle.fir_meaning.proofs.WellTypedCircuits.{well_typed}
use Rattle.fir_leaf.specs.working.LeafLaws.{IsFine, path_at, scope_paths}
use Rattle.fir_meaning.specs.working.LeafModules.{LeafDeclared, leaf_at, no_leaf}
use Rattle.fir_meaning.specs.ModuleScenes.{Scene, behind_all_ports}
use Rattle.fir_meaning.specs.working.LeafedModules.{module_leaves}
use Rattle.fir_leaf.specs.working.TableLaws.{IsLeafOf}
use Rattle.fir_leaf.proofs.ClearScopes.{fine_module}
use Rattle.fir_leaf.proofs.DeclaredLeaves.{leaves_declared, own_module}
use Rattle.fir_leaf.proofs.LeafDeclarations.{leaves_follow_types}
use Rattle.fir_leaf.proofs.OncePaths.{at_in}

-- all that the module declares
abbrev pub whole_scope : Scene → TypedScope
whole_scope s = typed_scope s.own.modules (declarations s.own.inside)

pub record IsFineScene (s : Scene) : Type 0 where
  pub legal : AreLegal s.own.modules (behind_all_ports s.own.inside) s.own.inside.body
  pub fine : IsFine (whole_scope s)
  pub paths : map (λ (l : LeafDeclared). l.path) (module_leaves s) ≡ scope_paths (whole_scope s)
  pub follow : (l : LeafDeclared) → In (module_leaves s) l → IsLeafOf (whole_scope s) (declarations s.own.inside) l

pub fine_scene : (c : CircuitTree) (s : Scene) → HasNames c → type_faults c ≡ [] → In (numbered_modules c) s.own → IsFineScene s
fine_scene c s names types i =
    let own = own_module c s.own i in
    let legal = (well_typed c names).0 types s.own.inside own.inside in
    let same = sym own.modules in
    record {
      legal = subst (λ ms. AreLegal ms (behind_all_ports s.own.inside) s.own.inside.body) same legal;
      fine = subst (λ ms. IsFine (typed_scope ms (declarations s.own.inside))) same (fine_module c names s.own.inside own.inside legal);
      paths = leaves_declared c s i ∙ ap (λ ms. scope_paths (typed_scope ms (declarations s.own.inside))) same;
      follow = λ l m.
          subst (λ ms. IsLeafOf (typed_scope ms (declarations s.own.inside)) (declarations s.own.inside) l) same
          (leaves_follow_types c s names types i l m);
    }

module _ (s : Scene) (f : IsFineScene s) where
  pub leaves_long : length (module_leaves s) ≡ length (scope_paths (whole_scope s))
  leaves_long = sym (length-map (module_leaves s) (λ (l : LeafDeclared). l.path)) ∙ ap length f.paths

  pub leaf_path : (x : ℕ) → (leaf_at (module_leaves s) x).path ≡ path_at (whole_scope s) x
  leaf_path x = sym (get_or-map (λ (l : LeafDeclared). l.path) (module_leaves s) x no_leaf)
      ∙ ap (λ (ps : List LeafPath). slice_index_or ps x []) f.paths

  pub leaf_is : (x : ℕ) → x < length (module_leaves s) → IsLeafOf (whole_scope s) (declarations s.own.inside) (leaf_at (module_leaves s) x)
  leaf_is x lt = f.follow (leaf_at (module_leaves s) x) (at_in (module_leaves s) no_leaf x lt)
