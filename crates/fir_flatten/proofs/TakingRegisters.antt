-- A register of a design takes a value in its circuit exactly where it takes one in the module that declares it.
use Rattle.std.proofs.Common.{◌≡◌, ℕ, ◌<◌, [], ◌++◌, length, slice_get, true, ◌||◌, Option, Some, None, refl, sym, ap, ap₂, ◌∙◌, subst, append-nil, arith, ⊎_elim}
use Rattle.std.proofs.lemmas.Option.{slice_get_within}
use Rattle.fir_base.specs.Lists.{In}
use Rattle.fir_ast.specs.Circuits.{CircuitTree}
use Rattle.fir_meaning.specs.LeafPaths.{LeafPath}
use Rattle.fir_meaning.specs.ModuleScenes.{Scene, behind_all_ports}
use Rattle.fir_meaning.specs.SourceCircuits.{PlacedLeaf, all_leaves}
use Rattle.fir_meaning.specs.SourceDependence.{PlacedModule, all_modules}
use Rattle.fir_meaning.specs.SourceDesigns.{Instances, SourceDesign}
use Rattle.fir_meaning.specs.SourceDesigns as source
use Rattle.fir_meaning.specs.SourceRoles as tree
use Rattle.fir_meaning.specs.SourceRoles.{SourceReset, SourceRole}
use Rattle.fir_meaning.specs.TakingRegisters as by_path
use Rattle.fir_meaning.specs.working.Designs.{Design, Items, made_of}
use Rattle.fir_meaning.specs.working.Flattened.{flattened}
use Rattle.fir_meaning.specs.working.LeafCircuits.{LeafCircuit, role_of}
use Rattle.fir_meaning.specs.working.LeafModules.{LeafModule, LeafReset, Role, computed, leaf_at, may_drive, pipe, reading, register, sink, role_at}
use Rattle.fir_meaning.specs.working.LeafModules as over
use Rattle.fir_meaning.specs.working.LeafedModules.{leafed_module, module_leaves}
use Rattle.fir_meaning.specs.working.Numberings.{Numbering, moved_role}
use Rattle.fir_meaning.specs.working.Terms.{Term}
use Rattle.fir_meaning.specs.working.UndrivenChoices.{drives_any}
use Rattle.fir_connect.specs.working.CircuitModules.{as_module}
use Rattle.fir_design.specs.working.MeaningLaws.{AreDesigns}
use Rattle.fir_design.proofs.FineScenes.{IsFineScene}
use Rattle.fir_design.proofs.FlatInStep.{each_leaf, many_leaves}
use Rattle.fir_design.proofs.InStep.{MaySameResetBelow, SameRoleBelow}
use Rattle.fir_design.proofs.ViewRoles.{views_same}
use Rattle.fir_source_faults.specs.working.NumberedTaking as numbered
use Rattle.fir_source_faults.specs.working.ReadsByPath.{path_in, scope_of_module}
use Rattle.fir_source_faults.proofs.BlockPieces.{block_piece}
use Rattle.fir_source_faults.proofs.ModuleReads.{scene_reads}
use Rattle.fir_design_faults.proofs.LeafNumbers.{leaf_numbered}
use Rattle.fir_design_faults.proofs.ModulesOnce.{modules_once}
use Rattle.fir_design_faults.proofs.WholeDesigns.{module_fine}
use Rattle.fir_flatten.proofs.DrivenLeaves.{driven_in_module}

-- a leaf takes a value in the circuit where it does in the module of its instance, and there is one
pub record SameTaking (g : LeafCircuit) (t : SourceDesign) (x : ℕ) (p : PlacedLeaf) : Type 0 where
  pub holder : PlacedModule
  pub among : In (all_modules t) holder
  pub is_at : holder.at ≡ p.at
  pub takes : (h : PlacedModule) → In (all_modules t) h → h.at ≡ p.at → numbered.takes (as_module g) x ≡ by_path.takes_value h.scene p.leaf

-- by a path, the statements of a module drive what they drive by its number
driven_by_path : (s : Scene) → IsFineScene s → (y : ℕ) → y < length (module_leaves s) → drives_any y (leafed_module s).body ≡ by_path.is_driven s (path_in s y)
driven_by_path s fine y lt =
    (block_piece s fine 0 y (scene_reads s fine) lt s.own.inside.body (behind_all_ports s.own.inside) [] [] 0 refl ([], append-nil (scope_of_module s))
    fine.legal).holds

reset_same : (g : LeafCircuit) (at : LeafPath) (r : Option LeafReset) (q : Option SourceReset) (path : LeafPath) → MaySameResetBelow g at r q path
    → numbered.has_reset r ≡ by_path.has_reset q
reset_same g at None None path h = refl
reset_same g at (Some r) (Some q) path h = refl
reset_same g at None (Some q) path h = absurd h
reset_same g at (Some r) None path h = absurd h

-- what is moved to a register is one
moved_may : (n : Numbering) (k : ℕ) (r : Role) (clock : Term) (reset : Option LeafReset) → moved_role n k r ≡ register clock reset → may_drive r ≡ true
moved_may n k over.source clock reset e = cc
moved_may n k sink clock reset e = refl
moved_may n k (computed t) clock reset e = cc
moved_may n k (register c r) clock reset e = refl
moved_may n k (reading r) clock reset e = cc
moved_may n k (pipe r c u) clock reset e = cc

module _ (c : CircuitTree) (s : Scene) (is : Items) (trees : Instances) (a : AreDesigns c (made_of (leafed_module s) is) (source.made_of s trees)) where
  abbrev m : LeafModule
  m = leafed_module s

  abbrev g : LeafCircuit
  g = flattened (made_of (leafed_module s) is)

  abbrev t : SourceDesign
  t = source.made_of s trees

  module _ (x : ℕ) (p : PlacedLeaf) (get : slice_get (all_leaves (source.made_of s trees)) x ≡ Some p) where
    driven_there : (clock : Term) (reset : Option LeafReset) → role_of g x ≡ register clock reset → (h : PlacedModule) → In (all_modules t) h → h.at ≡ p.at
        → drives_any x g.body ≡ by_path.is_driven h.scene p.leaf.path
    driven_there clock reset role h i at =
        let n = leaf_numbered c s is trees a x p get in
        let lt : x < length g.leaves = omega (arith, slice_get_within (all_leaves t) x p get, many_leaves c views_same (made_of m is) t a) in
        let one : n.holder ≡ h = modules_once c a.names a.types a.scenes a.are t a.main a.among a.tree [] n.holder h n.among i (n.at ∙ sym at) in
        let may : may_drive (leaf_at (module_leaves n.holder.scene) n.leaf).role ≡ true =
        ⊎_elim
        (λ (e : role_of g x ≡ (leaf_at (module_leaves n.holder.scene) n.leaf).role). ap may_drive (sym e ∙ role))
        (λ (e : (v : Numbering) × (k : ℕ) × (role_of g x ≡ moved_role v k (leaf_at (module_leaves n.holder.scene) n.leaf).role)).
        moved_may e.0 e.1 (leaf_at (module_leaves n.holder.scene) n.leaf).role clock reset (sym e.2 ∙ role)) n.role in
        driven_in_module c m is t a n.holder n.among n.leaf n.inside may x lt
        (ap₂ (λ (q r : LeafPath). q ++ r) n.at n.path ∙ sym (each_leaf c views_same (made_of m is) t a x p get).path)
        ∙ driven_by_path n.holder.scene (module_fine c m is t a n.holder n.among) n.leaf n.inside
        ∙ ap₂ (λ (o : PlacedModule) (q : LeafPath). by_path.is_driven o.scene q) one n.path

    takes_there : (h : PlacedModule) → In (all_modules t) h → h.at ≡ p.at → (r : Role) → role_of g x ≡ r → (q : SourceRole) → SameRoleBelow g p.at r q
        → numbered.takes_by (drives_any x g.body) r ≡ by_path.takes_by (by_path.is_driven h.scene p.leaf.path) q
    takes_there h i at (register clock reset) role (tree.register scope e own q) same =
        ap₂ (λ b d. b || d) (driven_there clock reset role h i at) (reset_same g p.at reset own q same.1)
    takes_there h i at (register clock reset) role q same = absurd same
    takes_there h i at r role (tree.register scope e own q) same = absurd same
    takes_there h i at r role q same = refl

    same_there : SameTaking g t x p
    same_there =
        let n = leaf_numbered c s is trees a x p get in
        record {
          holder = n.holder;
          among = n.among;
          is_at = n.at;
          takes = λ h i at. takes_there h i at (role_of g x) refl p.leaf.role (each_leaf c views_same (made_of m is) t a x p get).role;
        }

module _ (c : CircuitTree) where
  abbrev TakesSame : Design → SourceDesign → Type 0
  TakesSame d t = AreDesigns c d t → (x : ℕ) (p : PlacedLeaf) → slice_get (all_leaves t) x ≡ Some p → SameTaking (flattened d) t x p

  pub same_taking : (d : Design) (t : SourceDesign) → TakesSame d t
  same_taking (made_of v is) (source.made_of u trees) a =
      subst (λ (w : LeafModule). TakesSame (made_of w is) (source.made_of u trees)) (sym a.design.is.0)
      (subst (λ (z : Scene). TakesSame (made_of (leafed_module a.main) is) (source.made_of z trees)) (sym a.tree.0) (λ b. same_there c a.main is trees b)) a
