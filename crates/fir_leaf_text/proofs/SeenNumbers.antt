-- A leaf of the code is one of what its module declares: the view of the module has the declarations of the code's leaves.
use Rattle.std.proofs.Common.{◌≡◌, ◌==◌, ℕ, ◌<◌, List, [], ◌∷◌, count_by, length, map, take, Some, refl, ap, sym, ◌∙◌, subst}
use Rattle.std.specs.Prelude.{slice_get}
use Rattle.std.proofs.lemmas.List.{length-map}
use Rattle.std.proofs.lemmas.Option.{get_or_from_slice_get, same_Some}
use Rattle.fir_base.proofs.Elements.{there}
use Rattle.fir_ast.specs.Circuits.{CircuitTree}
use Rattle.fir_meaning.specs.working.LeafModules.{LeafDeclared, leaf_at, no_leaf}
use Rattle.fir_meaning.specs.LeafPaths.{LeafPath}
use Rattle.fir_meaning.specs.ModuleScenes.{Scene}
use Rattle.fir_meaning.specs.working.LeafedModules.{leafed_module, module_leaves}
use Rattle.fir_meaning.specs.Scenes.{IsSceneOf}
use Rattle.fir_leaf.specs.declared.node.Node.{Node}
use Rattle.fir_leaf.specs.working.TableLaws.{LeavesAreDeclared}
use Rattle.fir_leaf.proofs.LeafPlaces.{get_mapped}
use Rattle.fir_leaf_circuit.specs.declared.leaf.Leaf.{Leaf}
use Rattle.fir_leaf_circuit.specs.declared.leaf_module.LeafModule.{LeafModule}
use Rattle.fir_leaf_circuit.specs.working.Seen.{HasView, leaves_seen, unnamed}
use Rattle.fir_leaf_text.specs.working.DeclaredLeaves.{IsDeclaredLeaf}
use Rattle.fir_leaf_text.proofs.NumberedLeaves.{number_of}
use Rattle.fir_leaf_text.proofs.PlacedLeaves.{same_before}
use Rattle.fir_leaf_text.proofs.SceneLeaves.{counted_by_number, is_declared_leaf}

abbrev declaration_of : Leaf → ℕ
declaration_of l = l.declaration

seen_numbers : (nodes : List Node) (ls : List Leaf) → map number_of (leaves_seen nodes ls) ≡ map declaration_of ls
seen_numbers nodes [] = refl
seen_numbers nodes (l ∷ ls) = ap (λ ns. l.declaration ∷ ns) (seen_numbers nodes ls)

unnamed_numbers : (ls : List LeafDeclared) → map number_of (map unnamed ls) ≡ map number_of ls
unnamed_numbers [] = refl
unnamed_numbers (l ∷ ls) = ap (λ ns. l.declaration ∷ ns) (unnamed_numbers ls)

module _ (m : LeafModule) (s : Scene) (view : HasView m (leafed_module s)) where
  same_numbers : map declaration_of m.leaves.items ≡ map number_of (module_leaves s)
  same_numbers = sym (seen_numbers m.nodes.items m.leaves.items) ∙ ap (map number_of) view.leaves ∙ unnamed_numbers (module_leaves s)

  pub as_many : length m.leaves.items ≡ length (module_leaves s)
  as_many =
      sym (length-map m.leaves.items declaration_of) ∙ ap length same_numbers ∙ length-map (module_leaves s) number_of

  module _ (law : LeavesAreDeclared) (c : CircuitTree) (module_number : ℕ) (scene : IsSceneOf c module_number s) (leaf : ℕ) (of : Leaf)
      (at : slice_get m.leaves.items leaf ≡ Some of) where
    same_declaration : (l : LeafDeclared) → slice_get (module_leaves s) leaf ≡ Some l → l.declaration ≡ of.declaration
    same_declaration l there =
        same_Some l.declaration of.declaration
        (sym (get_mapped number_of (module_leaves s) leaf l there) ∙ ap (λ ns. slice_get ns leaf) (sym same_numbers)
        ∙ get_mapped declaration_of m.leaves.items leaf of at)

    pub leaf_of_code : (number : ℕ) → number ≡ count_by (λ (l : Leaf). l.declaration == of.declaration) (take leaf m.leaves.items)
        → leaf < length (module_leaves s) → IsDeclaredLeaf c module_number of.declaration number (leaf_at (module_leaves s) leaf).path
    leaf_of_code number counted within =
        let ls = module_leaves s in
        let l = there ls leaf within in
        let same = same_declaration l.0 l.1 in
        let many : same_before (map number_of ls) (l.0).declaration leaf ≡ number =
        ap (λ ns. same_before ns (l.0).declaration leaf) (sym same_numbers) ∙ ap (λ d. same_before (map declaration_of m.leaves.items) d leaf) same
        ∙ sym (counted ∙ counted_by_number declaration_of of.declaration leaf m.leaves.items) in
        let path : (l.0).path ≡ (leaf_at ls leaf).path =
        ap (λ (x : LeafDeclared). x.path) (sym (get_or_from_slice_get ls leaf l.0 no_leaf l.1)) in
        subst (λ (p : LeafPath). IsDeclaredLeaf c module_number of.declaration number p) path
        (subst (λ n. IsDeclaredLeaf c module_number of.declaration n (l.0).path) many
        (subst (λ d. IsDeclaredLeaf c module_number d (same_before (map number_of ls) (l.0).declaration leaf) (l.0).path) same
        (is_declared_leaf law c module_number s scene.own leaf l.0 l.1)))
