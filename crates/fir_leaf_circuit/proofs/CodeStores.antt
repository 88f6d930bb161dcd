-- The statements of the code's modules store what those of the tree do.
use Rattle.std.proofs.Common.{◌≡◌, ℕ, ◌<◌, List, [], length, refl, sym, ap, ◌∙◌, subst}
use Rattle.std.proofs.lemmas.List.{length-map}
use Rattle.std.proofs.Math.ListN.{get_or-map}
use Rattle.fir_base.proofs.Elements.{get_in}
use Rattle.fir_ast.specs.Circuits.{CircuitTree}
use Rattle.fir_meaning.specs.working.NameGroups.{HasNames}
use Rattle.fir_meaning.specs.SizedDeclarations.{numbered_modules}
use Rattle.fir_meaning.specs.TypeGroup.{type_faults}
use Rattle.fir_leaf.specs.working.ChoiceLaws.{fitted_at}
use Rattle.fir_meaning.specs.working.LeafBlocks.{exec_all, nothing_stored}
use Rattle.fir_meaning.specs.working.LeafModules.{LeafDeclared, LeafModule as View, depth_at, leaf_at, no_leaf}
use Rattle.fir_meaning.specs.LeafTypes.{number_type}
use Rattle.fir_leaf.specs.working.LeafNumbers.{TermWithin}
use Rattle.fir_meaning.specs.working.LeafedModules.{leafed_module, module_leaves}
use Rattle.fir_leaf.specs.working.TableLaws.{NumbersAreLeaves, TableHasFacts, TableStores, table_facts, table_holds}
use Rattle.fir_meaning.specs.working.Terms.{Term}
use Rattle.fir_leaf.proofs.SameTables.{block_alike, value_alike}
use Rattle.fir_leaf_circuit.specs.declared.leaf_module.LeafModule.{LeafModule}
use Rattle.fir_leaf_circuit.specs.working.Leafed.{AreLeafed}
use Rattle.fir_leaf_circuit.specs.working.Seen.{HasView, leaf_seen, unnamed}
use Rattle.fir_leaf_circuit.specs.working.LeafStores.{StoreAsTheirTrees, depth_in, holds_in, leaf_of_code, values_of}

module _ (m : LeafModule) (view : View) (has : HasView m view) where
  -- a leaf of the code is that of the view, but for its path
  same_leaf : (x : ℕ) → leaf_of_code m x ≡ unnamed (leaf_at view.leaves x)
  same_leaf x = ap (λ ls. leaf_at ls x) has.leaves ∙ get_or-map unnamed view.leaves x no_leaf

  as_many : length m.leaves.items ≡ length view.leaves
  as_many = sym (length-map m.leaves.items (leaf_seen m.nodes.items)) ∙ ap length has.leaves ∙ length-map view.leaves unnamed

  same_holds : (x : ℕ) → holds_in m x ≡ table_holds view x
  same_holds x = ap (λ (l : LeafDeclared). number_type l.holds) (same_leaf x)

  same_depth : (x : ℕ) → depth_in m x ≡ depth_at view x
  same_depth x = ap (λ (l : LeafDeclared). l.depth) (same_leaf x)

pub stores_of_code : (c : CircuitTree) (ms : List LeafModule) → TableStores → TableHasFacts → NumbersAreLeaves → HasNames c → type_faults c ≡ []
    → AreLeafed c ms → StoreAsTheirTrees c ms
stores_of_code c ms stores facts numbers names types leafed module_number m s env k at scene small =
    let view = leafed_module s in
    let has = leafed.each module_number m s at scene in
    let own = get_in (numbered_modules c) module_number s.own scene.own in
    let n = length (module_leaves s) in
    let inside : k < n = subst (λ (i : ℕ). k < i) (as_many m view has) small in
    let values = values_of s env in
    let given : (x : ℕ) (t : Term) → x < n → TermWithin n t → fitted_at (holds_in m) values x t ≡ fitted_at (table_holds view) values x t =
    λ x t below within.
    rw (value_alike n (holds_in m) (table_holds view) values values (λ y h. same_holds m view has y) (λ y h. refl) t within, same_holds m view has x) refl in
    let same =
    block_alike n (holds_in m) (table_holds view) values values (λ y h. same_holds m view has y) (λ y h. refl) (depth_in m) (depth_at view)
    (λ y h. same_depth m view has y) (fitted_at (holds_in m) values) (fitted_at (table_holds view) values) given view.body [] nothing_stored nothing_stored
    (numbers c s names types own) (record { each = λ y. refl }) in
    ap (λ b. exec_all (holds_in m) (depth_in m) values (fitted_at (holds_in m) values) b [] nothing_stored k) has.body ∙ same.each k
    ∙ stores c s (table_facts (module_leaves s)) env names types own (facts c s names types own) k inside
