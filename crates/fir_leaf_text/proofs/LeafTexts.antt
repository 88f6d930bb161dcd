-- The text that the code writes is that of the leaf, in each scene of the module.
use Rattle.std.proofs.Common.{◌≡◌, ◌==◌, ℕ, ◌<◌, ◌≤◌, List, [], count_by, get_or, length, take, Some, refl, ap, sym, subst, ◌∙◌, arith}
use Rattle.std.specs.Prelude.{slice_get}
use Rattle.std.proofs.lemmas.Option.{slice_get_read}
use Rattle.fir_ast.specs.declared.circuit.Circuit.{Circuit}
use Rattle.fir_ast.specs.Circuits.{CircuitTree}
use Rattle.fir_ast.specs.working.Views.{circuit_of}
use Rattle.fir_meaning.specs.working.LeafModules.{leaf_at}
use Rattle.fir_meaning.specs.working.LeafedModules.{module_leaves}
use Rattle.fir_leaf.specs.working.TableLaws.{LeavesAreDeclared}
use Rattle.fir_leaf_circuit.specs.declared.leaf.Leaf.{Leaf}
use Rattle.fir_leaf_circuit.specs.declared.leaf_module.LeafModule.{LeafModule}
use Rattle.fir_leaf_circuit.specs.working.Leafed.{AreLeafed}
use Rattle.fir_leaf_text.specs.working.DeclaredLeaves.{WritesDeclaredLeaf}
use Rattle.fir_leaf_text.specs.working.TextsOfLeaves.{IsTextOf}
use Rattle.fir_leaf_text.proofs.SceneLeaves.{module_there}
use Rattle.fir_leaf_text.proofs.SeenNumbers.{as_many, leaf_of_code}

module _ (c : CircuitTree) (ms : List LeafModule) (leafed : AreLeafed c ms) (module_number leaf : ℕ) (text : List ℕ) where
  -- where there is no such module there is no such leaf
  pub no_module : length ms ≤ module_number → IsTextOf c module_number leaf text
  no_module past = λ s scene within. absurd (omega (arith, module_there c module_number s.own scene.own, leafed.count))

  module _ (m : LeafModule) (there : slice_get ms module_number ≡ Some m) where
    pub no_leaf : length m.leaves.items ≤ leaf → IsTextOf c module_number leaf text
    no_leaf past = λ s scene within. absurd (omega (arith, as_many m s (leafed.each module_number m s there scene)))

    pub text_is : LeavesAreDeclared → (of : Leaf) → slice_get m.leaves.items leaf ≡ Some of → (number : ℕ)
        → number ≡ count_by (λ (l : Leaf). l.declaration == of.declaration) (take leaf m.leaves.items)
        → WritesDeclaredLeaf c module_number of.declaration number [] text → IsTextOf c module_number leaf text
    text_is law of at number counted writes = λ s scene within.
        writes (leaf_at (module_leaves s) leaf).path
        (leaf_of_code m s (leafed.each module_number m s there scene) law c module_number scene leaf of at number counted within)

-- the code reads a leaf of the module, counts those before it, and writes behind nothing
pub leaf_read : (m : LeafModule) (leaves : List Leaf) (leaf : ℕ) (of : Leaf) → leaves ≡ m.leaves.items → leaf < length leaves → of ≡ get_or leaves leaf of
    → slice_get m.leaves.items leaf ≡ Some of
leaf_read m leaves leaf of same within at = ap (λ ls. slice_get ls leaf) (sym same) ∙ slice_get_read leaves (length leaves) leaf of refl within at

pub leaves_counted : (m : LeafModule) (leaves : List Leaf) (leaf declaration number : ℕ) → leaves ≡ m.leaves.items
    → number ≡ count_by (λ (l : Leaf). l.declaration == declaration) (take leaf leaves)
    → number ≡ count_by (λ (l : Leaf). l.declaration == declaration) (take leaf m.leaves.items)
leaves_counted m leaves leaf declaration number same counted =
    counted ∙ ap (λ ls. count_by (λ (l : Leaf). l.declaration == declaration) (take leaf ls)) same

pub writes_text : (read tree : Circuit) (module_number position number : ℕ) (old new text : List ℕ) → read ≡ tree → old ≡ [] → text ≡ new
    → WritesDeclaredLeaf (circuit_of read) module_number position number old new → WritesDeclaredLeaf (circuit_of tree) module_number position number [] text
writes_text read tree module_number position number old new text same none is writes =
    subst (λ t. WritesDeclaredLeaf (circuit_of t) module_number position number [] text) same
    (subst (λ l. WritesDeclaredLeaf (circuit_of read) module_number position number l text) none
    (subst (λ l. WritesDeclaredLeaf (circuit_of read) module_number position number old l) (sym is) writes))
