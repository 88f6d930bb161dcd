-- The names of a flat net can be written where those of its circuit can: its leaves and arrays have the paths of those of the tree.
use Rattle.std.proofs.Common.{◌≡◌, ℕ, [], ◌++◌, Some, slice_get, sym, ap, ap₂, ◌∙◌, subst, arith}
use Rattle.std.proofs.lemmas.Option.{get_or_from_slice_get, slice_get_within}
use Rattle.std.specs.Prelude.{IsTrue}
use Rattle.ver_words.specs.Names.{is_word}
use Rattle.fir_base.proofs.Each.{all_from}
use Rattle.fir_base.proofs.Elements.{get_in, number_of, there}
use Rattle.fir_ast.specs.Circuits.{CircuitTree}
use Rattle.fir_meaning.specs.LeafPaths.{LeafPath}
use Rattle.fir_meaning.specs.SourceCircuits.{all_arrays, array_path}
use Rattle.fir_meaning.specs.SourceDesigns.{SourceDesign}
use Rattle.fir_meaning.specs.working.Designs.{Design}
use Rattle.fir_meaning.specs.working.Flattened.{flattened}
use Rattle.fir_meaning.specs.working.LeafModules.{LeafArray, no_leaf}
use Rattle.fir_meaning.specs.working.LeafedModules.{module_leaves}
use Rattle.fir_leaf.specs.working.DesignStates.{array_at, no_array}
use Rattle.fir_leaf.specs.working.SoundDesigns.{circuit_path}
use Rattle.fir_leaf.specs.working.TableLaws.{LeavesFollowTypes}
use Rattle.fir_leaf.proofs.OncePaths.{at_in}
use Rattle.fir_design.specs.working.MeaningLaws.{AreDesigns}
use Rattle.fir_design.proofs.LeavesInStep.{leaf_there}
use Rattle.fir_design.proofs.NumberedScenes.{scene_numbered}
use Rattle.fir_design.proofs.SourceMeanings.{in_step}
use Rattle.fir_design_faults.proofs.DesignScenes.{design_scenes}
use Rattle.fir_net.specs.Paths.{base_name}
use Rattle.fir_net.specs.declared.array.Array.{Array}
use Rattle.fir_net.specs.declared.leaf.Leaf.{Leaf}
use Rattle.fir_net.specs.declared.net.FlatNet.{FlatNet}
use Rattle.fir_net.specs.working.WordNames.{HasWordNames}
use Rattle.fir_flat.proofs.FlatLeaves.{leaf_inside}
use Rattle.fir_flatten.specs.working.Words.{HasWords}
use Rattle.fir_flatten.proofs.ArrayWords.{array_words}
use Rattle.fir_flatten.proofs.InstanceWords.{module_words}
use Rattle.fir_flatten.proofs.LeafWords.{leaf_words_of}
use Rattle.fir_flatten.proofs.LeavesOfModules.{leaf_of_module}
use Rattle.fir_flatten.proofs.PlainNets.{IsPlainNet}
use Rattle.fir_flatten.proofs.WordTexts.{IsWordPath, path_behind, path_word}

module _ (follow : LeavesFollowTypes) (c : CircuitTree) (d : Design) (t : SourceDesign) (a : AreDesigns c d t) (ports : ℕ) (net : FlatNet)
    (is : IsPlainNet (flattened d) ports net) (words : HasWords c) where
  -- by its number in the module that declares it, behind the names of instances
  path_is_word : (x : ℕ) (l : Leaf) → slice_get net.leaves x ≡ Some l → IsWordPath (circuit_path (flattened d) x)
  path_is_word x l at =
      let g = flattened d in
      let step = in_step c d t a in
      let p = leaf_there g t step x (leaf_inside g net is.flat x l at) in
      let n = leaf_of_module c d t a x p.0 p.1 in
      let s = n.holder.scene in
      let numbered = scene_numbered c a.scenes a.are s (design_scenes a.scenes t a.main [] a.among a.tree n.holder n.among) in
      let own = leaf_words_of follow c s words a.names a.types numbered _ (at_in (module_leaves s) no_leaf n.leaf n.inside) in
      let at_words = module_words c words a.scenes a.are t a.main a.among a.tree [] tt n.holder n.among in
      subst IsWordPath (ap₂ (λ (q r : LeafPath). q ++ r) n.at n.path ∙ sym (step.each x p.0 p.1).path) (path_behind n.holder.at _ at_words own)

  leaf_word : (x : ℕ) (l : Leaf) → slice_get net.leaves x ≡ Some l → IsTrue (is_word (base_name l.path))
  leaf_word x l at =
      subst (λ p. IsTrue (is_word (base_name p))) (sym (is.named.paths x l at)) (path_word (circuit_path (flattened d) x) (path_is_word x l at))

  -- so it is with the arrays
  array_word : (k : ℕ) (x : Array) → slice_get net.arrays k ≡ Some x → IsTrue (is_word (base_name x.path))
  array_word k x at =
      let g = flattened d in
      let step = in_step c d t a in
      let inside = slice_get_within net.arrays k x at in
      let m = there g.arrays k (omega (arith, inside, is.flat.array_count)) in
      let p = there (all_arrays t) k (omega (arith, inside, is.flat.array_count, step.many_arrays)) in
      let held : array_at g.arrays k ≡ m.0 = get_or_from_slice_get g.arrays k m.0 no_array m.1 in
      let path : m.0.path ≡ array_path p.0 = ap (λ (z : LeafArray). z.path) (sym held) ∙ (step.each_array k p.0 p.1).path in
      let own : IsWordPath (array_path p.0) =
      array_words c words a.scenes a.are t a.main a.among a.tree [] tt p.0 (get_in (all_arrays t) k p.0 p.1) in
      subst (λ q. IsTrue (is_word (base_name q))) (sym (is.array_paths k x m.0 at m.1)) (path_word m.0.path (subst IsWordPath (sym path) own))

  pub flat_words : net.name ≡ c.named.name → HasWordNames net
  flat_words named = record {
    word = subst (λ name. IsTrue (is_word name)) (sym named) words.own;
    leaves = all_from (λ l. IsTrue (is_word (base_name l.path))) net.leaves (λ l among. let n = number_of net.leaves l among in leaf_word n.0 l n.1);
    arrays =
        all_from (λ x. IsTrue (is_word (base_name x.path))) net.arrays (λ x among. let n = number_of net.arrays x among in array_word n.0 x n.1);
  }
