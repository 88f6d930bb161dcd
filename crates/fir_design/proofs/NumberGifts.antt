-- The number that a term gives to a leaf is the one that is given by paths.
use Rattle.std.proofs.Common.{◌≡◌, ℕ, map, slice_get, Some, refl, ap, ap₂, ◌∙◌}
use Rattle.fir_bits.specs.Operators.{no_operand}
use Rattle.fir_ast.specs.Types.{DataType}
use Rattle.fir_ast.specs.Expressions.{Expression, reference}
use Rattle.fir_meaning.specs.Values.{fit}
use Rattle.fir_meaning.specs.LeafPaths.{LeafPath}
use Rattle.fir_meaning.specs.TypeLeaves.{TypeLeaf, type_leaves}
use Rattle.fir_meaning.specs.TypedScopes.{TypedScope}
use Rattle.fir_meaning.specs.working.WellTyped.{HasType}
use Rattle.fir_meaning.specs.working.DesignPaths.{seen}
use Rattle.fir_meaning.specs.working.DesignStores.{number_given}
use Rattle.fir_leaf.specs.working.LeafLaws.{Begins, path_at}
use Rattle.fir_meaning.specs.working.Leafed.{terms}
use Rattle.fir_meaning.specs.working.LeafedBlocks.{term_at}
use Rattle.fir_meaning.specs.ModuleScenes.{Scene}
use Rattle.fir_meaning.specs.working.LeafedModules.{leafed_module}
use Rattle.fir_meaning.specs.working.TermValues.{eval}
use Rattle.fir_meaning.specs.TreeValues.{TypesByPath, ValuesByPath, value}
use Rattle.fir_leaf.proofs.LeafValues.{fine_values_same}
use Rattle.fir_leaf.proofs.PairStores.{term_value}
use Rattle.fir_meaning.specs.SourceStores.{below, number_gifts}
use Rattle.fir_design.proofs.FineScenes.{IsFineScene, whole_scope}
use Rattle.fir_design.proofs.SeenPaths.{path_is, seen_is}
use Rattle.fir_design.proofs.SourceConnects.{Gives}

module _ (holds : TypesByPath) (env : ValuesByPath) (s : Scene) (f : IsFineScene s) (path : LeafPath) where
  expression_number : (scope : TypedScope) (e : Expression) (t : DataType) (k : ℕ) (l : TypeLeaf) (y : ℕ) → Begins scope (whole_scope s)
      → HasType scope e t → slice_get (type_leaves t) k ≡ Some l
      → number_given holds env path (leafed_module s) y (term_at (terms scope e) k)
      ≡ (number_gifts holds env path).of_expression scope e l.path (path_at (whole_scope s) y)
  expression_number scope e t k l y begins h i =
      let m = leafed_module s in
      let all = ap₂ (λ a b. map (eval a b) (terms scope e)) (seen_is s f path holds) (seen_is s f path env)
      ∙ fine_values_same scope (whole_scope s) (below path holds) (below path env) begins f.fine e t h in
      ap₂ fit
      (term_value (eval (seen path m holds) (seen path m env)) (λ (x : TypeLeaf). value scope (below path holds) (below path env) e x.path)
      (terms scope e)
      (type_leaves t) k l all i)
      (ap holds (path_is s f path y))

  pub number_gives : Gives s (number_given holds env) path (number_gifts holds env path)
  number_gives = record {
    expression = expression_number;
    sink = λ scope sink r k l y begins h i.
        expression_number scope (reference sink.place sink.name sink.parts) r.data_type k l y begins (h.0, r, h.1, h.2, refl) i;
    invalid = λ y. ap (λ p. fit no_operand (holds p)) (path_is s f path y);
  }
