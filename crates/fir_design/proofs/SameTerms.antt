-- A term of a module stands for a leaf of an expression: it has its value and its clock, by paths.
use Rattle.std.proofs.Common.{◌≡◌, ℕ, List, [], ◌∷◌, slice_get, true, false, Option, Some, None, option_map, refl, sym, ap, ap₂, ◌∙◌, subst}
use Rattle.std.proofs.Math.Path.{fun_ext}
use Rattle.fir_base.proofs.Elements.{beside}
use Rattle.fir_ast.specs.Types.{DataType, uint, sint, clock, reset, async_reset, bundle, vector}
use Rattle.fir_ast.specs.Expressions.{Expression}
use Rattle.fir_ast.specs.Statements.{Reset}
use Rattle.fir_meaning.specs.Equivalence.{alike, same_ground}
use Rattle.fir_meaning.specs.LeafPaths.{LeafPath}
use Rattle.fir_meaning.specs.TypeLeaves.{TypeLeaf, ground_leaf, type_leaves}
use Rattle.fir_meaning.specs.TypedScopes.{TypedScope}
use Rattle.fir_meaning.specs.working.WellTyped.{HasType, MayReset, ResetIsLegal}
use Rattle.fir_meaning.proofs.LeafSteps.{path_of}
use Rattle.fir_leaf.specs.working.LeafLaws.{Begins, numbered}
use Rattle.fir_meaning.specs.working.Leafed.{first_term, terms}
use Rattle.fir_meaning.specs.working.LeafedBlocks.{term_at}
use Rattle.fir_meaning.specs.ModuleScenes.{Scene}
use Rattle.fir_meaning.specs.working.LeafedModules.{leaf_reset, module_leaves}
use Rattle.fir_meaning.specs.working.Terms.{Term}
use Rattle.fir_meaning.specs.working.TermValues.{eval}
use Rattle.fir_meaning.specs.TreeValues.{value}
use Rattle.fir_leaf.proofs.AlikeTypes.{alike_types}
use Rattle.fir_leaf.proofs.LeafValues.{fine_values_same}
use Rattle.fir_leaf.proofs.PairStores.{term_value}
use Rattle.fir_design.specs.working.SameRoles.{MaySameReset, SameTerm, by_number}
use Rattle.fir_meaning.specs.SourceRoles.{source_reset}
use Rattle.fir_design.proofs.ClockGifts.{clock_gives}
use Rattle.fir_design.proofs.FineScenes.{IsFineScene, leaf_path, whole_scope}

first_there : (ts : List Term) → term_at ts 0 ≡ first_term ts
first_there [] = refl
first_there (t ∷ ts) = refl

-- what may reset has one leaf
reset_leaf : (t : DataType) → MayReset t → type_leaves t ≡ ground_leaf t
reset_leaf (uint width) h = refl
reset_leaf reset h = refl
reset_leaf async_reset h = refl
reset_leaf (sint width) h = absurd (cc)
reset_leaf clock h = absurd (cc)
reset_leaf (bundle fs) h = absurd (cc)
reset_leaf (vector u n) h = absurd (cc)

module _ (s : Scene) (f : IsFineScene s) where
  by_scope : {A : Type 0} → (g : LeafPath → A) → by_number (module_leaves s) g ≡ numbered (whole_scope s) g
  by_scope g = fun_ext (λ x. ap g (leaf_path s f x))

  module _ (scope : TypedScope) (begins : Begins scope (whole_scope s)) where
    pub leaf_same : (e : Expression) (t : DataType) (k : ℕ) (l : TypeLeaf) → HasType scope e t → slice_get (type_leaves t) k ≡ Some l
        → SameTerm (module_leaves s) (term_at (terms scope e) k) scope e l.path
    leaf_same e t k l h i = record {
      number = λ holds env.
          ap₂ (λ a b. eval a b (term_at (terms scope e) k)) (by_scope holds) (by_scope env)
          ∙ term_value (eval (numbered (whole_scope s) holds) (numbered (whole_scope s) env)) (λ (x : TypeLeaf). value scope holds env e x.path)
          (terms scope e) (type_leaves t) k l (fine_values_same scope (whole_scope s) holds env begins f.fine e t h) i;
      clock = λ holds env clocks. (clock_gives holds env clocks s f []).expression scope e t k l 0 begins h i;
    }

    -- of a type that has one leaf
    pub one_same : (e : Expression) (t : DataType) → HasType scope e t → type_leaves t ≡ ground_leaf t
        → SameTerm (module_leaves s) (first_term (terms scope e)) scope e []
    one_same e t h one =
        subst (λ x. SameTerm (module_leaves s) x scope e []) (first_there (terms scope e))
        (leaf_same e t 0 (record { path = []; flip = false; ground_type = t }) h (ap (λ ls. slice_get ls 0) one))

    -- an init has the leaves of its register
    init_same : (e : Expression) (t u : DataType) (k : ℕ) (l : TypeLeaf) → HasType scope e u → alike same_ground t u ≡ true
        → slice_get (type_leaves t) k ≡ Some l → SameTerm (module_leaves s) (term_at (terms scope e) k) scope e l.path
    init_same e t u k l h alike i =
        let one = beside path_of path_of (type_leaves u) (type_leaves t) (sym (alike_types same_ground t u alike).path) k l i in
        subst (SameTerm (module_leaves s) (term_at (terms scope e) k) scope e) one.2 (leaf_same e u k one.0 h one.1)

    pub reset_same : (t : DataType) (r : Option Reset) (k : ℕ) (l : TypeLeaf) → ResetIsLegal scope t r → slice_get (type_leaves t) k ≡ Some l
        → MaySameReset (module_leaves s) (option_map (leaf_reset s.is_async scope k) r) (option_map (source_reset s scope) r) l.path
    reset_same t None k l h i = tt
    reset_same t (Some r) k l h i = record {
      is_async = refl;
      condition = one_same r.condition h.0 h.2 (reset_leaf h.0 h.3);
      init = init_same r.init t h.1 k l h.4 h.5 i;
    }
