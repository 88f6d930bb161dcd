-- The clock that a term gives is the one that is given by paths: that of a leaf which a reference names, and none of anything else.
use Rattle.std.proofs.Common.{◌≡◌, ℕ, zero, suc, ◌+◌, List, [], ◌∷◌, map, slice_get, Option, Some, None, option_map, refl, sym, ap, ◌∙◌, arith}
use Rattle.std.proofs.lemmas.Option.{none-some, same_Some}
use Rattle.fir_ast.specs.Types.{DataType}
use Rattle.fir_ast.specs.Expressions.{Expression, reference, literal, operation, mux, validif}
use Rattle.fir_ast.specs.Statements.{SinkReference}
use Rattle.fir_meaning.specs.LeafPaths.{LeafPath}
use Rattle.fir_meaning.specs.Reaching.{Reached}
use Rattle.fir_meaning.specs.TypeLeaves.{TypeLeaf, type_leaves}
use Rattle.fir_meaning.specs.TypedScopes.{TypedScope}
use Rattle.fir_meaning.specs.working.WellTyped.{HasType, Reaches}
use Rattle.fir_meaning.specs.working.DesignPaths.{seen}
use Rattle.fir_meaning.specs.working.DesignStores.{clock_given}
use Rattle.fir_leaf.specs.working.LeafLaws.{Begins, path_at}
use Rattle.fir_meaning.specs.working.Leafed.{first_term, leaf_term, leaf_terms, muxes, target_of, target_terms, terms}
use Rattle.fir_meaning.specs.working.LeafedBlocks.{term_at}
use Rattle.fir_meaning.specs.ModuleScenes.{Scene}
use Rattle.fir_meaning.specs.working.LeafedModules.{leafed_module}
use Rattle.fir_leaf.specs.working.Standing.{leaf_from}
use Rattle.fir_meaning.specs.working.Targets.{Target}
use Rattle.fir_meaning.specs.working.Terms.{Picks, Term}
use Rattle.fir_meaning.specs.working.Terms as over
use Rattle.fir_meaning.specs.working.TermValues.{clock_at, leaf_of}
use Rattle.fir_meaning.specs.TreeValues.{TypesByPath, ValuesByPath, aim_of, leaf_where}
use Rattle.fir_leaf.proofs.LeafValues.{reaches_stands}
use Rattle.fir_meaning.specs.SourceStores.{below, clock_gifts, clock_where}
use Rattle.fir_design.proofs.FineScenes.{IsFineScene, whole_scope}
use Rattle.fir_design.proofs.KeptLeaves.{standing_named}
use Rattle.fir_design.proofs.SeenPaths.{path_is}
use Rattle.fir_design.proofs.SourceConnects.{Gives}

-- the term of a leaf of a target
term_there : (r : Target) (j : ℕ) (ls : List TypeLeaf) (k : ℕ) (l : TypeLeaf) → slice_get ls k ≡ Some l
    → term_at (leaf_terms r j ls) k ≡ leaf_term r.base r.picks (j + k) l.ground_type
term_there r j [] k l e = absurd (none-some l e)
term_there r j (x ∷ ls) zero l e =
    let none : j ≡ j + 0 = omega arith in
    let same : x ≡ l = same_Some x l e in
    rw (same, ← none) refl
term_there r j (x ∷ ls) (suc k) l e = let next : suc j + k ≡ j + suc k = omega arith in rw (← next) (term_there r (suc j) ls k l e)

module _ (holds : TypesByPath) (env : ValuesByPath) (clocks : LeafPath → Option ℕ) (s : Scene) (f : IsFineScene s) (path : LeafPath) where
  abbrev gives_clock : Term → Option ℕ
  gives_clock = clock_given holds env clocks path (leafed_module s) 0

  clock_there : (o : Option ℕ) → clock_at o (seen path (leafed_module s) clocks)
      ≡ clock_where (below path clocks) (option_map (path_at (whole_scope s)) o)
  clock_there None = refl
  clock_there (Some k) = ap clocks (path_is s f path k)

  leaf_clock : (base : Option ℕ) (ps : Picks) (k : ℕ) (ground : DataType)
      → gives_clock (leaf_term base ps k ground)
      ≡ clock_where (below path clocks)
      (option_map (path_at (whole_scope s)) (leaf_from (seen path (leafed_module s) holds) (seen path (leafed_module s) env) base ps k))
  leaf_clock None ps k ground = refl
  leaf_clock (Some b) ps k ground = clock_there (leaf_of (seen path (leafed_module s) holds) (seen path (leafed_module s) env) (b + k) ps)

  sink_clock : (scope : TypedScope) (sink : SinkReference) (r : Reached) (k : ℕ) (l : TypeLeaf) → Begins scope (whole_scope s) → Reaches scope sink r
      → slice_get (type_leaves r.data_type) k ≡ Some l
      → gives_clock (term_at (target_terms (target_of scope sink)) k)
      ≡ clock_where (below path clocks) (leaf_where (aim_of scope (below path holds) (below path env) sink).at l.path)
  sink_clock scope sink r k l begins h i =
      let met = reaches_stands scope (whole_scope s) (below path holds) (below path env) begins sink r h in
      let target = target_of scope sink in
      let aim = aim_of scope (below path holds) (below path env) sink in
      let there : slice_get (type_leaves target.data_type) k ≡ Some l = ap (λ t. slice_get (type_leaves t) k) met.data_type ∙ i in
      let named = standing_named s path holds env f target aim met.stands in
      let none : 0 + k ≡ k = omega arith in
      ap gives_clock (term_there target 0 (type_leaves target.data_type) k l there
      ∙ ap (λ n. leaf_term target.base target.picks n l.ground_type) none)
      ∙ leaf_clock target.base target.picks k l.ground_type ∙ ap (clock_where (below path clocks)) (sym (named.at k l there))

  -- terms of anything else give none
  nothing_there : (k : ℕ) → gives_clock (term_at [] k) ≡ None
  nothing_there k = refl

  one_none : (t : Term) → gives_clock t ≡ None → (k : ℕ) → gives_clock (term_at (t ∷ []) k) ≡ None
  one_none t h zero = h
  one_none t h (suc k) = nothing_there k

  muxes_none : (t : Term) (firsts seconds : List Term) (k : ℕ) → gives_clock (term_at (muxes t firsts seconds) k) ≡ None
  muxes_none t [] seconds k = nothing_there k
  muxes_none t (a ∷ firsts) [] k = nothing_there k
  muxes_none t (a ∷ firsts) (b ∷ seconds) zero = refl
  muxes_none t (a ∷ firsts) (b ∷ seconds) (suc k) = muxes_none t firsts seconds k

  validifs_none : (t : Term) (ts : List Term) (k : ℕ) → gives_clock (term_at (map (over.validif t) ts) k) ≡ None
  validifs_none t [] k = nothing_there k
  validifs_none t (a ∷ ts) zero = refl
  validifs_none t (a ∷ ts) (suc k) = validifs_none t ts k

  expression_clock : (scope : TypedScope) (e : Expression) (t : DataType) (k : ℕ) (l : TypeLeaf) (y : ℕ) → Begins scope (whole_scope s)
      → HasType scope e t
      → slice_get (type_leaves t) k ≡ Some l
      → clock_given holds env clocks path (leafed_module s) y (term_at (terms scope e) k)
      ≡ (clock_gifts holds env clocks path).of_expression scope e l.path (path_at (whole_scope s) y)
  expression_clock scope (reference p n ps) t k l y begins h i =
      sink_clock scope (record { place = p; name = n; parts = ps }) h.1 k l begins (h.0, h.2, h.3)
      (ap (λ u. slice_get (type_leaves u) k) (sym h.4) ∙ i)
  expression_clock scope (literal x) t k l y begins h i = one_none (over.literal x) refl k
  expression_clock scope (operation p op es ks) t k l y begins h i = one_none _ refl k
  expression_clock scope (mux p c a b) t k l y begins h i = muxes_none (first_term (terms scope c)) (terms scope a) (terms scope b) k
  expression_clock scope (validif p c a) t k l y begins h i = validifs_none (first_term (terms scope c)) (terms scope a) k

  pub clock_gives : Gives s (clock_given holds env clocks) path (clock_gifts holds env clocks path)
  clock_gives = record {
    expression = expression_clock;
    sink = λ scope sink r k l y begins h i. sink_clock scope sink r k l begins h i;
    invalid = λ y. refl;
  }
