-- A leaf circuit and a tree of designs go in step: leaf by leaf, array by array, in one order, and their statements store the same.
use Rattle.std.proofs.Common.{◌≡◌, ℕ, ◌<◌, List, ◌∷◌, [], length, map, Option, Some, None}
use Rattle.std.specs.Prelude.{slice_get}
use Rattle.fir_base.specs.Lists.{In}
use Rattle.fir_ast.specs.Expressions.{Expression}
use Rattle.fir_meaning.specs.LeafPaths.{LeafPath}
use Rattle.fir_meaning.specs.TypedScopes.{TypedScope}
use Rattle.fir_leaf.specs.working.ChoiceLaws.{fitted_at}
use Rattle.fir_leaf.specs.working.DesignLaws.{numbered}
use Rattle.fir_leaf.specs.working.DesignStates.{array_at}
use Rattle.fir_meaning.specs.PathStores.{nothing_kept}
use Rattle.fir_meaning.specs.working.LeafBlocks.{exec_all, nothing_stored}
use Rattle.fir_meaning.specs.working.LeafCircuits.{LeafCircuit, depth_of}
use Rattle.fir_meaning.specs.working.LeafModules as over
use Rattle.fir_meaning.specs.working.LeafModules.{LeafArray, LeafReset, Need, Reading, Role, Writing, leaf_at}
use Rattle.fir_leaf.specs.working.SoundDesigns.{circuit_path}
use Rattle.fir_meaning.specs.working.TermValues.{clock_of, eval}
use Rattle.fir_meaning.specs.working.Terms.{Term}
use Rattle.fir_meaning.specs.TreeValues.{TypesByPath, ValuesByPath, aim_read, leaf_where, value}
use Rattle.fir_meaning.specs.SourceCircuits.{PlacedArray, PlacedLeaf, all_arrays, all_leaves, array_path, clock_inputs, clock_outputs, inputs, leaf_path, outputs, state_arrays, state_words}
use Rattle.fir_meaning.specs.SourceDesigns.{SourceDesign}
use Rattle.fir_meaning.specs.SourceRoles as tree
use Rattle.fir_meaning.specs.SourceRoles.{PathNeed, PathReading, PathWriting, SourceReset, SourceRole}
use Rattle.fir_meaning.specs.SourceStores.{below, clock_gifts, clock_where, exec_design, number_gifts}

module _ (c : LeafCircuit) where
  -- a term has the value of the leaf at a path of an expression in the module of the instance at a path, and gives its clock
  pub record SameTermBelow (at : LeafPath) (t : Term) (scope : TypedScope) (e : Expression) (q : LeafPath) : Type 0 where
    pub number : (holds : TypesByPath) (env : ValuesByPath) → eval (numbered c holds) (numbered c env) t ≡ value scope (below at holds) (below at env) e q
    pub clock :
        (holds : TypesByPath) (env : ValuesByPath) (clocks : LeafPath → Option ℕ)
        → clock_of (numbered c holds) (record { numbers = numbered c env; clocks = numbered c clocks }) t
        ≡ clock_where (below at clocks) (leaf_where (aim_read scope (below at holds) (below at env) e) q)

  pub record SameResetBelow (at : LeafPath) (r : LeafReset) (sr : SourceReset) (q : LeafPath) : Type 0 where
    pub is_async : r.is_async ≡ sr.is_async
    pub condition : SameTermBelow at r.condition sr.scope sr.condition []
    pub init : SameTermBelow at r.init sr.scope sr.init q

  abbrev pub MaySameResetBelow : LeafPath → Option LeafReset → Option SourceReset → LeafPath → Type 0
  MaySameResetBelow at None None q = Unit {0}
  MaySameResetBelow at (Some r) (Some sr) q = SameResetBelow at r sr q
  MaySameResetBelow at _ _ q = ⊥

  -- leaf by leaf the same path, and the same that is asked of it
  pub record SameNeed (at : LeafPath) (n : Need) (p : PathNeed) : Type 0 where
    pub leaf : circuit_path c n.leaf ≡ below at (λ x. x) p.leaf
    pub high : n.high ≡ p.high

  abbrev pub SameNeeds : LeafPath → List Need → List PathNeed → Type 0
  SameNeeds at [] [] = Unit {0}
  SameNeeds at (n ∷ ns) (p ∷ ps) = SameNeed at n p × SameNeeds at ns ps
  SameNeeds at _ _ = ⊥

  pub record SameReading (at : LeafPath) (r : Reading) (p : PathReading) : Type 0 where
    pub within : r.array < length c.arrays
    pub array : (array_at c.arrays r.array).path ≡ below at (λ x. x) p.array
    pub address : circuit_path c r.address ≡ below at (λ x. x) p.address
    pub needs : SameNeeds at r.needs p.needs

  pub record SameWriting (at : LeafPath) (w : Writing) (p : PathWriting) : Type 0 where
    pub address : circuit_path c w.address ≡ below at (λ x. x) p.address
    pub needs : SameNeeds at w.needs p.needs
    pub clock : circuit_path c w.clock ≡ below at (λ x. x) p.clock
    pub given : circuit_path c w.given ≡ below at (λ x. x) p.given

  abbrev pub SameWritings : LeafPath → List Writing → List PathWriting → Type 0
  SameWritings at [] [] = Unit {0}
  SameWritings at (w ∷ ws) (p ∷ ps) = SameWriting at w p × SameWritings at ws ps
  SameWritings at _ _ = ⊥

  abbrev pub SameRoleBelow : LeafPath → Role → SourceRole → Type 0
  SameRoleBelow at over.source tree.source = Unit {0}
  SameRoleBelow at over.sink tree.sink = Unit {0}
  SameRoleBelow at (over.computed t) (tree.computed scope e q) = SameTermBelow at t scope e q
  SameRoleBelow at (over.register k r) (tree.register scope clock reset q) = SameTermBelow at k scope clock [] × MaySameResetBelow at r reset q
  SameRoleBelow at (over.reading r) (tree.reading p) = SameReading at r p
  SameRoleBelow at (over.pipe r x under_write) (tree.pipe p clock kept) =
      SameReading at r p × (circuit_path c x ≡ below at (λ y. y) clock) × (under_write ≡ kept)
  SameRoleBelow at _ _ = ⊥

  pub record SamePlaced (x : ℕ) (p : PlacedLeaf) : Type 0 where
    pub path : circuit_path c x ≡ leaf_path p
    pub holds : (leaf_at c.leaves x).holds ≡ p.leaf.holds
    pub role : SameRoleBelow p.at (leaf_at c.leaves x).role p.leaf.role

  pub record SameArray (a : LeafArray) (p : PlacedArray) : Type 0 where
    pub path : a.path ≡ array_path p
    pub holds : a.holds ≡ p.array.holds
    pub words : a.words ≡ p.array.words
    pub writings : SameWritings p.at a.writings p.array.writings

  pub record InStep (t : SourceDesign) : Type 0 where
    pub many : length c.leaves ≡ length (all_leaves t)
    pub each : (x : ℕ) (p : PlacedLeaf) → slice_get (all_leaves t) x ≡ Some p → SamePlaced x p
    pub once : (x y : ℕ) → x < length c.leaves → y < length c.leaves → circuit_path c x ≡ circuit_path c y → x ≡ y
    -- no leaf has the empty path
    pub named : (x : ℕ) → x < length c.leaves → circuit_path c x ≡ [] → ⊥
    pub many_arrays : length c.arrays ≡ length (all_arrays t)
    pub each_array : (k : ℕ) (p : PlacedArray) → slice_get (all_arrays t) k ≡ Some p → SameArray (array_at c.arrays k) p
    pub arrays_once :
        (k j : ℕ) → k < length c.arrays → j < length c.arrays → (array_at c.arrays k).path ≡ (array_at c.arrays j).path → k ≡ j
    -- the order of the state, and the leaves of ports, each a list of the leaves above
    pub words : map (λ x. slice_get (all_leaves t) x) c.words ≡ map Some (state_words t)
    pub array_order : map (λ k. slice_get (all_arrays t) k) c.array_order ≡ map Some (state_arrays t)
    pub inputs_within : (x : ℕ) → In c.inputs x → x < length c.leaves
    pub clock_inputs_within : (x : ℕ) → In c.clock_inputs x → x < length c.leaves
    pub inputs_are : map (circuit_path c) c.inputs ≡ inputs t
    pub clock_inputs_are : map (circuit_path c) c.clock_inputs ≡ clock_inputs t
    pub outputs_are : map (circuit_path c) c.outputs ≡ outputs t
    pub clock_outputs_are : map (circuit_path c) c.clock_outputs ≡ clock_outputs t
    -- the statements store the same, numbers and clocks
    pub numbers_stored :
        (holds : TypesByPath) (env : ValuesByPath) (x : ℕ) → x < length c.leaves
        → exec_all (numbered c holds) (depth_of c) (numbered c env) (fitted_at (numbered c holds) (numbered c env)) c.body [] nothing_stored x
        ≡ exec_design holds env (number_gifts holds env) [] t nothing_kept (circuit_path c x)
    pub clocks_stored :
        (holds : TypesByPath) (env : ValuesByPath) (clocks : LeafPath → Option ℕ) (x : ℕ) → x < length c.leaves
        → exec_all (numbered c holds) (depth_of c) (numbered c env)
        (λ y term. clock_of (numbered c holds) (record { numbers = numbered c env; clocks = numbered c clocks }) term) c.body [] nothing_stored x
        ≡ exec_design holds env (clock_gifts holds env clocks) [] t nothing_kept (circuit_path c x)
