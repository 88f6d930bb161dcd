-- What statements that spare a leaf leave there.
use Rattle.std.proofs.Common.{◌≡◌, ℕ, List, [], ◌∷◌, ◌++◌, Bool, true, false, not, if◌then◌else◌, Option, Some, None, refl, ◌∙◌, inl, inr}
use Rattle.fir_ast.specs.Expressions.{Expression}
use Rattle.fir_ast.specs.Statements.{SinkReference, Statement, wire, register, node, instance, memory, when, connect, partial_connect, invalid, skip, Block, done, then}
use Rattle.fir_meaning.specs.ConnectPairs.{Pair, pairs, partial_pairs}
use Rattle.fir_meaning.specs.LeafPaths.{LeafPath}
use Rattle.fir_meaning.specs.TypeGroup.{scope_at}
use Rattle.fir_meaning.specs.TypeLeaves.{TypeLeaf, type_leaves}
use Rattle.fir_meaning.specs.TypedScopes.{TypedScope}
use Rattle.fir_meaning.specs.Visibility.{Before, opened, reopened, behind, behind_block}
use Rattle.fir_meaning.specs.PathStores.{DesignStore, kept_at}
use Rattle.fir_meaning.specs.CountedWhens.{counts}
use Rattle.fir_meaning.specs.ModuleScenes.{Scene}
use Rattle.fir_meaning.specs.TreeAims.{Aim}
use Rattle.fir_meaning.specs.SamePaths.{may_be_driven}
use Rattle.fir_meaning.specs.TreeValues.{TypesByPath, ValuesByPath, aim_of, aim_read, leaf_where}
use Rattle.fir_meaning.specs.SourceFacts.{source_depth, source_may_drive}
use Rattle.fir_meaning.specs.SourceStores.{Gifts, exec_source, exec_source_all, source_invalid, source_kept, source_pair, source_pairs}
use Rattle.fir_source_laws.specs.working.SparedLeaves.{SparedBy, Spares, SparesAll, SparesAt, SparesNamed, SparesPairs, driven, gift, is_one, pairs_between}
use Rattle.fir_source_laws.proofs.LeafTests.{kept_elsewhere, kept_there}

module _ {V : Type 0} (s : Scene) (holds : TypesByPath) (env : ValuesByPath) (gifts : Gifts V) (path : LeafPath)
    (child : List ℕ → DesignStore V → DesignStore V) where
  -- a pair keeps what it gives at the leaf that it drives
  pub pair_kept : (scope : TypedScope) (sink : SinkReference) (e : Expression) (taken : List Bool) (pair : Pair) (store : DesignStore V)
      → source_pair s holds env gifts path child scope sink e taken pair store
      ≡ source_kept s holds env gifts path child (driven holds env scope sink e pair) (gift gifts scope sink e pair) taken store
  pair_kept scope sink e taken pair store = by pair.left.flip
    where
      by : (flip : Bool)
          → (if flip
          then source_kept s holds env gifts path child (leaf_where (aim_read scope holds env e) pair.right.path) (gifts.of_sink scope sink pair.left.path)
          taken store
          else source_kept s holds env gifts path child (leaf_where (aim_of scope holds env sink).at pair.left.path)
          (gifts.of_expression scope e pair.right.path) taken store)
          ≡ source_kept s holds env gifts path child
          (if flip then leaf_where (aim_read scope holds env e) pair.right.path else leaf_where (aim_of scope holds env sink).at pair.left.path)
          (if flip then gifts.of_sink scope sink pair.left.path else gifts.of_expression scope e pair.right.path) taken store
      by true = refl
      by false = refl

  pub pairs_joined : (scope : TypedScope) (sink : SinkReference) (e : Expression) (taken : List Bool) (ps qs : List Pair) (store : DesignStore V)
      → source_pairs s holds env gifts path child scope sink e taken (ps ++ qs) store
      ≡ source_pairs s holds env gifts path child scope sink e taken qs (source_pairs s holds env gifts path child scope sink e taken ps store)
  pairs_joined scope sink e taken [] qs store = refl
  pairs_joined scope sink e taken (p ∷ ps) qs store =
      pairs_joined scope sink e taken ps qs (source_pair s holds env gifts path child scope sink e taken p store)

  pub kept_at_leaf : (y : LeafPath) (give : LeafPath → V) (taken : List Bool) (store : DesignStore V) → counts (source_depth s y) taken ≡ true
      → source_kept s holds env gifts path child (Some y) give taken store (path ++ y) ≡ Some (give y)
  kept_at_leaf y give taken store counted = rw counted (kept_there (give y) store (path ++ y))

  module _ (x : LeafPath) where
    pub spared_kept : (o : Option LeafPath) (give : LeafPath → V) (taken : List Bool) (store : DesignStore V)
        → SparesAt s holds env path x taken o
        → source_kept s holds env gifts path child o give taken store x ≡ store x
    spared_kept None give taken store h = refl
    spared_kept (Some y) give taken store h = by (counts (source_depth s y) taken) refl
      where
        by : (counted : Bool) → counts (source_depth s y) taken ≡ counted
            → (if counted then kept_at (path ++ y) (give y) store else store) x ≡ store x
        by false e = refl
        by true e = kept_elsewhere (give y) store (path ++ y) x (λ same. let no = h same in cc)

    pub spared_pairs : (scope : TypedScope) (sink : SinkReference) (e : Expression) (taken : List Bool) (ps : List Pair) (store : DesignStore V)
        → SparesPairs s holds env path x scope sink e taken ps
        → source_pairs s holds env gifts path child scope sink e taken ps store x ≡ store x
    spared_pairs scope sink e taken [] store h = refl
    spared_pairs scope sink e taken (p ∷ ps) store h =
        spared_pairs scope sink e taken ps (source_pair s holds env gifts path child scope sink e taken p store) (λ q m. h q (inr m))
        ∙ rw (pair_kept scope sink e taken p store)
        (spared_kept (driven holds env scope sink e p) (gift gifts scope sink e p) taken store (h p (inl refl)))

    pub spared_named : (a : Aim) (taken : List Bool) (ls : List TypeLeaf) (store : DesignStore V)
        → SparesNamed s holds env path x a taken ls
        → source_invalid s holds env gifts path child a taken ls store x ≡ store x
    spared_named a taken [] store h = refl
    spared_named a taken (l ∷ ls) store h =
        spared_named a taken ls _ (λ k m. h k (inr m)) ∙ by (may_be_driven (source_may_drive s) (leaf_where a.first l.path)) (h l (inl refl))
      where
        by : (may : Bool) → (may ≡ true → SparesAt s holds env path x taken (leaf_where a.at l.path))
            → (if may then source_kept s holds env gifts path child (leaf_where a.at l.path) gifts.of_invalid taken store else store) x ≡ store x
        by true spares = spared_kept (leaf_where a.at l.path) gifts.of_invalid taken store (spares refl)
        by false spares = refl

    mutual
      pub spared_statement : (y : Statement) (before : Before) (taken : List Bool) (store : DesignStore V)
          → Spares s holds env path x (SparedBy child x) before y taken
          → exec_source s holds env gifts path child before y taken store x ≡ store x
      spared_statement (connect p sink e) before taken store h =
          spared_pairs (scope_at s.own.modules before) sink e taken (pairs_between holds env pairs (scope_at s.own.modules before) sink e) store h
      spared_statement (partial_connect p sink e) before taken store h =
          spared_pairs (scope_at s.own.modules before) sink e taken (pairs_between holds env partial_pairs (scope_at s.own.modules before) sink e) store h
      spared_statement (invalid p sink) before taken store h =
          let a = aim_of (scope_at s.own.modules before) holds env sink in
          spared_named a taken (type_leaves a.data_type) store h
      spared_statement (when p c a b) before taken store h =
          let high = is_one holds env (scope_at s.own.modules before) c in
          spared_block b (reopened before (behind_block (opened before) a)) (taken ++ not high ∷ [])
          (exec_source_all s holds env gifts path child (opened before) a (taken ++ high ∷ []) store) h.1
          ∙ spared_block a (opened before) (taken ++ high ∷ []) store h.0
      spared_statement (instance p n other) before taken store h = h store
      spared_statement (wire p n begins t) before taken store h = refl
      spared_statement (register p n begins t c r) before taken store h = refl
      spared_statement (node p n e) before taken store h = refl
      spared_statement (memory p n parts) before taken store h = refl
      spared_statement (skip p) before taken store h = refl

      pub spared_block : (b : Block) (before : Before) (taken : List Bool) (store : DesignStore V)
          → SparesAll s holds env path x (SparedBy child x) before b taken
          → exec_source_all s holds env gifts path child before b taken store x ≡ store x
      spared_block done before taken store h = refl
      spared_block ((then) y b) before taken store h =
          spared_block b (behind before y) taken (exec_source s holds env gifts path child before y taken store) h.1
          ∙ spared_statement y before taken store h.0

-- what instances are said to spare may be said in other words
module _ (s : Scene) (holds : TypesByPath) (env : ValuesByPath) (path x : LeafPath) (spared other : List ℕ → Type 0)
    (each : (name : List ℕ) → spared name → other name) where
  mutual
    through_statement : (y : Statement) (before : Before) (taken : List Bool) → Spares s holds env path x spared before y taken
        → Spares s holds env path x other before y taken
    through_statement (connect p sink e) before taken h = h
    through_statement (partial_connect p sink e) before taken h = h
    through_statement (invalid p sink) before taken h = h
    through_statement (when p c a b) before taken h = (
      spares_through a (opened before) _ h.0,
      spares_through b (reopened before (behind_block (opened before) a)) _ h.1,
    )
    through_statement (instance p n m) before taken h = each n.name h
    through_statement (wire p n begins t) before taken h = tt
    through_statement (register p n begins t c r) before taken h = tt
    through_statement (node p n e) before taken h = tt
    through_statement (memory p n parts) before taken h = tt
    through_statement (skip p) before taken h = tt

    pub spares_through : (b : Block) (before : Before) (taken : List Bool) → SparesAll s holds env path x spared before b taken
        → SparesAll s holds env path x other before b taken
    spares_through done before taken h = tt
    spares_through ((then) y b) before taken h = (through_statement y before taken h.0, spares_through b (behind before y) taken h.1)
