-- What an invalid stores at the leaves that it names.
use Rattle.std.proofs.Common.{◌≡◌, ℕ, List, [], ◌∷◌, ◌++◌, Bool, true, false, if◌then◌else◌, Option, Some, None, refl, sym, ap, arith, ◌∙◌, inl, inr}
use Rattle.std.proofs.lemmas.Bool.{le-leb}
use Rattle.std.proofs.lemmas.List.{append_cancel_left}
use Rattle.fir_base.specs.Lists.{In}
use Rattle.fir_ast.specs.Statements.{invalid}
use Rattle.fir_meaning.specs.LeafPaths.{LeafPath}
use Rattle.fir_meaning.specs.TypeGroup.{scope_at}
use Rattle.fir_meaning.specs.TypeLeaves.{TypeLeaf, type_leaves}
use Rattle.fir_meaning.specs.PathStores.{DesignStore, kept_at}
use Rattle.fir_meaning.specs.CountedWhens.{counts}
use Rattle.fir_meaning.specs.ModuleScenes.{Scene}
use Rattle.fir_meaning.specs.TreeAims.{Aim}
use Rattle.fir_meaning.specs.SamePaths.{may_be_driven, same_path}
use Rattle.fir_meaning.specs.TreeValues.{TypesByPath, ValuesByPath, aim_of, leaf_where}
use Rattle.fir_meaning.specs.SourceFacts.{source_depth, source_may_drive}
use Rattle.fir_meaning.specs.SourceStores.{Gifts, source_invalid, source_invalidated, source_kept}
use Rattle.fir_source_laws.specs.working.FitLaws.{InvalidGives, InvalidSparesSources, InvalidSparesSourcesOf, InvalidStores, InvalidStoresOf}
use Rattle.fir_source_laws.specs.working.SparedLeaves.{SparesAt}
use Rattle.fir_source_laws.proofs.LastConnects.{inner_counts}
use Rattle.fir_source_laws.proofs.LeafTests.{leaf_is}
use Rattle.fir_source_laws.proofs.SparedStores.{kept_at_leaf, spared_statement}

module _ {V : Type 0} (s : Scene) (holds : TypesByPath) (env : ValuesByPath) (gifts : Gifts V) (path : LeafPath)
    (child : List ℕ → DesignStore V → DesignStore V) (a : Aim) (taken : List Bool) (x : LeafPath) where
  -- what was stored there stays, or the one thing that is given comes again
  again_kept : (o : Option LeafPath) (store : DesignStore V) → store (path ++ x) ≡ Some (gifts.of_invalid x)
      → source_kept s holds env gifts path child o gifts.of_invalid taken store (path ++ x) ≡ Some (gifts.of_invalid x)
  again_kept None store h = h
  again_kept (Some y) store h = by (counts (source_depth s y) taken) (same_path (path ++ y) (path ++ x)) refl
    where
      by : (counted same : Bool) → same_path (path ++ y) (path ++ x) ≡ same
          → (if counted then kept_at (path ++ y) (gifts.of_invalid y) store else store) (path ++ x) ≡ Some (gifts.of_invalid x)
      by false same e = h
      by true false e = rw e h
      by true true e =
          let here : y ≡ x = append_cancel_left path y x (leaf_is (path ++ y) (path ++ x) e) in
          rw e (ap (λ z. Some (gifts.of_invalid z)) here)

  again_named : (ls : List TypeLeaf) (store : DesignStore V) → store (path ++ x) ≡ Some (gifts.of_invalid x)
      → source_invalid s holds env gifts path child a taken ls store (path ++ x) ≡ Some (gifts.of_invalid x)
  again_named [] store h = h
  again_named (l ∷ ls) store h = again_named ls _ (by (may_be_driven (source_may_drive s) (leaf_where a.first l.path)))
    where
      by : (may : Bool)
          → (if may then source_kept s holds env gifts path child (leaf_where a.at l.path) gifts.of_invalid taken store else store) (path ++ x)
          ≡ Some (gifts.of_invalid x)
      by true = again_kept (leaf_where a.at l.path) store h
      by false = h

  named_stored : (ls : List TypeLeaf) (l : TypeLeaf) (store : DesignStore V) → In ls l
      → may_be_driven (source_may_drive s) (leaf_where a.first l.path) ≡ true → leaf_where a.at l.path ≡ Some x
      → counts (source_depth s x) taken ≡ true
      → source_invalid s holds env gifts path child a taken ls store (path ++ x) ≡ Some (gifts.of_invalid x)
  named_stored [] l store m may at counted = absurd m
  named_stored (k ∷ ls) l store (inr m) may at counted =
      named_stored ls l (source_invalidated s holds env gifts path child a k.path taken store) m may at counted
  named_stored (k ∷ ls) l store (inl e) may at counted =
      let driven : may_be_driven (source_may_drive s) (leaf_where a.first k.path) ≡ true =
      ap (λ (z : TypeLeaf). may_be_driven (source_may_drive s) (leaf_where a.first z.path)) e ∙ may in
      let there : leaf_where a.at k.path ≡ Some x = ap (λ (z : TypeLeaf). leaf_where a.at z.path) e ∙ at in
      again_named ls (source_invalidated s holds env gifts path child a k.path taken store)
      (rw (driven, there) (kept_at_leaf s holds env gifts path child x gifts.of_invalid taken store counted))

stores_of : {V : Type 0} → InvalidStoresOf V
stores_of s holds env gifts path child before p sink taken store l x m may at inner =
    let a = aim_of (scope_at s.own.modules before) holds env sink in
    named_stored s holds env gifts path child a taken x (type_leaves a.data_type) l store m may at
    (inner_counts (source_depth s x) taken inner)

gives : InvalidGives
gives holds env clocks path x = (rw (le-leb 0 (holds (path ++ x)).width (omega arith)) refl, refl)

pub invalid_stores : InvalidStores
invalid_stores = (stores_of, stores_of, gives)

spares_of : {V : Type 0} → InvalidSparesSourcesOf V
spares_of s holds env gifts path child before p sink taken store x one source =
    let a = aim_of (scope_at s.own.modules before) holds env sink in
    spared_statement s holds env gifts path child (path ++ x) (invalid p sink) before taken store
    (λ l m may. by a.at a.first l.path one may)
  where
    by : (at first : Option LeafPath) (q : LeafPath) → at ≡ first → may_be_driven (source_may_drive s) (leaf_where first q) ≡ true
        → SparesAt s holds env path (path ++ x) taken (leaf_where at q)
    by None first q e may = tt
    by (Some z) first q e may = λ same.
        let here : z ++ q ≡ x = append_cancel_left path (z ++ q) x same in
        let drives : source_may_drive s (z ++ q) ≡ true =
        ap (λ f. may_be_driven (source_may_drive s) (leaf_where f q)) e ∙ may in
        let no : source_may_drive s x ≡ true = ap (source_may_drive s) (sym here) ∙ drives in
        absurd (cc)

pub invalid_spares_sources : InvalidSparesSources
invalid_spares_sources = (spares_of, spares_of)
