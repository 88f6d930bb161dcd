-- What a statement over leaves drives at one leaf of a target, beside what a drive of the text drives at one leaf of a reference.
use Rattle.std.proofs.Common.{◌≡◌, ℕ, ◌+◌, ◌<◌, List, [], ◌∷◌, Bool, false, length, Option, Some, None, slice_get, refl, sym, ap, ◌∙◌, subst}
use Rattle.std.specs.List.{AllByRecursion}
use Rattle.fir_ast.specs.declared.place.Place.{Place}
use Rattle.fir_ast.specs.Expressions.{Expression, reference, literal, operation, mux, validif}
use Rattle.fir_ast.specs.Statements.{SinkReference}
use Rattle.fir_ast.specs.Types.{DataType}
use Rattle.fir_meaning.specs.working.LeafBlocks as over
use Rattle.fir_meaning.specs.LeafPaths.{LeafPath}
use Rattle.fir_meaning.specs.working.Leafed.{target_of, target_read}
use Rattle.fir_meaning.specs.working.LeafedBlocks.{driven_from, driven_where}
use Rattle.fir_meaning.specs.ModuleScenes.{Scene}
use Rattle.fir_meaning.specs.working.LeafedModules.{module_leaves}
use Rattle.fir_meaning.specs.Reaching.{Reached}
use Rattle.fir_meaning.specs.SizedScopes.{sink_expression}
use Rattle.fir_meaning.specs.SourceChoices.{has_path}
use Rattle.fir_meaning.specs.SourceDrives.{Drive, Side, side}
use Rattle.fir_meaning.specs.SourceReads as tree
use Rattle.fir_meaning.specs.working.Targets.{Target}
use Rattle.fir_meaning.specs.working.TermReads as by_number
use Rattle.fir_meaning.specs.working.Terms.{Term}
use Rattle.fir_meaning.specs.TypeLeaves.{TypeLeaf, type_leaves}
use Rattle.fir_meaning.specs.TypedScopes.{TypedScope}
use Rattle.fir_meaning.specs.Visits.{Branch}
use Rattle.fir_meaning.specs.working.WellTyped.{HasType, Reaches}
use Rattle.fir_leaf.specs.working.LeafLaws.{Begins}
use Rattle.fir_source_faults.specs.working.ReadsByPath.{ReadsByPath, leaves_from, path_in, paths_in, scope_of_module}
use Rattle.fir_source_faults.proofs.AmongPaths.{among_paths}
use Rattle.fir_source_faults.proofs.DrivePieces.{Beside, idle, one_drive}

-- what is given reads what its expression reads
pub side_reads : (scope : TypedScope) (e : Expression) (q : LeafPath) → (side scope e q).reads ≡ tree.reads scope e q
side_reads scope (reference p n ps) q = refl
side_reads scope (literal l) q = refl
side_reads scope (operation p op es ks) q = refl
side_reads scope (mux p c a b) q = refl
side_reads scope (validif p c a) q = refl

module _ (s : Scene) (depth x : ℕ) (reading : ReadsByPath s) (lt : x < length (module_leaves s)) (under : List Branch) (k : ℕ) (way : List Bool) (p : Place) where
  abbrev pub drive_of : Side → Side → Drive
  drive_of driven given = record { way = way; place = p; under = under; driven = driven; given = given }

  -- nothing is named
  pub nothing_driven : (driven given : Side) → has_path driven.leaves (path_in s x) ≡ false
      → Beside s depth x under k way over.done (record { way = way; place = p; under = under; driven = driven; given = given } ∷ [])
  nothing_driven driven given e =
      idle s depth x under k way over.done (drive_of driven given ∷ []) (λ f. refl) (λ f. refl) refl (rw e refl)

  -- a leaf of a target
  pub target_driven : (r : Target) (n : ℕ) (t : Term) (driven given : Side) → paths_in s (leaves_from r.base r.picks n) ≡ driven.leaves
      → AllByRecursion (λ y. y < length (module_leaves s)) (leaves_from r.base r.picks n) → by_number.is_picked r.picks ≡ driven.is_picked
      → paths_in s (by_number.picks_read r.picks) ≡ driven.index_reads → paths_in s (by_number.reads t) ≡ given.reads
      → Beside s depth x under k way (driven_from p r.base r n t) (record { way = way; place = p; under = under; driven = driven; given = given } ∷ [])
  target_driven r n t driven given leaves within picked indices gives = by r.base leaves within
    where
      by : (base : Option ℕ) → paths_in s (leaves_from base r.picks n) ≡ driven.leaves
          → AllByRecursion (λ y. y < length (module_leaves s)) (leaves_from base r.picks n)
          → Beside s depth x under k way (driven_from p base r n t) (drive_of driven given ∷ [])
      by None e all = nothing_driven driven given (ap (λ (ys : List LeafPath). has_path ys (path_in s x)) (sym e))
      by (Some b) e all =
          one_drive s depth x under k way p (b + n) r.picks t driven given
          (among_paths s reading (by_number.reached (b + n) r.picks) x all lt ∙ ap (λ (ys : List LeafPath). has_path ys (path_in s x)) e)
          picked indices gives

  module _ (scope : TypedScope) (begins : Begins scope (scope_of_module s)) where
    -- of a reference
    pub sink_driven : (sink : SinkReference) (r : Reached) (n : ℕ) (l : TypeLeaf) (t : Term) (given : Side) → Reaches scope sink r
        → slice_get (type_leaves r.data_type) n ≡ Some l → paths_in s (by_number.reads t) ≡ given.reads
        → Beside s depth x under k way (driven_from p (target_of scope sink).base (target_of scope sink) n t)
        (record { way = way; place = p; under = under; driven = side scope (sink_expression sink) l.path; given = given } ∷ [])
    sink_driven sink r n l t given h i gives =
        let names = reading.target scope sink r n l begins h i in
        target_driven (target_of scope sink) n t (side scope (sink_expression sink) l.path) given names.leaves names.within names.picked names.indices gives

    -- of an expression, where it is a reference
    pub expression_driven : (e : Expression) (u : DataType) (n : ℕ) (l : TypeLeaf) (t : Term) (given : Side) → HasType scope e u
        → slice_get (type_leaves u) n ≡ Some l → paths_in s (by_number.reads t) ≡ given.reads
        → Beside s depth x under k way (driven_where p (target_read scope e) n t)
        (record { way = way; place = p; under = under; driven = side scope e l.path; given = given } ∷ [])
    expression_driven (reference q name ps) u n l t given h i gives =
        sink_driven (record { place = q; name = name; parts = ps }) h.1 n l t given (h.0, h.2, h.3)
        (subst (λ (v : DataType). slice_get (type_leaves v) n ≡ Some l) h.4 i) gives
    expression_driven (literal c) u n l t given h i gives = nothing_driven (side scope (literal c) l.path) given refl
    expression_driven (operation q op es ks) u n l t given h i gives = nothing_driven (side scope (operation q op es ks) l.path) given refl
    expression_driven (mux q c a b) u n l t given h i gives = nothing_driven (side scope (mux q c a b) l.path) given refl
    expression_driven (validif q c a) u n l t given h i gives = nothing_driven (side scope (validif q c a) l.path) given refl
