-- An invalid over leaves beside the drives of an invalid of the text.
use Rattle.std.proofs.Common.{◌≡◌, ℕ, zero, suc, ◌+◌, ◌<◌, List, [], ◌∷◌, ◌++◌, Bool, true, false, if◌then◌else◌, flat_map, length, slice_get, Option, Some, None, refl, sym, ap, ◌∙◌, subst, arith, inl, inr, ◌⊎◌}
use Rattle.std.specs.List.{AllByRecursion}
use Rattle.std.proofs.lemmas.Bool.{and_right}
use Rattle.fir_ast.specs.declared.place.Place.{Place}
use Rattle.fir_ast.specs.Statements.{SinkReference, Statement}
use Rattle.fir_meaning.specs.working.LeafBlocks.{LeafBlock}
use Rattle.fir_meaning.specs.working.LeafBlocks as over
use Rattle.fir_meaning.specs.working.Leafed.{target_of}
use Rattle.fir_meaning.specs.working.LeafedBlocks.{alone, invalid_block, invalid_leaf, invalid_leaves}
use Rattle.fir_meaning.specs.ModuleScenes.{Scene, scope_before}
use Rattle.fir_meaning.specs.working.LeafedModules.{driven_leaves, module_leaves}
use Rattle.fir_meaning.specs.MemoryTypes.{first_one}
use Rattle.fir_meaning.specs.Reaching.{Reached}
use Rattle.fir_meaning.specs.SizedScopes.{sink_expression}
use Rattle.fir_meaning.specs.SourceDrives.{Drive, Side, invalid_drive, invalid_drives, nothing_given, side, type_here}
use Rattle.fir_meaning.specs.SourceFacts.{source_may_drive}
use Rattle.fir_meaning.specs.working.Targets.{Target}
use Rattle.fir_meaning.specs.working.TermReads.{is_picked, multiples, picks_read, reached}
use Rattle.fir_meaning.specs.working.Terms.{Picks, no_picks, pick, zeros}
use Rattle.fir_meaning.specs.SamePaths.{may_be_driven}
use Rattle.fir_meaning.specs.TypeLeaves.{TypeLeaf, type_leaves}
use Rattle.fir_meaning.specs.TypedScopes.{TypedScope}
use Rattle.fir_meaning.specs.Visibility.{Before}
use Rattle.fir_meaning.specs.Visits.{Branch, Visit, visit}
use Rattle.fir_meaning.specs.working.WellTyped.{Reaches}
use Rattle.fir_leaf.specs.working.LeafLaws.{Begins}
use Rattle.fir_leaf.proofs.LeafPlaces.{leaves_counted}
use Rattle.fir_design.proofs.FineScenes.{IsFineScene, leaf_path}
use Rattle.fir_design.proofs.SourceLeaves.{source_may_drive_is}
use Rattle.fir_source_faults.specs.working.ReadsByPath.{ReadsByPath, leaves_from, path_in, paths_in, scope_of_module}
use Rattle.fir_source_faults.proofs.ConnectPieces.{found_here, sink_has_type, target_type}
use Rattle.fir_source_faults.proofs.DrivePieces.{Beside, both_beside, idle}
use Rattle.fir_source_faults.proofs.SidePieces.{target_driven}

-- indices may pick the leaf that they begin with, or none
no_multiples : (each : ℕ) (xs : List ℕ) → flat_map (λ k. multiples k zero each) xs ≡ []
unfolding multiples
no_multiples each [] = refl
no_multiples each (x ∷ xs) = no_multiples each xs

multiples_from : (b n each : ℕ) → multiples b (suc n) each ≡ b ∷ multiples (b + each) n each
unfolding multiples
multiples_from b n each = refl

first_reached : (b : ℕ) (ps : Picks) → (reached b ps ≡ []) ⊎ ((rest : List ℕ) × (reached b ps ≡ b ∷ rest))
first_reached b no_picks = inr ([], refl)
first_reached b (pick ps p i n each) = by n (first_reached b ps)
  where
    by : (n : ℕ) → (reached b ps ≡ []) ⊎ ((rest : List ℕ) × (reached b ps ≡ b ∷ rest))
        → (flat_map (λ k. multiples k n each) (reached b ps) ≡ [])
        ⊎ ((rest : List ℕ) × (flat_map (λ k. multiples k n each) (reached b ps) ≡ b ∷ rest))
    by n (inl e) = inl (rw e refl)
    by zero (inr e) = inl (no_multiples each (reached b ps))
    by (suc n) (inr e) = inr (
      multiples (b + each) n each ++ flat_map (λ k. multiples k (suc n) each) e.0,
      rw e.1 (ap (λ (ys : List ℕ). ys ++ flat_map (λ k. multiples k (suc n) each) e.0) (multiples_from b n each)),
    )

module _ (s : Scene) (fine : IsFineScene s) (depth x : ℕ) (reading : ReadsByPath s) (lt : x < length (module_leaves s)) (under : List Branch) (k : ℕ)
    (before : Before) (own : List Bool) (statement : Statement) (begins : Begins (scope_before s before) (scope_of_module s)) (p : Place) (sink : SinkReference)
    (r : Reached) (reaches : Reaches (scope_before s before) sink r) where
  abbrev here : Visit
  here = visit own before under statement

  abbrev scope : TypedScope
  scope = scope_before s before

  abbrev target : Target
  target = target_of (scope_before s before) sink

  same_may : (y : ℕ) → y < length (module_leaves s) → source_may_drive s (path_in s y) ≡ driven_leaves s y
  same_may y within = ap (source_may_drive s) (leaf_path s fine y) ∙ source_may_drive_is s fine y within

  module _ (way : List Bool) (n : ℕ) (driven : Side) (picked : is_picked target.picks ≡ driven.is_picked) (indices : paths_in s (picks_read target.picks) ≡ driven.index_reads) where
    abbrev one : Drive
    one = record { way = way; place = p; under = under; driven = driven; given = nothing_given }

    none_named : (b : ℕ) → reached (b + n) target.picks ≡ [] → (may : Bool)
        → Beside s depth x under k way (if may then alone (over.drive p (b + n) target.picks zeros) else over.done) []
    none_named b e true =
        idle s depth x under k way (alone (over.drive p (b + n) target.picks zeros)) [] (λ f. rw e refl)
        (λ f. rw (e, and_right (is_picked target.picks) false refl) refl) (rw e refl) refl
    none_named b e false = idle s depth x under k way over.done [] (λ f. refl) (λ f. refl) refl refl

    named : (b : ℕ) → paths_in s (reached (b + n) target.picks) ≡ driven.leaves
        → AllByRecursion (λ y. y < length (module_leaves s)) (reached (b + n) target.picks) → (may : Bool)
        → Beside s depth x under k way (if may then alone (over.drive p (b + n) target.picks zeros) else over.done) (if may then one ∷ [] else [])
    named b e all true =
        target_driven s depth x reading lt under k way p (record target { base = Some b }) n zeros driven nothing_given e all picked indices refl
    named b e all false = idle s depth x under k way over.done [] (λ f. refl) (λ f. refl) refl refl

    invalid_from : (base : Option ℕ) → paths_in s (leaves_from base target.picks n) ≡ driven.leaves
        → AllByRecursion (λ y. y < length (module_leaves s)) (leaves_from base target.picks n)
        → Beside s depth x under k way (invalid_leaf (driven_leaves s) p base target n)
        (if may_be_driven (source_may_drive s) (first_one driven.leaves) then one ∷ [] else [])
    invalid_from None e all = rw (← e) (idle s depth x under k way over.done [] (λ f. refl) (λ f. refl) refl refl)
    invalid_from (Some b) e all = by_reached (first_reached (b + n) target.picks)
      where
        by_reached : (reached (b + n) target.picks ≡ []) ⊎ ((rest : List ℕ) × (reached (b + n) target.picks ≡ (b + n) ∷ rest))
            → Beside s depth x under k way (if driven_leaves s (b + n) then alone (over.drive p (b + n) target.picks zeros) else over.done)
            (if may_be_driven (source_may_drive s) (first_one driven.leaves) then one ∷ [] else [])
        by_reached (inl none) =
            let no_leaves : driven.leaves ≡ [] = sym e ∙ ap (paths_in s) none in
            let not : may_be_driven (source_may_drive s) (first_one driven.leaves) ≡ false = ap (λ ys. may_be_driven (source_may_drive s) (first_one ys)) no_leaves in
            rw not (none_named b none (driven_leaves s (b + n)))
        by_reached (inr some) =
            let inside = subst (AllByRecursion (λ y. y < length (module_leaves s))) some.1 all in
            let may : may_be_driven (source_may_drive s) (first_one driven.leaves) ≡ driven_leaves s (b + n) =
            ap (λ ys. may_be_driven (source_may_drive s) (first_one ys)) (sym e ∙ ap (paths_in s) some.1) ∙ same_may (b + n) inside.0 in
            rw may (named b e all (driven_leaves s (b + n)))

  leaf_beside : (way : List Bool) (n : ℕ) (l : TypeLeaf) → slice_get (type_leaves r.data_type) n ≡ Some l
      → Beside s depth x under k way (invalid_leaf (driven_leaves s) p target.base target n)
      (invalid_drive s here way p (side scope (sink_expression sink) l.path))
  leaf_beside way n l i =
      let names = reading.target scope sink r n l begins reaches i in
      invalid_from way n (side scope (sink_expression sink) l.path) names.picked names.indices target.base names.leaves names.within

  leaves_beside : (way : List Bool) (ls : List TypeLeaf) (n : ℕ)
      → ((i : ℕ) (l : TypeLeaf) → slice_get ls i ≡ Some l → slice_get (type_leaves r.data_type) (n + i) ≡ Some l)
      → Beside s depth x under k way (invalid_leaves (driven_leaves s) p target n (length ls))
      (invalid_drives s here way p (sink_expression sink) ls)
  leaves_beside way [] n stand = idle s depth x under k way over.done [] (λ f. refl) (λ f. refl) refl refl
  leaves_beside way (l ∷ ls) n stand =
      let first : n + 0 ≡ n = omega arith in
      both_beside s depth x under k way (invalid_leaf (driven_leaves s) p target.base target n) (invalid_leaves (driven_leaves s) p target (suc n) (length ls))
      (invalid_drive s here (way ++ false ∷ []) p (side scope (sink_expression sink) l.path))
      (invalid_drives s here (way ++ true ∷ []) p (sink_expression sink) ls)
      (leaf_beside (way ++ false ∷ []) n l (rw first at (stand 0 l refl)))
      (leaves_beside (way ++ true ∷ []) ls (suc n) (λ i y h. let next : suc n + i ≡ n + suc i = omega arith in rw next (stand (suc i) y h)))

  pub invalid_beside : Beside s depth x under k own (invalid_block (driven_leaves s) p (target_of (scope_before s before) sink))
      (invalid_drives s (visit own before under statement) own p (sink_expression sink)
      (type_leaves (type_here (scope_before s before) (sink_expression sink))))
  invalid_beside =
      let by_number : target.data_type ≡ r.data_type = target_type scope (scope_of_module s) begins sink r reaches in
      let by_path : type_here scope (sink_expression sink) ≡ r.data_type = found_here scope (sink_expression sink) r.data_type (sink_has_type scope sink r reaches) in
      rw (by_number, by_path, ← leaves_counted r.data_type)
      (leaves_beside own (type_leaves r.data_type) 0 (λ i l h. let none : 0 + i ≡ i = omega arith in rw none h))
