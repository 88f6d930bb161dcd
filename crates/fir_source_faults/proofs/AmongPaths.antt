-- A leaf is among others of its module exactly where its path is among theirs.
use Rattle.std.proofs.Common.{◌≡◌, ℕ, ◌<◌, List, [], ◌∷◌, Bool, true, false, ◌||◌, length, nat_eq, refl, ap, ap₂, ◌∙◌}
use Rattle.std.specs.List.{AllByRecursion}
use Rattle.std.proofs.lemmas.Bool.{eqb-true}
use Rattle.fir_meaning.specs.ModuleScenes.{Scene}
use Rattle.fir_meaning.specs.working.LeafedModules.{module_leaves}
use Rattle.fir_meaning.specs.SourceChoices.{has_path}
use Rattle.fir_meaning.specs.working.TermReads.{is_among}
use Rattle.fir_meaning.specs.SamePaths.{same_path}
use Rattle.fir_leaf.proofs.FlatStores.{same_path_is, same_path_refl}
use Rattle.fir_leaf.proofs.PickedLeaves.{same_is}
use Rattle.fir_source_faults.specs.working.ReadsByPath.{ReadsByPath, path_in, paths_in}

module _ (s : Scene) (reads : ReadsByPath s) where
  same_leaf : (y x : ℕ) → y < length (module_leaves s) → x < length (module_leaves s) → nat_eq y x ≡ same_path (path_in s y) (path_in s x)
  same_leaf y x less lt = by (nat_eq y x) (same_path (path_in s y) (path_in s x)) refl refl
    where
      by : (a b : Bool) → nat_eq y x ≡ a → same_path (path_in s y) (path_in s x) ≡ b → a ≡ b
      by true true e h = refl
      by false false e h = refl
      by true false e h =
          let is : y ≡ x = eqb-true y x e in
          let same : same_path (path_in s y) (path_in s x) ≡ true =
          ap (λ z. same_path (path_in s z) (path_in s x)) is ∙ same_path_refl (path_in s x) in
          cc
      by false true e h =
          let is : y ≡ x = reads.once y x less lt (same_path_is (path_in s y) (path_in s x) h) in
          let same : nat_eq y x ≡ true = ap (λ z. nat_eq z x) is ∙ same_is x in
          cc

  pub among_paths : (xs : List ℕ) (x : ℕ) → AllByRecursion (λ y. y < length (module_leaves s)) xs → x < length (module_leaves s)
      → is_among xs x ≡ has_path (paths_in s xs) (path_in s x)
  among_paths [] x within lt = refl
  among_paths (y ∷ xs) x within lt = ap₂ (λ a b. a || b) (same_leaf y x within.0 lt) (among_paths xs x within.1 lt)
