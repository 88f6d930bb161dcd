-- What a module may drive is driven in the circuit of a design exactly where the module drives it.
use Rattle.std.proofs.Common.{◌≡◌, ℕ, ◌+◌, ◌<◌, List, [], ◌∷◌, ◌++◌, map, Bool, true, false, ◌||◌, nat_lt, if◌then◌else◌, length, refl, sym, ap, ◌∙◌}
use Rattle.fir_base.specs.Lists.{In}
use Rattle.fir_ast.specs.Circuits.{CircuitTree}
use Rattle.fir_meaning.specs.SourceDependence.{PlacedModule, all_modules}
use Rattle.fir_meaning.specs.SourceDesigns.{SourceDesign}
use Rattle.fir_meaning.specs.working.Choices.{Live, covers_all, lives, lives_all, unless, driving}
use Rattle.fir_meaning.specs.working.Choices as choices
use Rattle.fir_meaning.specs.working.Designs.{Items, made_of}
use Rattle.fir_meaning.specs.working.Flattened.{flattened}
use Rattle.fir_meaning.specs.working.LeafBlocks.{LeafBlock, LeafStatement, done, drive, instance, then, when}
use Rattle.fir_meaning.specs.working.LeafModules.{LeafModule, depth_at, may_drive, role_at}
use Rattle.fir_meaning.specs.working.LeafedModules.{leafed_module, module_leaves}
use Rattle.fir_meaning.specs.working.Numberings.{number}
use Rattle.fir_meaning.specs.working.Terms.{Term}
use Rattle.fir_meaning.specs.working.UndrivenChoices.{drives, drives_any}
use Rattle.fir_leaf.specs.working.SoundDesigns.{circuit_path}
use Rattle.fir_leaf.proofs.FlatStores.{depths}
use Rattle.fir_design.specs.working.MeaningLaws.{AreDesigns}
use Rattle.fir_source_faults.specs.working.ReadsByPath.{path_in}
use Rattle.fir_design_faults.proofs.FlatLives.{moved_live, quiet}
use Rattle.fir_design_faults.proofs.WholeDesigns.{design_below}

no_right : {A : Type 0} → (xs ys : List A) → xs ++ ys ≡ [] → ys ≡ []
no_right [] ys e = e
no_right (x ∷ xs) ys e = cc

no_left : {A : Type 0} → (xs ys : List A) → xs ++ ys ≡ [] → xs ≡ []
no_left [] ys e = refl
no_left (x ∷ xs) ys e = cc

none_mapped : {A B : Type 0} → (f : A → B) (xs : List A) → map f xs ≡ [] → xs ≡ []
none_mapped f [] e = refl
none_mapped f (x ∷ xs) e = cc

-- a leaf that some statement drives has one that is live for it
module _ (depth x : ℕ) where
  two : (a b covered : Bool) (first second : List Live) → (a ≡ true → first ≡ [] → ⊥) → (b ≡ true → second ≡ [] → ⊥) → (b ≡ false → covered ≡ false)
      → (a || b) ≡ true → unless covered first ++ second ≡ [] → ⊥
  two a true covered first second one other free e none = other refl (no_right (unless covered first) second none)
  two true false true first second one other free e none = let clear : true ≡ false = free refl in cc
  two true false false first second one other free e none = one refl (no_left first second none)
  two false false covered first second one other free e none = cc

  either : (a b : Bool) (first second : List Live) → (a ≡ true → first ≡ [] → ⊥) → (b ≡ true → second ≡ [] → ⊥) → (a || b) ≡ true → first ++ second ≡ [] → ⊥
  either true b first second one other e none = one refl (no_left first second none)
  either false b first second one other e none = other e (no_right first second none)

  in_when : (early a b covered : Bool) (first second : List Live) (condition : Term) → (a ≡ true → first ≡ [] → ⊥) → (b ≡ true → second ≡ [] → ⊥)
      → (b ≡ false → covered ≡ false) → (a || b) ≡ true
      → (if early then unless covered first ++ second else map (choices.below condition) (first ++ second)) ≡ [] → ⊥
  in_when true a b covered first second condition one other free e none = two a b covered first second one other free e none
  in_when false a b covered first second condition one other free e none =
      either a b first second one other e (none_mapped (choices.below condition) (first ++ second) none)

  mutual
    some_live : (s : LeafStatement) (k : ℕ) → drives x s ≡ true → lives depth x s k ≡ [] → ⊥
    some_live (drive p b ps t) k e none = by _ e none
      where
        by : (reaches : Bool) → reaches ≡ true → (if reaches then driving p ps t ∷ [] else []) ≡ [] → ⊥
        by true e none = cc
        by false e none = cc
    some_live (when p c a b) k e none =
        in_when (nat_lt k depth) (drives_any x a) (drives_any x b) (covers_all depth x b (k + 1)) (lives_all depth x a (k + 1)) (lives_all depth x b (k + 1)) c
        (some_lives a (k + 1)) (some_lives b (k + 1)) (λ f. (quiet depth x b (k + 1) f).covers) e none
    some_live (instance i) k e none = cc

    pub some_lives : (b : LeafBlock) (k : ℕ) → drives_any x b ≡ true → lives_all depth x b k ≡ [] → ⊥
    some_lives done k e none = cc
    some_lives ((then) s b) k e none =
        two (drives x s) (drives_any x b) (covers_all depth x b k) (lives depth x s k) (lives_all depth x b k) (some_live s k) (some_lives b k)
        (λ f. (quiet depth x b k f).covers) e none

module _ (c : CircuitTree) (m : LeafModule) (is : Items) (t : SourceDesign) (a : AreDesigns c (made_of m is) t) (h : PlacedModule) (i : In (all_modules t) h)
    (y : ℕ) (lt : y < length (module_leaves h.scene)) (may : may_drive (role_at (leafed_module h.scene) y) ≡ true) (x : ℕ)
    (inside : x < length (flattened (made_of m is)).leaves) (path : h.at ++ path_in h.scene y ≡ circuit_path (flattened (made_of m is)) x) where
  pub driven_in_module : drives_any x (flattened (made_of m is)).body ≡ drives_any y (leafed_module h.scene).body
  driven_in_module =
      let g = flattened (made_of m is) in
      let own = (leafed_module h.scene).body in
      let member = (design_below c m is t a).member h i in
      let n = member.numbers in
      let agrees = (member.agrees y lt may).0 in
      let depth = depths g.leaves (number n y) in
      let same : number n y ≡ x = a.design.sound.once (number n y) x (member.stands.within y lt) inside (member.stands.path y lt ∙ path) in
      ap (λ z. drives_any z g.body) (sym same)
      ∙ by (drives_any (number n y) g.body) (drives_any y own) agrees.drives
      (λ all none.
      some_lives depth (number n y) g.body 0 all
      (agrees.lives ∙ ap (map (moved_live n)) (quiet (depth_at (leafed_module h.scene) y) y own 0 none).lives))
    where
      by : (all own : Bool) → (own ≡ true → all ≡ true) → (all ≡ true → own ≡ false → ⊥) → all ≡ own
      by true true f g = refl
      by false false f g = refl
      by true false f g = absurd (g refl refl)
      by false true f g = f refl
