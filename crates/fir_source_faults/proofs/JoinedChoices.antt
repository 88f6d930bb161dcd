-- What is live, told and driven in one block over leaves behind another, and choices on both.
use Rattle.std.proofs.Common.{◌≡◌, ℕ, ◌+◌, List, [], ◌∷◌, ◌++◌, Bool, true, false, ◌&&◌, ◌||◌, nat_lt, if◌then◌else◌, Option, Some, None, refl, sym, ap, ap₂, ◌∙◌, append_assoc}
use Rattle.std.proofs.lemmas.Bool.{or_parts}
use Rattle.fir_ast.specs.declared.fault.Outcome.{Outcome}
use Rattle.fir_meaning.specs.working.Choices.{Choice, Live, first_part, last, last_all, later, second_part}
use Rattle.fir_meaning.specs.working.LeafBlocks.{LeafBlock, LeafStatement, done, drive, instance, joined, then, when}
use Rattle.fir_meaning.specs.SourceChoices as tree
use Rattle.fir_meaning.specs.SourceDrives.{Drive}
use Rattle.fir_meaning.specs.working.TermReads.{is_picked}
use Rattle.fir_meaning.specs.Outcomes.{write_told}
use Rattle.fir_ast.specs.declared.fault.Outcome.TheVariants as outcome
use Rattle.fir_meaning.specs.LeafPaths.{LeafPath}
use Rattle.fir_meaning.specs.working.UndrivenChoices.{drives, drives_any, told, told_all}

-- a choice made of an outcome and two choices
abbrev pub split : Bool → Choice → Choice → Choice
split here f g [] = here
split here f g (false ∷ way) = f way
split here f g (true ∷ way) = g way

-- a choice on what stands behind a block, and one made of a choice on the block and one behind it
abbrev pub past : LeafBlock → Choice → Choice
past done f = f
past ((then) s b) f = past b (second_part f)

abbrev pub merged : LeafBlock → Choice → Choice → Choice
merged done f g = g
merged ((then) s b) f g = split (f []) (first_part f) (merged b (second_part f) g)

later_none : (o : Option Live) → later o None ≡ o
later_none None = refl
later_none (Some l) = refl

later_thrice : (a b c : Option Live) → later (later a b) c ≡ later a (later b c)
later_thrice None b c = refl
later_thrice (Some l) b c = refl

pub nothing_later : {A : Type 0} → (o : Option A) → tree.later o None ≡ o
nothing_later None = refl
nothing_later (Some d) = refl

tree_thrice : {A : Type 0} → (a b c : Option A) → tree.later (tree.later a b) c ≡ tree.later a (tree.later b c)
tree_thrice None b c = refl
tree_thrice (Some d) b c = refl

or_thrice : (a b c : Bool) → (a || (b || c)) ≡ ((a || b) || c)
or_thrice true b c = refl
or_thrice false b c = refl

pub drives_joined : (x : ℕ) (a b : LeafBlock) → drives_any x (joined a b) ≡ (drives_any x a || drives_any x b)
drives_joined x done b = refl
drives_joined x ((then) s a) b = ap (λ o. drives x s || o) (drives_joined x a b) ∙ or_thrice (drives x s) (drives_any x a) (drives_any x b)

module _ (depth x : ℕ) where
  pub last_joined : (a b : LeafBlock) (k : ℕ) (f : Choice)
      → last_all depth x (joined a b) k f ≡ later (last_all depth x b k (past a f)) (last_all depth x a k f)
  last_joined done b k f = sym (later_none (last_all depth x b k f))
  last_joined ((then) s a) b k f =
      ap (λ o. later o (last depth x s k (first_part f))) (last_joined a b k (second_part f))
      ∙ later_thrice (last_all depth x b k (past a (second_part f))) (last_all depth x a k (second_part f)) (last depth x s k (first_part f))

  pub last_merged : (a b : LeafBlock) (k : ℕ) (f g : Choice)
      → last_all depth x (joined a b) k (merged a f g) ≡ later (last_all depth x b k g) (last_all depth x a k f)
  last_merged done b k f g = sym (later_none (last_all depth x b k g))
  last_merged ((then) s a) b k f g =
      ap (λ o. later o (last depth x s k (first_part f))) (last_merged a b k (second_part f) g)
      ∙ later_thrice (last_all depth x b k g) (last_all depth x a k (second_part f)) (last depth x s k (first_part f))

  pub told_joined : (a b : LeafBlock) (k : ℕ) (f : Choice)
      → told_all depth x (joined a b) k f ≡ told_all depth x a k f ++ told_all depth x b k (past a f)
  told_joined done b k f = refl
  told_joined ((then) s a) b k f =
      ap (λ (os : List Outcome). told depth x s k (first_part f) ++ os) (told_joined a b k (second_part f))
      ∙ sym (append_assoc (told depth x s k (first_part f)) (told_all depth x a k (second_part f)) (told_all depth x b k (past a (second_part f))))

  pub told_merged : (a b : LeafBlock) (k : ℕ) (f g : Choice)
      → told_all depth x (joined a b) k (merged a f g) ≡ told_all depth x a k f ++ told_all depth x b k g
  told_merged done b k f g = refl
  told_merged ((then) s a) b k f g =
      ap (λ (os : List Outcome). told depth x s k (first_part f) ++ os) (told_merged a b k (second_part f) g)
      ∙ sym (append_assoc (told depth x s k (first_part f)) (told_all depth x a k (second_part f)) (told_all depth x b k g))

  -- where nothing drives the leaf, nothing is told
  mutual
    nothing_by : (s : LeafStatement) (k : ℕ) (f : Choice) → drives x s ≡ false → told depth x s k f ≡ []
    nothing_by (drive p b ps t) k f h = rw h (by (is_picked ps))
      where
        by : (picked : Bool) → write_told (picked && false) p (f []) ≡ []
        by true = refl
        by false = refl
    nothing_by (when p c a b) k f h =
        let both = or_parts (drives_any x a) (drives_any x b) h in
        by (nat_lt k depth) (ap₂ (λ (os ps : List Outcome). os ++ ps) (nothing_told a (k + 1) (first_part f) both.0)
        (nothing_told b (k + 1) (second_part f) both.1))
      where
        by : (outside : Bool) → told_all depth x a (k + 1) (first_part f) ++ told_all depth x b (k + 1) (second_part f) ≡ []
            → (if outside then told_all depth x a (k + 1) (first_part f) ++ told_all depth x b (k + 1) (second_part f)
            else if drives_any x a || drives_any x b
            then outcome.When p (f []) ∷ (if f [] then told_all depth x a (k + 1) (first_part f) else told_all depth x b (k + 1) (second_part f))
            else []) ≡ []
        by true e = e
        by false e = rw h refl
    nothing_by (instance i) k f h = refl

    pub nothing_told : (b : LeafBlock) (k : ℕ) (f : Choice) → drives_any x b ≡ false → told_all depth x b k f ≡ []
    nothing_told done k f h = refl
    nothing_told ((then) s b) k f h =
        let both = or_parts (drives x s) (drives_any x b) h in
        ap₂ (λ (os ps : List Outcome). os ++ ps) (nothing_by s k (first_part f) both.0) (nothing_told b k (second_part f) both.1)

-- drives by paths behind others
pub last_behind : (depth : ℕ) (x : LeafPath) (f : tree.Choice) (ds es : List Drive)
    → tree.last_reaching depth x f (ds ++ es) ≡ tree.later (tree.last_reaching depth x f es) (tree.last_reaching depth x f ds)
last_behind depth x f [] es = sym (nothing_later (tree.last_reaching depth x f es))
last_behind depth x f (d ∷ ds) es =
    ap (λ (o : Option Drive). tree.later o (if tree.reaches depth x f d then Some d else None)) (last_behind depth x f ds es)
    ∙ tree_thrice (tree.last_reaching depth x f es) (tree.last_reaching depth x f ds) (if tree.reaches depth x f d then Some d else None)
