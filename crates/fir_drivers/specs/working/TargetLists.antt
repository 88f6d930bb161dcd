-- The leaves that whens choose for, in lists that are taken from the end.
use Rattle.std.specs.Prelude.{◌≡◌, ℕ, ◌+◌, ◌<◌, ◌≤◌, List, [], ◌∷◌, ◌++◌, length, Bool, false, not, ◌&&◌, ◌||◌, nat_lt}
use Rattle.fir_meaning.specs.working.TermReads.{is_among}
use Rattle.fir_meaning.specs.working.LeafBlocks.{LeafStatement, LeafBlock, drive, when, instance, done, then}
use Rattle.fir_meaning.specs.working.UndrivenChoices.{drives_any}
use Rattle.fir_driven.specs.working.Covering.{depth_in, flag_at}

-- a leaf that is declared outside a when within so many, and that a statement of a block of it drives
abbrev pub is_target : List ℕ → ℕ → LeafBlock → LeafBlock → ℕ → Bool
is_target depths k a b x = not (nat_lt k (depth_in depths x)) && (drives_any x a || drives_any x b)

abbrev pub ListsTargets : List ℕ → ℕ → LeafBlock → LeafBlock → List ℕ → Type 0
ListsTargets depths k a b xs = (x : ℕ) → x < length depths → is_among xs x ≡ is_target depths k a b x

-- the lists of a statement, and of a block, stand behind others: those of the last statement first, and in a when those of its second block, those of its
-- first, and its own
abbrev mutual
  pub StacksStatement : List ℕ → LeafStatement → ℕ → List (List ℕ) → List (List ℕ) → Type 0
  StacksStatement depths (drive p b ps t) k before after = after ≡ before
  StacksStatement depths (when p c a b) k before after =
      (between : List (List ℕ)) × (inside : List (List ℕ)) × (own : List ℕ) × StacksBlock depths b (k + 1) before between
      × StacksBlock depths a (k + 1) between inside × ListsTargets depths k a b own × (after ≡ inside ++ own ∷ [])
  StacksStatement depths (instance i) k before after = after ≡ before

  pub StacksBlock : List ℕ → LeafBlock → ℕ → List (List ℕ) → List (List ℕ) → Type 0
  StacksBlock depths done k before after = after ≡ before
  StacksBlock depths ((then) s b) k before after =
      (between : List (List ℕ)) × StacksBlock depths b k before between × StacksStatement depths s k between after

-- there is a mark for each leaf, and none is marked
pub record AreUnmarked (depths : List ℕ) (marks : List Bool) : Type 0 where
  pub count : length marks ≡ length depths
  pub unmarked : (x : ℕ) → x < length depths → flag_at marks x ≡ false

-- what a walk within so many whens adds: its lists, and the leaves that are driven; those that are declared further in may be left out
pub record Collects (depths : List ℕ) (k : ℕ) (driven : ℕ → Bool) (Stacks : List (List ℕ) → List (List ℕ) → Type 0) (marks : List Bool)
    (lists_before lists_after : List (List ℕ)) (before after : List ℕ) : Type 0 where
  pub unmarked : AreUnmarked depths marks
  pub stacks : Stacks lists_before lists_after
  pub listed : (x : ℕ) → x < length depths → depth_in depths x ≤ k → is_among after x ≡ (is_among before x || driven x)

-- those of the leaves that are declared within no more than so many whens
pub record TakesOuter (depths : List ℕ) (k : ℕ) (leaves outer : List ℕ) (marks : List Bool) : Type 0 where
  pub unmarked : AreUnmarked depths marks
  pub listed : (x : ℕ) → x < length depths → is_among outer x ≡ (not (nat_lt k (depth_in depths x)) && is_among leaves x)
