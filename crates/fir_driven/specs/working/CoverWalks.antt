-- The walk that finds the leaves that are covered: what it has of each leaf, and what a statement within so many whens adds.
use Rattle.std.specs.Prelude.{◌≡◌, ℕ, ◌<◌, ◌≤◌, List, length, Bool, false, not, ◌&&◌, ◌||◌, nat_lt}
use Rattle.fir_meaning.specs.working.TermReads.{is_among}
use Rattle.fir_meaning.specs.working.LeafBlocks.{LeafStatement, LeafBlock}
use Rattle.fir_meaning.specs.working.Choices.{covers, covers_all}
use Rattle.fir_driven.specs.working.Covering.{depth_in, flag_at}
use Rattle.fir_driven.specs.working.FlagChanges.{FlagsBecome}
use Rattle.fir_driven.specs.declared.covered.Covering.{Covering}

-- whether a statement, or a block, within so many whens covers the leaf
abbrev pub is_covered : List ℕ → LeafStatement → ℕ → ℕ → Bool
is_covered depths s k x = covers (depth_in depths x) x s k

abbrev pub is_covered_in : List ℕ → LeafBlock → ℕ → ℕ → Bool
is_covered_in depths b k x = covers_all (depth_in depths x) x b k

-- there is a flag and a mark for each leaf, and none is marked
pub record IsReady (depths : List ℕ) (covering : Covering) : Type 0 where
  pub covered : length covering.covered.items ≡ length depths
  pub marks : length covering.marks.items ≡ length depths
  pub unmarked : (x : ℕ) → x < length depths → flag_at covering.marks.items x ≡ false

-- leaves that are covered are listed behind others or flagged, and those that are declared within no more whens are listed alone
pub record Covers (depths : List ℕ) (k : ℕ) (covered : ℕ → Bool) (old new : Covering) (before after : List ℕ) : Type 0 where
  pub ready : IsReady depths new
  pub outer : (x : ℕ) → x < length depths → depth_in depths x ≤ k → flag_at new.covered.items x ≡ flag_at old.covered.items x
  pub listed : (x : ℕ) → x < length depths → depth_in depths x ≤ k → is_among after x ≡ (is_among before x || covered x)
  pub found : (x : ℕ) → x < length depths
      → (flag_at new.covered.items x || is_among after x) ≡ ((flag_at old.covered.items x || is_among before x) || covered x)

-- the end of a when: leaves of both lists are listed behind others, and those of either that are declared further in are flagged
pub record Joins (depths : List ℕ) (k : ℕ) (first second : List ℕ) (old new : Covering) (before after : List ℕ) : Type 0 where
  pub ready : IsReady depths new
  pub flags : (x : ℕ) → x < length depths
      → flag_at new.covered.items x ≡ (flag_at old.covered.items x || ((is_among first x || is_among second x) && nat_lt k (depth_in depths x)))
  pub listed : (x : ℕ) → x < length depths → is_among after x ≡ (is_among before x || (is_among first x && is_among second x))

-- the marked ones among some leaves are listed behind others, and marked no more
pub record MovesMarked (leaves : List ℕ) (marks_before marks_after : List Bool) (before after : List ℕ) : Type 0 where
  pub marks : FlagsBecome marks_before marks_after (λ x was. was && not (is_among leaves x))
  pub listed : (x : ℕ) → x < length marks_before → is_among after x ≡ (is_among before x || (flag_at marks_before x && is_among leaves x))
