-- Leaves that statements reach under every choice.
use Rattle.std.specs.Prelude.{◌≡◌, ℕ, ◌<◌, List, length, Bool, false, slice_index_or}
use Rattle.fir_meaning.specs.working.LeafBlocks.{LeafBlock}
use Rattle.fir_meaning.specs.working.Choices.{covers_all}

-- how many whens stand round the declaration of a leaf
abbrev pub depth_in : List ℕ → ℕ → ℕ
depth_in depths x = slice_index_or depths x 0

abbrev pub flag_at : List Bool → ℕ → Bool
flag_at flags x = slice_index_or flags x false

-- one flag for each leaf: whether some statement reaches it under every choice
pub record AreCovered (depths : List ℕ) (b : LeafBlock) (flags : List Bool) : Type 0 where
  pub count : length flags ≡ length depths
  pub each : (x : ℕ) → x < length depths → flag_at flags x ≡ covers_all (depth_in depths x) x b 0
