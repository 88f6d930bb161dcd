-- The memories of a module have in the whole the types that they have in it.
use Rattle.std.proofs.Common.{◌≡◌, ℕ, ◌+◌, ◌<◌, List, length, map, slice_get, Some, ◌∙◌}
use Rattle.fir_base.proofs.Each.{all_at, all_from, all_mapped}
use Rattle.fir_meaning.specs.LeafPaths.{LeafPath}
use Rattle.fir_meaning.specs.LeafTypes.{LeafType}
use Rattle.fir_meaning.specs.working.FlatLeaves.{placed_array}
use Rattle.fir_meaning.specs.working.LeafModules.{LeafArray, LeafDeclared, LeafModule, Need, Reading, Role, Writing, computed, leaf_at, pipe, reading, register, sink, source}
use Rattle.fir_meaning.specs.working.Numberings.{Numbering, moved_need, moved_reading, moved_role, moved_writing, number}
use Rattle.fir_memory_types.specs.working.TypedMemories.{AreNeedsTyped, IsAddressTyped, IsArrayTyped, IsClockTyped, IsMemoryRoleTyped, IsNeedTyped, IsReadingTyped, IsWritingTyped}

-- the leaves of a module stand in a table, and hold there what they hold in it
pub record FitsIn (leaves : List LeafDeclared) (n : Numbering) (m : LeafModule) : Type 0 where
  pub within : (x : ℕ) → x < length m.leaves → number n x < length leaves
  pub holds : (x : ℕ) → x < length m.leaves → (leaf_at leaves (number n x)).holds ≡ (leaf_at m.leaves x).holds

module _ (leaves : List LeafDeclared) (n : Numbering) (m : LeafModule) (fits : FitsIn leaves n m) where
  address_moved : (x : ℕ) → IsAddressTyped m.leaves x → IsAddressTyped leaves (number n x)
  address_moved x h = record {
    within = fits.within x h.within;
    width = h.width;
    is = fits.holds x h.within ∙ h.is;
    has_bits = h.has_bits;
  }

  clock_moved : (x : ℕ) → IsClockTyped m.leaves x → IsClockTyped leaves (number n x)
  clock_moved x h = record { within = fits.within x h.within; is = fits.holds x h.within ∙ h.is }

  need_moved : (x : Need) → IsNeedTyped m.leaves x → IsNeedTyped leaves (moved_need n x)
  need_moved x h = record { within = fits.within x.leaf h.within; is = fits.holds x.leaf h.within ∙ h.is }

  needs_moved : (xs : List Need) → AreNeedsTyped m.leaves xs → AreNeedsTyped leaves (map (moved_need n) xs)
  needs_moved xs h =
      all_mapped (IsNeedTyped leaves) (moved_need n) xs
      (all_from (λ x. IsNeedTyped leaves (moved_need n x)) xs (λ x i. need_moved x (all_at (IsNeedTyped m.leaves) xs h x i)))

  writing_moved : (t : LeafType) (w : Writing) → IsWritingTyped m.leaves t w → IsWritingTyped leaves t (moved_writing n w)
  writing_moved t w h = record {
    address = address_moved w.address h.address;
    needs = needs_moved w.needs h.needs;
    clock = clock_moved w.clock h.clock;
    given_within = fits.within w.given h.given_within;
    given = fits.holds w.given h.given_within ∙ h.given;
  }

  pub array_moved : (path : LeafPath) (a : LeafArray) → IsArrayTyped m.leaves a → IsArrayTyped leaves (placed_array path n a)
  array_moved path a h = record {
    data_type = h.data_type;
    is = h.is;
    narrow = h.narrow;
    words = h.words;
    writings =
        all_mapped (IsWritingTyped leaves a.holds) (moved_writing n) a.writings
        (all_from (λ w. IsWritingTyped leaves a.holds (moved_writing n w)) a.writings
        (λ w i. writing_moved a.holds w (all_at (IsWritingTyped m.leaves a.holds) a.writings h.writings w i)));
  }

  module _ (arrays : List LeafArray) (path : LeafPath) (array : ℕ)
      (there : (i : ℕ) (a : LeafArray) → slice_get m.arrays i ≡ Some a → slice_get arrays (array + i) ≡ Some (placed_array path n a)) where
    reading_moved : (t : LeafType) (r : Reading) → IsReadingTyped m.leaves m.arrays t r → IsReadingTyped leaves arrays t (moved_reading n array r)
    reading_moved t r h = record {
      array = placed_array path n h.array;
      is_there = there r.array h.array h.is_there;
      holds = h.holds;
      address = address_moved r.address h.address;
      needs = needs_moved r.needs h.needs;
    }

    pub memory_role_moved : (t : LeafType) (r : Role) → IsMemoryRoleTyped m.leaves m.arrays t r
        → IsMemoryRoleTyped leaves arrays t (moved_role n array r)
    memory_role_moved t source h = tt
    memory_role_moved t sink h = tt
    memory_role_moved t (computed e) h = tt
    memory_role_moved t (register clock reset) h = tt
    memory_role_moved t (reading r) h = reading_moved t r h
    memory_role_moved t (pipe r clock under) h = (reading_moved t r h.0, clock_moved clock h.1)
