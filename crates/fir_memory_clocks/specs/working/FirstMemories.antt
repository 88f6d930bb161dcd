-- The first of the memories that were found in the modules of some copies: that at the first place, and of the same place that of the first copy.
use Rattle.std.specs.Prelude.{◌≡◌, ℕ, ◌<◌, ◌≤◌, List, false, Option, Some, None, slice_get}
use Rattle.fir_meaning.specs.Lack.{is_before}
use Rattle.fir_elaborate.specs.declared.elaborated.ModuleCopy.{ModuleCopy}
use Rattle.fir_memory_clocks.specs.declared.first_site.Site.{Site}
use Rattle.fir_memory_clocks.specs.declared.module_memories.FoundMemory.{FoundMemory}

-- found in the module of the copy of a number
pub record IsFoundAt (found : List (Option FoundMemory)) (copies : List ModuleCopy) (i : ℕ) (v : FoundMemory) : Type 0 where
  pub copy : ModuleCopy
  pub is : slice_get copies i ≡ Some copy
  pub memory : slice_get found copy.module_number ≡ Some (Some v)

-- of those of the copies before the one of a number the first
pub record IsFirstSite (found : List (Option FoundMemory)) (copies : List ModuleCopy) (n : ℕ) (s : Site) : Type 0 where
  pub within : s.copy < n
  pub at : IsFoundAt found copies s.copy s.memory
  pub first : (i : ℕ) (v : FoundMemory) → i < n → IsFoundAt found copies i v → is_before v.place s.memory.place ≡ false
  pub first_copy : (i : ℕ) (v : FoundMemory) → i < n → IsFoundAt found copies i v → v.place ≡ s.memory.place → s.copy ≤ i

abbrev pub IsFirstBefore : List (Option FoundMemory) → List ModuleCopy → ℕ → Option Site → Type 0
IsFirstBefore found copies n None = (i : ℕ) (v : FoundMemory) → i < n → IsFoundAt found copies i v → ⊥
IsFirstBefore found copies n (Some s) = IsFirstSite found copies n s

-- that of the copy of a number alone
abbrev pub IsSiteOf : List (Option FoundMemory) → List ModuleCopy → ℕ → Option Site → Type 0
IsSiteOf found copies i None = (v : FoundMemory) → IsFoundAt found copies i v → ⊥
IsSiteOf found copies i (Some s) = (s.copy ≡ i) × IsFoundAt found copies i s.memory
