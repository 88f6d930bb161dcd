-- Which modules have copies, by their numbers.
use Rattle.std.specs.Prelude.{◌≡◌, ℕ, ◌<◌, List, length, Bool, true, Some, slice_get}
use Rattle.fir_base.specs.Lists.{In}
use Rattle.fir_elaborate.specs.declared.elaborated.ModuleCopy.{ModuleCopy}

pub record AreHeld (count : ℕ) (copies : List ModuleCopy) (held : List Bool) : Type 0 where
  pub long : length held ≡ count
  pub each : (k : ModuleCopy) → In copies k → k.module_number < count → slice_get held k.module_number ≡ Some true
