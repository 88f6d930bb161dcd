-- What is found within a type of the table has a lower rank.
use Rattle.std.proofs.Common.{ℕ, ◌+◌}
use Rattle.fir_types.specs.declared.found.Found.{Found}
use Rattle.fir_types.specs.declared.found.Found.TheVariants as found

abbrev pub rank : Found → ℕ
rank (found.Type id is_bare) = id.number + 1
rank (found.Number signed width) = 0
rank found.AsyncReset = 0
