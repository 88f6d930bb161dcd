use Rattle.std.proofs.Common.{◌≡◌, length}
use Rattle.fir_least_widths.specs.working.Readers.{ReadersWithin}
use Rattle.fir_least_widths.proofs.readers.no_readers.Given as goal

abbrev pub invariant-loop : goal.invariant-loop
invariant-loop l = record { long : length l.readers.items ≡ l.counter; none : ReadersWithin l.readers.items 0 }
