use Rattle.std.proofs.Common.{◌≡◌, length}
use Rattle.fir_least_widths.specs.working.Readers.{AllRead, ReadersWithin}
use Rattle.fir_least_widths.proofs.readers.readers_of.Given as goal

abbrev pub invariant-loop-place : goal.invariant-loop-place
invariant-loop-place l = record {
  long : length l.readers.items ≡ l.unknowns;
  read : AllRead l.bounds l.readers.items l.place;
  within : ReadersWithin l.readers.items l.place;
}
