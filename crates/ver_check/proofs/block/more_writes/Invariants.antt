use Rattle.std.proofs.Common.{◌≡◌, ◌≤◌, drop}
use Rattle.std.specs.Prelude.{Some}
use Rattle.ver_check.specs.Scopes.{bits_of, word_bits}
use Rattle.ver_check.specs.ItemFaults.{Before, more_writes_faults}
use Rattle.ver_check.specs.working.Blocks.{HasScope}
use Rattle.ver_check.proofs.block.more_writes.Given as goal

abbrev pub invariant-loop-write : goal.invariant-loop-write
invariant-loop-write l =
    (before : Before) → HasScope l.beside before → bits_of word_bits before.scope l.array ≡ Some l.width → l.width ≤ 128
    → more_writes_faults before l.array l.writes l.places ≡ more_writes_faults before l.array (drop l.write-index l.writes) l.next
