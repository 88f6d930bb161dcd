use Rattle.std.proofs.Common.{take}
use Rattle.fir_type_table.proofs.FirstMembers.{HasFirsts}
use Rattle.fir_type_table.proofs.sizes.first_numbers.Given as goal

abbrev pub invariant-loop-number : goal.invariant-loop-number
invariant-loop-number l = HasFirsts l.numbers (take l.number l.members)
