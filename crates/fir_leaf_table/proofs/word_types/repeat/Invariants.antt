use Rattle.std.proofs.Common.{◌≡◌, ◌++◌, drop}
use Rattle.fir_meaning.specs.HeldTypes.{repeated}
use Rattle.fir_leaf_table.proofs.word_types.repeat.Given as goal

abbrev pub invariant-loop : goal.invariant-loop
invariant-loop l = l.types.items ≡ l.initial.types.items ++ repeated l.counter (drop l.start l.initial.types.items)
