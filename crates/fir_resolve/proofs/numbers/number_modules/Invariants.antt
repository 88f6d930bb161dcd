use Rattle.std.proofs.Common.{map, take}
use Rattle.fir_ast.specs.working.Views.{module_of}
use Rattle.fir_names.specs.working.Numbered.{HasNumbers, names_of}
use Rattle.fir_resolve.proofs.numbers.number_modules.Given as goal

abbrev pub invariant-loop-number : goal.invariant-loop-number
invariant-loop-number l = HasNumbers l.numbers (names_of (map module_of (take l.number l.modules)))
