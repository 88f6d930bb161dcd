use Rattle.std.proofs.Common.{◌≡◌, map, take}
use Rattle.fir_ast.specs.working.Views.{module_of}
use Rattle.fir_names.specs.working.Ordered.{name_at}
use Rattle.fir_resolve.proofs.recursion.names_at.Given as goal

abbrev pub invariant-loop-number : goal.invariant-loop-number
invariant-loop-number l = l.names.items ≡ map (name_at (map module_of l.modules)) (take l.number-index l.numbers)
