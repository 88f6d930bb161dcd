use Rattle.std.proofs.Common.{◌≡◌, take}
use Rattle.fir_driven.specs.working.Indices.{elements_behind}
use Rattle.fir_driven.proofs.reached.each_element.Given as goal

abbrev pub invariant-loop-first : goal.invariant-loop-first
invariant-loop-first l = l.leaves.items ≡ elements_behind l.pick (take l.first-index l.firsts)
