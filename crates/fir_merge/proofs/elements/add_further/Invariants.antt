use Rattle.std.proofs.Common.{take}
use Rattle.fir_merge.specs.working.Elements.{AddsFurther}
use Rattle.fir_merge.proofs.elements.add_further.Given as goal

abbrev pub invariant-loop-element : goal.invariant-loop-element
invariant-loop-element l = AddsFurther l.fn.net l.net (take l.element-index l.found) l.index l.further.items
