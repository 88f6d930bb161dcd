use Rattle.std.proofs.Common.{◌≡◌, ◌++◌, take, map}
use Rattle.ver_ast.specs.declared.tree.Item.TheVariants as item
use Rattle.ver_build.specs.working.Built.{inner_wire}
use Rattle.ver_build.proofs.items.put_wires.Given as goal

abbrev pub invariant-loop-inner : goal.invariant-loop-inner
invariant-loop-inner l = l.items.items ≡ l.initial.items.items ++ map (λ i. item.Wire (inner_wire i)) (take l.inner-index l.inners)
