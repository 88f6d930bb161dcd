use Rattle.std.proofs.Common.{◌≡◌, ◌++◌, map}
use Rattle.ver_ast.specs.declared.tree.Item.TheVariants as item
use Rattle.ver_build.specs.working.Built.{inner_assign}
use Rattle.ver_build.proofs.items.put_inner_assigns.Given as goal

abbrev pub invariant-loop-inner : goal.invariant-loop-inner
invariant-loop-inner l = l.items.items ≡ l.initial.items.items ++ map (λ i. item.Assign (inner_assign i)) l.yielded
