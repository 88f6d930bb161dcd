use Rattle.std.proofs.Common.{◌≡◌, ◌++◌, take}
use Rattle.ver_ast.specs.declared.tree.Item.TheVariants as item
use Rattle.ver_build.specs.working.Built.{given, leaf_clock_assign, along}
use Rattle.ver_build.proofs.clock_outputs.put_clock_assigns.Given as goal

abbrev pub invariant-loop-k : goal.invariant-loop-k
invariant-loop-k l = l.items.items ≡ l.initial.items.items ++ along (given item.Assign (leaf_clock_assign l.table l.places)) l.table.leaves 0 (take l.k l.leaves)
