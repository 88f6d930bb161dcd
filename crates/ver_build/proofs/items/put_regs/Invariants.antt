use Rattle.std.proofs.Common.{◌≡◌, ◌++◌, take}
use Rattle.ver_ast.specs.declared.tree.Item.TheVariants as item
use Rattle.ver_build.specs.working.Built.{given, leaf_reg, at_numbers}
use Rattle.ver_build.proofs.items.put_regs.Given as goal

abbrev pub invariant-loop-word : goal.invariant-loop-word
invariant-loop-word l =
    l.items.items ≡ l.initial.items.items ++ at_numbers (given item.Reg leaf_reg) l.table.leaves l.net.leaves (take l.word-index l.words)
