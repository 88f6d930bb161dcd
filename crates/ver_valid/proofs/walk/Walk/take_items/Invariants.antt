use Rattle.ver_ast.specs.declared.tree.Verilog.{Verilog}
use Rattle.ver_valid.specs.working.Walks.{Reflects}
use Rattle.ver_valid.proofs.Steps.{AmidItems}
use Rattle.ver_valid.proofs.walk.Walk.take_items.Given as goal

abbrev pub invariant-loop-item : goal.invariant-loop-item
invariant-loop-item l = (v : Verilog) → Reflects l.initial.self v → AmidItems l.self v l.items l.item-index
