use Rattle.std.proofs.Common.{take}
use Rattle.std.specs.List.{AllByRecursion}
use Rattle.ver_ast.specs.declared.tree.Verilog.{Verilog}
use Rattle.ver_sim.specs.working.Blocks.{IsSomeWrite, IsWriteTaskOf}
use Rattle.ver_sim.specs.working.Pairs.{EachPair}
use Rattle.ver_sim.specs.working.Tables.{Know}
use Rattle.ver_sim.proofs.block_tasks.write_tasks.Given as goal

abbrev pub invariant-loop-write : goal.invariant-loop-write
invariant-loop-write l =
    (v : Verilog) → Know v l.tables → AllByRecursion (IsSomeWrite v) l.writes → EachPair (IsWriteTaskOf v) l.found.items (take l.write-index l.writes)
