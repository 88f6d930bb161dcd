use Rattle.std.specs.Prelude.{◌↔◌}
use Rattle.std.specs.List.{AllByRecursion}
use Rattle.std.proofs.Common.{drop}
use Rattle.ver_ast.specs.declared.tree.Verilog.{Verilog}
use Rattle.ver_ast.specs.Valid.{IsWrite}
use Rattle.ver_valid.specs.working.Scopes.{Tells}
use Rattle.ver_valid.proofs.block.writes_of.Given as goal

abbrev pub invariant-loop-write : goal.invariant-loop-write
invariant-loop-write l =
    (v : Verilog) → Tells l.scope v → AllByRecursion (IsWrite v l.array) (drop l.write-index l.writes) ↔ AllByRecursion (IsWrite v l.array) l.writes
