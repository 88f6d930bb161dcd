use Rattle.std.proofs.Common.{List, map, drop}
use Rattle.fir_ast.specs.Statements.{PlacedName}
use Rattle.fir_ast.specs.working.Views.{block_of, stmt_of}
use Rattle.fir_meaning.specs.Visibility.{Before}
use Rattle.fir_names.specs.working.Numbered.{HasNumbers}
use Rattle.fir_resolve.specs.working.Scoped.{Walks}
use Rattle.fir_resolve.proofs.WalkedBlocks.{AtBlock}
use Rattle.fir_resolve.proofs.statements.+statements.Given as goal

abbrev pub invariant-in_block-loop-statement : goal.invariant-in_block-loop-statement
invariant-in_block-loop-statement l =
    (modules : List PlacedName) (before : Before) → HasNumbers l.numbers modules → Walks modules l.initial.scope before
    → AtBlock modules l.initial.scope l.scope before (block_of (map stmt_of l.body)) (block_of (map stmt_of (drop l.statement-index l.body)))
