use Rattle.std.proofs.Common.{List, map, drop}
use Rattle.fir_ast.specs.Circuits.{ModuleTree}
use Rattle.fir_ast.specs.working.Views.{block_of, stmt_of}
use Rattle.fir_meaning.specs.Components.{Declarations}
use Rattle.fir_meaning.specs.Visibility.{Before, behind_block}
use Rattle.fir_types.specs.working.Walked.{Begins, IsOfModule, Walks}
use Rattle.fir_check.proofs.StatementWalks.{NotedBlock}
use Rattle.fir_check.proofs.statements.+statements.Given as goal

abbrev pub invariant-in_block-loop-statement : goal.invariant-in_block-loop-statement
invariant-in_block-loop-statement l =
    (modules : List ModuleTree) (before : Before) (whole : Declarations) → IsOfModule modules l.names whole
    → Begins (behind_block before (block_of (map stmt_of l.body))).declared whole → Walks modules l.bundles l.initial.scope before
    → NotedBlock modules l.bundles l.initial.scope l.scope l.initial.notes.items l.notes.items before (block_of (map stmt_of l.body))
    (block_of (map stmt_of (drop l.statement-index l.body)))
