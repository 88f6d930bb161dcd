use Rattle.std.proofs.Common.{List, ◌++◌, map, drop}
use Rattle.fir_ast.specs.Circuits.{CircuitTree}
use Rattle.fir_ast.specs.working.Views.{block_of, stmt_of}
use Rattle.fir_meaning.specs.Visibility.{Before, behind_block, declarations}
use Rattle.fir_meaning.specs.SizedDeclarations.{NumberedModule}
use Rattle.fir_meaning.specs.working.WellTyped.{AreLegal}
use Rattle.fir_meaning.specs.WidthExpressions.{Rule, Width}
use Rattle.fir_types.specs.working.ModuleNotes.{block_notes}
use Rattle.fir_types.specs.working.Notes.{Note}
use Rattle.fir_types.specs.working.Walked.{Begins}
use Rattle.fir_infer_widths.specs.working.Walks.{EntersAt}
use Rattle.fir_infer_widths.proofs.StatementWalks.{AtBlock}
use Rattle.fir_infer_widths.proofs.statements.+statements.Given as goal

abbrev pub invariant-in_block-loop-statement : goal.invariant-in_block-loop-statement
invariant-in_block-loop-statement l =
    (c : CircuitTree) (m : NumberedModule) (before : Before) (meant : List Width) (rules : List Rule) (rest : List Note)
    → EntersAt c l.ground m before meant rules (block_notes m.modules before (block_of (map stmt_of l.body)) ++ rest) l.initial.walk
    → Begins (behind_block before (block_of (map stmt_of l.body))).declared (declarations m.inside) → AreLegal m.modules before (block_of (map stmt_of l.body))
    → AtBlock c l.ground m before meant rules rest (block_of (map stmt_of l.body)) (block_of (map stmt_of (drop l.statement-index l.body))) l.initial.walk l.walk
