use Rattle.std.proofs.Common.{List, ◌++◌, ◌≤◌, map, drop}
use Rattle.fir_ast.specs.Circuits.{ModuleTree}
use Rattle.fir_ast.specs.working.Views.{block_of, stmt_of}
use Rattle.fir_meaning.specs.Components.{Declarations}
use Rattle.fir_meaning.specs.CostGroup.{cost_limit}
use Rattle.fir_meaning.specs.Costs.{ModuleCosts, cost_of_block}
use Rattle.fir_meaning.specs.Visibility.{Before, behind_block}
use Rattle.fir_meaning.specs.working.WellTyped.{AreLegal}
use Rattle.fir_types.specs.working.ModuleNotes.{block_notes}
use Rattle.fir_types.specs.working.Notes.{Note}
use Rattle.fir_types.specs.working.Walked.{Begins}
use Rattle.fir_ground.specs.working.Statements.{EntersAt}
use Rattle.fir_ground.proofs.PlaceWalks.{AtBlock}
use Rattle.fir_ground.proofs.statements.+statements.Given as goal

abbrev pub invariant-in_block-loop-statement : goal.invariant-in_block-loop-statement
invariant-in_block-loop-statement l =
    (modules : List ModuleTree) (costs : ModuleCosts) (whole : Declarations) (before : Before) (rest : List Note)
    → EntersAt l.frame modules whole before (block_notes modules before (block_of (map stmt_of l.body)) ++ rest) l.initial.declared l.initial.walk
    → Begins (behind_block before (block_of (map stmt_of l.body))).declared whole → AreLegal modules before (block_of (map stmt_of l.body))
    → cost_of_block modules costs before (block_of (map stmt_of l.body)) ≤ cost_limit
    → AtBlock l.frame modules costs before rest (block_of (map stmt_of l.body)) (block_of (map stmt_of (drop l.statement-index l.body))) l.initial.walk l.walk
    l.declared l.initial.out.items l.out.items
