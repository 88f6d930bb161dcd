use Rattle.std.proofs.Common.{List, ◌++◌, drop, map}
use Rattle.fir_ast.specs.Circuits.{CircuitTree}
use Rattle.fir_ast.specs.working.Views.{block_of, stmt_of}
use Rattle.fir_meaning.specs.Visibility.{Before, behind_block, declarations}
use Rattle.fir_types.specs.working.Walked.{Begins}
use Rattle.fir_ground.specs.working.DeclarationDrivers.{DriverMeant, drivers_in_block}
use Rattle.fir_leaf.specs.declared.node.Node.{Node}
use Rattle.fir_meaning.specs.ModuleScenes.{Scene}
use Rattle.fir_leaf_table.specs.working.Walks.{EntersAt}
use Rattle.fir_leaf_table.proofs.BlockWalks.{AtBlock}
use Rattle.fir_leaf_table.proofs.statements.+statements.Given as goal

abbrev pub invariant-in_block-loop-statement : goal.invariant-in_block-loop-statement
invariant-in_block-loop-statement l =
    (c : CircuitTree) (s : Scene) (before : Before) (nodes : List Node) (rest : List DriverMeant)
    → EntersAt l.frame c s before nodes (drivers_in_block c.modules before (block_of (map stmt_of l.body)) ++ rest) l.depth l.initial.walk
    → Begins (behind_block before (block_of (map stmt_of l.body))).declared (declarations s.own.inside)
    → AtBlock c s before nodes rest (block_of (map stmt_of l.body)) (block_of (map stmt_of (drop l.statement-index l.body))) l.depth l.initial.walk l.walk
