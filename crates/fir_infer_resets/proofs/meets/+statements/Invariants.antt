use Rattle.std.proofs.Common.{◌≡◌, List, ◌++◌, length, map, drop}
use Rattle.fir_ast.specs.Types.{DataType}
use Rattle.fir_ast.specs.working.Views.{block_of, stmt_of}
use Rattle.fir_meaning.specs.Visibility.{Before}
use Rattle.fir_types.specs.working.ModuleNotes.{block_notes}
use Rattle.fir_types.specs.working.Notes.{Note}
use Rattle.fir_infer_resets.specs.working.Meets.{Ahead}
use Rattle.fir_meaning.specs.ResetJoins.{ResetModule}
use Rattle.fir_infer_resets.proofs.MeetWalks.{AtBlock}
use Rattle.fir_infer_resets.proofs.meets.+statements.Given as goal

abbrev pub invariant-in_block-loop-statement : goal.invariant-in_block-loop-statement
invariant-in_block-loop-statement l =
    (ts : List DataType) (m : ResetModule) (before : Before) (rest : List Note)
    → Ahead ts l.initial.walk.notes.now (block_notes m.modules before (block_of (map stmt_of l.body)) ++ rest) → l.initial.walk.declared ≡ length before.declared
    → AtBlock ts m before rest (block_of (map stmt_of l.body)) (block_of (map stmt_of (drop l.statement-index l.body))) l.initial.walk l.walk
