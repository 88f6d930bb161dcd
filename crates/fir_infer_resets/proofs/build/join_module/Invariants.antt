use Rattle.std.proofs.Common.{List, drop}
use Rattle.fir_ast.specs.working.Views.{circuit_of}
use Rattle.fir_type_table.specs.working.Tables.{types_of}
use Rattle.fir_infer_resets.specs.working.Holding.{Holds}
use Rattle.fir_infer_resets.specs.working.Meetings.{Meeting}
use Rattle.fir_infer_resets.specs.working.Meets.{AreMeets}
use Rattle.fir_meaning.specs.ResetJoins.{Join}
use Rattle.fir_infer_resets.specs.working.Resolved.{AllStandIn}
use Rattle.fir_infer_resets.proofs.MeetsHeld.{MeetsSoFar}
use Rattle.fir_infer_resets.proofs.build.join_module.Given as goal

abbrev pub invariant-loop-meet : goal.invariant-loop-meet
invariant-loop-meet l =
    (js : List Join) (ms : List Meeting) → Holds (circuit_of l.named) js l.fn.joined → AreMeets (types_of l.findings.table) l.meets ms
    → AllStandIn (circuit_of l.named) l.findings l.module_number ms → MeetsSoFar (circuit_of l.named) (types_of l.findings.table) js ms (drop l.meet-index l.meets) l.joined
