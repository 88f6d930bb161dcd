use Rattle.std.proofs.Common.{drop}
use Rattle.std.specs.Prelude.{◌↔◌, MatchBool}
use Rattle.trace_text.specs.working.Shapes.{AreArrays, AreRegistersFirst}
use Rattle.trace_text.proofs.shape_rules.are_registers_first.Given as goal

-- behind an array only arrays may follow
abbrev pub invariant-loop-word : goal.invariant-loop-word
invariant-loop-word l = AreRegistersFirst l.state ↔ MatchBool l.behind_array (AreArrays (drop l.word-index l.state)) (AreRegistersFirst (drop l.word-index l.state))
