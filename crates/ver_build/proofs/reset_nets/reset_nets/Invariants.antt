use Rattle.ver_build.proofs.ResetWalk.{ResetLoop}
use Rattle.ver_build.proofs.reset_nets.reset_nets.Given as goal

abbrev pub invariant-loop-word : goal.invariant-loop-word
invariant-loop-word l = ResetLoop l.net l.table l.leaves l.nodes l.first l.names.items l.word-index l.from
