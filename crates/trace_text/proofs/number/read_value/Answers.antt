use Rattle.std.proofs.Common.{subst}
use Rattle.trace_text.specs.Spelling.{hexadecimal_of}
use Rattle.trace_text.specs.working.Numbers.{ReadsWord}
use Rattle.trace_text.proofs.Numbers.{in_sixteen}
use Rattle.trace_text.proofs.number.read_value.Goals as goal

pub returns : goal.returns
returns c = subst (λ spelled. ReadsWord spelled (hexadecimal_of c.args.word.now) c.read.result) (in_sixteen c.args.word.now) c.read.ensures
