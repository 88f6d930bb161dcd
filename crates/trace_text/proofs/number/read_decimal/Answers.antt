use Rattle.std.proofs.Common.{subst}
use Rattle.trace_text.specs.Spelling.{decimal_of}
use Rattle.trace_text.specs.working.Numbers.{ReadsWord}
use Rattle.trace_text.proofs.Numbers.{in_ten}
use Rattle.trace_text.proofs.number.read_decimal.Goals as goal

pub returns : goal.returns
returns c = subst (λ spelled. ReadsWord spelled (decimal_of c.args.word.now) c.read.result) (in_ten c.args.word.now) c.read.ensures
