use Rattle.std.proofs.Common.{◌∙◌}
use Rattle.trace_text.proofs.InitFronts.{init_ends, no_init}
use Rattle.trace_text.proofs.lines.is_init_line.Goals as goal

pub returns-in-Some : goal.returns-in-Some
returns-in-Some c = c.ends_word.ensures ∙ init_ends c.args.line.now c.in-Some.rest.now c.in-Some.ensures.cases.0 c.in-Some.ensures.cases.1

pub returns-in-None : goal.returns-in-None
returns-in-None c = no_init c.args.line.now c.in-None.ensures.cases
