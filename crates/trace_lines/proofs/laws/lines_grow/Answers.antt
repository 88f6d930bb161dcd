use Rattle.trace_lines.proofs.Growing.{last_of, text_more}
use Rattle.trace_lines.proofs.laws.lines_grow.Goals as goal

pub returns-clause-last : goal.returns-clause-last
returns-clause-last c = last_of

pub returns-clause-lines : goal.returns-clause-lines
returns-clause-lines c = text_more
