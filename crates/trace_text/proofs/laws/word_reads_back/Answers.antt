use Rattle.trace_text.proofs.WrittenWords.{word_read_back}
use Rattle.trace_text.proofs.laws.word_reads_back.Goals as goal

pub returns : goal.returns
returns c = word_read_back
