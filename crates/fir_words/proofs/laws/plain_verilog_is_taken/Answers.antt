use Rattle.fir_words.proofs.VerilogNames.{plain_verilog_is_taken}
use Rattle.fir_words.proofs.laws.plain_verilog_is_taken.Goals as goal

pub returns : goal.returns
returns c = plain_verilog_is_taken
