use Rattle.fir_parse.proofs.RisingTokens.{tokens_rise}
use Rattle.fir_parse.proofs.laws.tokens_rise.Goals as goal

pub returns : goal.returns
returns c = tokens_rise
