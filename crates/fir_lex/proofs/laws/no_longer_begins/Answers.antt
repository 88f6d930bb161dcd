use Rattle.fir_lex.proofs.LongestTaken.{no_longer_begins}
use Rattle.fir_lex.proofs.laws.no_longer_begins.Goals as goal

pub returns : goal.returns
returns c t s behind other r more is longest is_other same = no_longer_begins t s behind other r more is longest is_other same
