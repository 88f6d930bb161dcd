use Rattle.fir_parse.proofs.Signs.{integer_is}
use Rattle.fir_parse.proofs.numerals.integer_numeral.Goals as goal

pub returns : goal.returns
returns c = integer_is c.args.integer.spelling.now c.args.integer.number c.has_minus.result c.args.integer.value c.has_minus.ensures
