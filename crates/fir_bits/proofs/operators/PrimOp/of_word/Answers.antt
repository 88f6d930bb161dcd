use Rattle.std.proofs.Common.{arith, codes, rules}
use Rattle.std.proofs.lemmas.Slice.Eq.{text_from_reads}
use Rattle.fir_bits.proofs.operators.PrimOp.of_word.Goals as goal

pub returns-in-asUInt : goal.returns-in-asUInt
returns-in-asUInt c = rw (text_from_reads c.args.word.now (codes "asUInt") (omega arith) (search rules))

pub returns-in-asSInt : goal.returns-in-asSInt
returns-in-asSInt c = rw (text_from_reads c.args.word.now (codes "asSInt") (omega arith) (search rules))

pub returns-in-asAsyncReset : goal.returns-in-asAsyncReset
returns-in-asAsyncReset c = rw (text_from_reads c.args.word.now (codes "asAsyncReset") (omega arith) (search rules))
