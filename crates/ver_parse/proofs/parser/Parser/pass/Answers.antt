use Rattle.std.proofs.Common.{arith}
use Rattle.ver_parse.proofs.Rests.{rest_behind}
use Rattle.ver_parse.proofs.parser.Parser.pass.Goals as goal

pub returns-then-self-len-clause-rest : goal.returns-then-self-len-clause-rest
returns-then-self-len-clause-rest c = rest_behind c.args.self.now.tokens.now.tokens c.args.self.now.next (omega arith)
