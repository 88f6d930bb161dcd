use Rattle.ver_parse.proofs.Rests.{found, none_left}
use Rattle.ver_parse.proofs.parser.Parser.peek.Goals as goal

pub returns-in-Some : goal.returns-in-Some
returns-in-Some c = found c.args.self.now c.in-Some.next c.in-Some.ensures

pub returns-in-None : goal.returns-in-None
returns-in-None c = none_left c.args.self.now c.in-None.ensures
