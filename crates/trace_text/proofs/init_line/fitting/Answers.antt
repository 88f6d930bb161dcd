use Rattle.std.proofs.Common.{◌^◌, ◌<◌, sym, subst}
use Rattle.trace_text.specs.Spelling.{hexadecimal_of}
use Rattle.trace_text.proofs.GivenWords.{none_fit}
use Rattle.trace_text.proofs.init_line.fitting.Goals as goal

pub returns-in-Some : goal.returns-in-Some
returns-in-Some c digits is =
    let value = c.in-Some.ensures (hexadecimal_of digits) is in
    (sym value.0, subst (λ n. n < 2 ^ c.args.width) (sym value.0) value.1)

pub returns-in-None : goal.returns-in-None
returns-in-None c digits is = none_fit c.args.word c.args.width digits (c.in-None.ensures (hexadecimal_of digits) is)
