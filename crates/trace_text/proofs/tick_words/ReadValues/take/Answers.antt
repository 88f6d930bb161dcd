use Rattle.std.proofs.Common.{refl, length-set}
use Rattle.trace_text.specs.Spelling.{is_value, hexadecimal_of}
use Rattle.trace_text.proofs.ReadNumbers.{read_number}
use Rattle.trace_text.proofs.ReadValues.{value_put, value_wide}
use Rattle.trace_text.proofs.tick_words.ReadValues.take.Goals as goal

pub returns-in-Some : goal.returns-in-Some
returns-in-Some c =
    let word = c.args.word.now in
    let number = read_number (is_value word) (hexadecimal_of word) c.read_value-number.result c.read_value-number.ensures c.in_default.not-Misspelled in
    let fits = c.in-Some.ensures (hexadecimal_of word) number.1 in
    record {
      count = refl;
      room = length-set c.args.inputs.now c.args.self.now.count c.in-Some.value;
      read = λ words left so_far. value_put c.args.widths.now words left word c.args.self.now c.args.inputs.now c.if-place-widths.false number.0 so_far c.in-Some.value fits.0 fits.1;
    }

pub returns-in-None : goal.returns-in-None
returns-in-None c =
    let word = c.args.word.now in
    let number = read_number (is_value word) (hexadecimal_of word) c.read_value-number.result c.read_value-number.ensures c.in_default.not-Misspelled in
    let great = c.in-None.ensures (hexadecimal_of word) number.1 in
    record {
      count = refl;
      room = refl;
      read = λ words left so_far.
          value_wide c.args.widths.now words left word c.args.self.now c.args.inputs.now c.if-place-widths.false number.0 so_far c.or-self-in-None.result c.or-self-in-None.ensures great;
    }
