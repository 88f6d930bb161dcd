use Rattle.std.proofs.Common.{◌≡◌, Some, None, rules}
use Rattle.trace_text.specs.Shapes.{found}
use Rattle.trace_text.specs.Spelling.{is_value, hexadecimal_of}
use Rattle.trace_text.proofs.FoundPlaces.{found_narrow}
use Rattle.trace_text.proofs.GivenWords.{word_at, register_given}
use Rattle.trace_text.proofs.ReadNumbers.{read_number}
use Rattle.trace_text.proofs.init_line.read_register.Goals as goal

pub fitting-requires : goal.fitting-requires
fitting-requires c =
    let word = word_at c.in-Some-None.field-0.place c.in-Some-None.field-0.width None in
    let named : found c.args.shape.now c.args.name.now ≡ Some word = search rules in
    found_narrow 0 c.args.shape.now.state c.args.name.now word c.find.ensures.whole.words named

pub returns : goal.returns
returns c =
    let place = c.in-Some-None.field-0.place in
    let width = c.in-Some-None.field-0.width in
    let digits = c.args.digits.now in
    let named : found c.args.shape.now c.args.name.now ≡ Some (word_at place width None) = search rules in
    let number = read_number (is_value digits) (hexadecimal_of digits) c.read_value-number.result c.read_value-number.ensures c.in_default.not-Misspelled in
    let value = c.in_ok-value.ensures digits number.1 in
    register_given c.args.shape.now c.args.name.now digits place width c.in_ok-value.value (search rules) number.0 named value.0 value.1
