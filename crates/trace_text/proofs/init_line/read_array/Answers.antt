use Rattle.std.proofs.Common.{◌≡◌, Some, arith, rules}
use Rattle.trace_text.specs.Shapes.{found}
use Rattle.trace_text.specs.Spelling.{is_value, hexadecimal_of, is_decimal, decimal_of}
use Rattle.trace_text.proofs.FoundPlaces.{found_narrow, found_within}
use Rattle.trace_text.proofs.GivenWords.{word_at, array_given, address_told}
use Rattle.trace_text.proofs.ReadNumbers.{read_number}
use Rattle.trace_text.proofs.init_line.read_array.Goals as goal

pub returns-in_default-below : goal.returns-in_default-below
returns-in_default-below c =
    let shape = c.args.shape.now in
    let name = c.args.name.now in
    let address = c.args.address.now in
    let digits = c.args.digits.now in
    let place = c.in-Some-Some.field-0.place in
    let width = c.in-Some-Some.field-0.width in
    let depth = c.in-Some-Some.depth in
    let named : found shape name ≡ Some (word_at place width (Some depth)) = search rules in
    let offset = read_number (is_decimal address) (decimal_of address) c.read_decimal-offset.result c.read_decimal-offset.ensures c.in_default.not-Misspelled in
    let number = read_number (is_value digits) (hexadecimal_of digits) c.read_value-number.result c.read_value-number.ensures c.in_default-number.not-Misspelled in
    address_told shape name address digits place width depth (search rules) offset.0 number.0 named (c.in_default-below.ensures (decimal_of address) offset.1)

pub fitting-requires : goal.fitting-requires
fitting-requires c =
    let word = word_at c.in-Some-Some.field-0.place c.in-Some-Some.field-0.width (Some c.in-Some-Some.depth) in
    let named : found c.args.shape.now c.args.name.now ≡ Some word = search rules in
    found_narrow 0 c.args.shape.now.state c.args.name.now word c.find.ensures.whole.words named

pub returns-in_err-value : goal.returns-in_err-value
returns-in_err-value c =
    let address = c.args.address.now in
    let digits = c.args.digits.now in
    let offset = read_number (is_decimal address) (decimal_of address) c.read_decimal-offset.result c.read_decimal-offset.ensures c.in_default.not-Misspelled in
    let number = read_number (is_value digits) (hexadecimal_of digits) c.read_value-number.result c.read_value-number.ensures c.in_default-number.not-Misspelled in
    let at = c.in-Some.ensures (decimal_of address) offset.1 in
    let told = c.in_err-value.ensures digits number.1 in
    search rules

pub overflow_add-place : goal.overflow_add-place
overflow_add-place c =
    let word = word_at c.in-Some-Some.field-0.place c.in-Some-Some.field-0.width (Some c.in-Some-Some.depth) in
    let address = c.args.address.now in
    let named : found c.args.shape.now c.args.name.now ≡ Some word = search rules in
    let within = found_within 0 c.args.shape.now.state c.args.name.now word named in
    let offset = read_number (is_decimal address) (decimal_of address) c.read_decimal-offset.result c.read_decimal-offset.ensures c.in_default.not-Misspelled in
    let at = c.in-Some.ensures (decimal_of address) offset.1 in
    omega (arith, within, at, c.find.ensures.few)

pub returns : goal.returns
returns c =
    let shape = c.args.shape.now in
    let name = c.args.name.now in
    let address = c.args.address.now in
    let digits = c.args.digits.now in
    let place = c.in-Some-Some.field-0.place in
    let width = c.in-Some-Some.field-0.width in
    let depth = c.in-Some-Some.depth in
    let named : found shape name ≡ Some (word_at place width (Some depth)) = search rules in
    let offset = read_number (is_decimal address) (decimal_of address) c.read_decimal-offset.result c.read_decimal-offset.ensures c.in_default.not-Misspelled in
    let number = read_number (is_value digits) (hexadecimal_of digits) c.read_value-number.result c.read_value-number.ensures c.in_default-number.not-Misspelled in
    let at = c.in-Some.ensures (decimal_of address) offset.1 in
    let fits = c.in_ok-value.ensures digits number.1 in
    array_given shape name digits place width c.in_ok-value.value address depth c.in-Some.offset (search rules) offset.0 number.0 named at.0 (omega (arith, at)) fits.0 fits.1
