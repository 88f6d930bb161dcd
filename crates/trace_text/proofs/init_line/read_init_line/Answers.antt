use Rattle.std.proofs.Common.{[], ◌∷◌, refl}
use Rattle.trace_text.proofs.JudgedInits.{long_told, count_told, words_told}
use Rattle.trace_text.proofs.init_line.read_init_line.Goals as goal

pub returns-then-line-gt-LINE_LIMIT : goal.returns-then-line-gt-LINE_LIMIT
returns-then-line-gt-LINE_LIMIT c = long_told c.args.shape.now c.args.line.now c.if-line-gt-LINE_LIMIT.true

pub returns-in-Err : goal.returns-in-Err
returns-in-Err c = count_told c.args.shape.now c.args.line.now c.in-Err.cause c.if-line-gt-LINE_LIMIT.false c.requires c.in-Err.ensures

pub returns-in-Ok-Register : goal.returns-in-Ok-Register
returns-in-Ok-Register c =
    let words = c.in-Ok-Register.name.now ∷ c.in-Ok-Register.digits.now ∷ [] in
    let line = rw c.in-Ok-Register.field-0-is at c.in-Ok-Register.ensures in
    words_told c.args.shape.now c.args.line.now words c.read_register.result c.if-line-gt-LINE_LIMIT.false line refl c.read_register.ensures

pub returns-in-Ok-Array : goal.returns-in-Ok-Array
returns-in-Ok-Array c =
    let words = c.in-Ok-Array.name.now ∷ c.in-Ok-Array.address.now ∷ c.in-Ok-Array.digits.now ∷ [] in
    let line = rw c.in-Ok-Array.field-0-is at c.in-Ok-Array.ensures in
    words_told c.args.shape.now c.args.line.now words c.read_array.result c.if-line-gt-LINE_LIMIT.false line refl c.read_array.ensures
