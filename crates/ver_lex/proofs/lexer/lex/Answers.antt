use Rattle.std.proofs.Common.{◌≡◌, ◌≤◌, false, length, ◌∙◌, arith}
use Rattle.std.proofs.lemmas.Bool.Decides.{nat_tests}
use Rattle.ver_lex.proofs.Ways.{all_lexed, stop_lexed}
use Rattle.ver_lex.proofs.lexer.lex.Goals as goal

pub returns-then-not-branch : goal.returns-then-not-branch
returns-then-not-branch c =
    let none : c.in_ok-step.field-0 ≡ false = cc in
    stop_lexed c.in_ok-step.field-0 c.loop-lexer.lexer c.step.new.self c.args.bytes.now c.bad_byte-bad.result c.into_tokens.result
    c.loop-lexer.invariant.1 none c.in_ok-step.ensures.steps (c.step.ensures.text ∙ c.loop-lexer.invariant.0) c.bad_byte-bad.ensures.place
    c.bad_byte-bad.ensures.byte c.into_tokens.ensures

pub returns : goal.returns
returns c =
    let past : length c.loop-lexer.lexer.draft.text.items ≤ c.loop-lexer.lexer.cursor.index = grind (arith, nat_tests) in
    all_lexed c.loop-lexer.lexer c.args.bytes.now c.into_tokens-2.result c.loop-lexer.invariant.0 c.loop-lexer.invariant.1 past c.into_tokens-2.ensures
