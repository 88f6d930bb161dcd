use Rattle.std.proofs.Common.{◌+◌, length, refl, sym, ap, ◌∙◌, arith}
use Rattle.ver_lex.proofs.Ways.{front_at, within, passed_read, token_read, question_read}
use Rattle.ver_lex.proofs.lexer.Lexer.step.Goals as goal

pub pass-requires : goal.pass-requires
pass-requires c =
    let st = front_at c.args.self.now c.rest.result.now _ c.requires.some c.rest.ensures (sym c.in-Passed.is ∙ c.read_front.ensures) in
    within c.args.self.now c.in-Passed.count _ c.requires.some st

pub take-requires-clause-within : goal.take-requires-clause-within
take-requires-clause-within c =
    let st = front_at c.args.self.now c.rest.result.now _ c.requires.some c.rest.ensures (sym c.in-Token.is ∙ c.read_front.ensures) in
    within c.args.self.now c.in-Token.count _ c.requires.some st.stands

pub take-requires-clause-has_bytes : goal.take-requires-clause-has_bytes
take-requires-clause-has_bytes c =
    let st = front_at c.args.self.now c.rest.result.now _ c.requires.some c.rest.ensures (sym c.in-Token.is ∙ c.read_front.ensures) in
    st.has_bytes

pub take-requires-in-Questioned-clause-within : goal.take-requires-in-Questioned-clause-within
take-requires-in-Questioned-clause-within c =
    let st = front_at c.args.self.now c.rest.result.now _ c.requires.some c.rest.ensures (sym c.in-Questioned.is ∙ c.read_front.ensures) in
    let all = within c.args.self.now (c.in-Questioned.count + 1) _ c.requires.some st.stands in
    omega (arith, all)

pub take-requires-in-Questioned-clause-has_bytes : goal.take-requires-in-Questioned-clause-has_bytes
take-requires-in-Questioned-clause-has_bytes c =
    let st = front_at c.args.self.now c.rest.result.now _ c.requires.some c.rest.ensures (sym c.in-Questioned.is ∙ c.read_front.ensures) in
    st.has_bytes

pub take-requires-in-Questioned-2-clause-within : goal.take-requires-in-Questioned-2-clause-within
take-requires-in-Questioned-2-clause-within c =
    let st = front_at c.args.self.now c.rest.result.now _ c.requires.some c.rest.ensures (sym c.in-Questioned.is ∙ c.read_front.ensures) in
    let all = within c.args.self.now (c.in-Questioned.count + 1) _ c.requires.some st.stands in
    omega (arith, all, c.in_ok-take-in-Questioned.ensures.passes.index, ap length c.in_ok-take-in-Questioned.ensures.text)

pub returns-in-Nothing-clause-steps : goal.returns-in-Nothing-clause-steps
returns-in-Nothing-clause-steps c =
    (refl, front_at c.args.self.now c.rest.result.now _ c.requires.some c.rest.ensures (sym c.in-Nothing.is ∙ c.read_front.ensures))

pub returns-in-Passed-clause-steps : goal.returns-in-Passed-clause-steps
returns-in-Passed-clause-steps c =
    let st = front_at c.args.self.now c.rest.result.now _ c.requires.some c.rest.ensures (sym c.in-Passed.is ∙ c.read_front.ensures) in
    passed_read c.args.self.now c.pass.new.self c.in-Passed.count c.requires.read st c.pass.ensures.draft c.pass.ensures.passes

pub returns-in_ok-take-in-Token-clause-steps : goal.returns-in_ok-take-in-Token-clause-steps
returns-in_ok-take-in-Token-clause-steps c =
    let st = front_at c.args.self.now c.rest.result.now _ c.requires.some c.rest.ensures (sym c.in-Token.is ∙ c.read_front.ensures) in
    token_read c.args.self.now c.take.new.self c.in-Token.kind c.in-Token.count c.requires.read st c.take.ensures.text c.in_ok-take-in-Token.ensures.passes
    c.in_ok-take-in-Token.ensures.tokens

pub returns-in_ok-take-in-Questioned-2-clause-steps : goal.returns-in_ok-take-in-Questioned-2-clause-steps
returns-in_ok-take-in-Questioned-2-clause-steps c =
    let st = front_at c.args.self.now c.rest.result.now _ c.requires.some c.rest.ensures (sym c.in-Questioned.is ∙ c.read_front.ensures) in
    question_read c.args.self.now c.take-in-Questioned.new.self c.take-in-Questioned-2.new.self c.in-Questioned.count c.requires.read st
    c.in_ok-take-in-Questioned.ensures.text c.in_ok-take-in-Questioned.ensures.passes c.in_ok-take-in-Questioned.ensures.tokens
    c.in_ok-take-in-Questioned-2.ensures.text c.in_ok-take-in-Questioned-2.ensures.passes c.in_ok-take-in-Questioned-2.ensures.tokens
