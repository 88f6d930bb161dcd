use Rattle.std.proofs.Common.{List, [], ◌∷◌, ◌++◌, codes, refl, sym, ap, subst}
use Rattle.ver_ast.specs.Grammar.{range_tokens}
use Rattle.ver_ast.specs.Tokens.{VToken, word, digit_zero, number, sign}
use Rattle.ver_parse.specs.working.Symbols.{a_token, a_number, behind_register}
use Rattle.ver_parse.specs.working.Fixed.{TriesOk}
use Rattle.ver_parse.proofs.Leading.{chained, cut, front_is, halts_into, exits, ended, took, turned}
use Rattle.ver_parse.proofs.Turns.{no_register}
use Rattle.std.proofs.Common.{append_assoc}
use Rattle.ver_parse.proofs.Leading.{cut, front_is}
use Rattle.ver_parse.proofs.parser.Parser.behind_register.Goals as goal

pub returns-in_err-takes-clause-halts : goal.returns-in_err-takes-clause-halts
returns-in_err-takes-clause-halts c = exits _ c.from_residual.ensures.1 (ended behind_register [] c.in_err-takes.ensures.tries)

pub returns-then-branch-clause-gives : goal.returns-then-branch-clause-gives
returns-then-branch-clause-gives c = cut (word (codes "reg") ∷ range_tokens c.args.width ++ word c.args.name ∷ []) (sign 59 ∷ []) _ (ap (λ (l : List VToken). word (codes "reg") ∷ l) (sym (append_assoc (range_tokens c.args.width) (word c.args.name ∷ []) (sign 59 ∷ [])))) (took behind_register [] (sign 59) (subst (λ b. TriesOk (sign 59) c.args.self.now c.takes.new.self b) c.if-branch.true c.in_ok-takes.ensures.tries) refl refl)

pub returns-then-branch-clause-front : goal.returns-then-branch-clause-front
returns-then-branch-clause-front c = front_is (word (codes "reg") ∷ range_tokens c.args.width ++ word c.args.name ∷ []) (sign 59 ∷ []) _ (ap (λ (l : List VToken). word (codes "reg") ∷ l) (sym (append_assoc (range_tokens c.args.width) (word c.args.name ∷ []) (sign 59 ∷ []))))

pub returns-in_err-last-clause-halts : goal.returns-in_err-last-clause-halts
returns-in_err-last-clause-halts c = exits _ c.from_residual-in_err-last.ensures.1 (halts_into (turned behind_register (a_token (sign 91) ∷ a_token digit_zero ∷ a_token (sign 58) ∷ a_number ∷ a_token (sign 93) ∷ a_token (sign 59) ∷ []) (subst (λ b. TriesOk (sign 59) c.args.self.now c.takes.new.self b) c.if-branch.false c.in_ok-takes.ensures.tries) no_register) c.in_err-last.ensures.halts)

pub returns-in_ok-last-clause-gives : goal.returns-in_ok-last-clause-gives
returns-in_ok-last-clause-gives c = cut (word (codes "reg") ∷ range_tokens c.args.width ++ word c.args.name ∷ []) (sign 91 ∷ digit_zero ∷ sign 58 ∷ number c.in_ok-last.last ∷ sign 93 ∷ sign 59 ∷ []) _ (ap (λ (l : List VToken). word (codes "reg") ∷ l) (sym (append_assoc (range_tokens c.args.width) (word c.args.name ∷ []) (sign 91 ∷ digit_zero ∷ sign 58 ∷ number c.in_ok-last.last ∷ sign 93 ∷ sign 59 ∷ [])))) (chained (turned behind_register (a_token (sign 91) ∷ a_token digit_zero ∷ a_token (sign 58) ∷ a_number ∷ a_token (sign 93) ∷ a_token (sign 59) ∷ []) (subst (λ b. TriesOk (sign 59) c.args.self.now c.takes.new.self b) c.if-branch.false c.in_ok-takes.ensures.tries) no_register) c.in_ok-last.ensures.gives)

pub returns-in_ok-last-clause-front : goal.returns-in_ok-last-clause-front
returns-in_ok-last-clause-front c = front_is (word (codes "reg") ∷ range_tokens c.args.width ++ word c.args.name ∷ []) (sign 91 ∷ digit_zero ∷ sign 58 ∷ number c.in_ok-last.last ∷ sign 93 ∷ sign 59 ∷ []) _ (ap (λ (l : List VToken). word (codes "reg") ∷ l) (sym (append_assoc (range_tokens c.args.width) (word c.args.name ∷ []) (sign 91 ∷ digit_zero ∷ sign 58 ∷ number c.in_ok-last.last ∷ sign 93 ∷ sign 59 ∷ []))))
