use Rattle.std.proofs.Common.{[], ◌∷◌, drop, codes, sym, subst}
use Rattle.ver_ast.specs.Grammar.{item_tokens}
use Rattle.ver_ast.specs.Tokens.{word, sign, double}
use Rattle.ver_parse.specs.working.Symbols.{a_token, a_name, a_constant, an_atom}
use Rattle.ver_parse.specs.working.Steps.{source, reset_value}
use Rattle.ver_parse.specs.working.Reads.{Gives}
use Rattle.ver_parse.proofs.Leading.{◌▸◌, halts_more, halts_behind, exits}
use Rattle.ver_ast.specs.declared.tree.Item.TheVariants as item
use Rattle.ver_parse.proofs.parser.Parser.clocked_reset.Goals as goal

pub returns-in_err-reset-clause-halts : goal.returns-in_err-reset-clause-halts
returns-in_err-reset-clause-halts c = exits _ c.from_residual.ensures.1 (halts_more (a_token (sign 40) ∷ a_name ∷ a_token (sign 41) ∷ a_name ∷ a_token (double 60 61) ∷ a_constant ∷ a_token (sign 59) ∷ a_token (word (codes "else")) ∷ a_name ∷ a_token (double 60 61) ∷ an_atom ∷ a_token (sign 59) ∷ []) c.in_err-reset.ensures.halts)

pub returns-in_err-value-clause-halts : goal.returns-in_err-value-clause-halts
returns-in_err-value-clause-halts c = exits _ c.from_residual-in_err-value.ensures.1 (halts_behind c.in_ok-reset.ensures.gives (halts_more (a_token (word (codes "else")) ∷ a_name ∷ a_token (double 60 61) ∷ an_atom ∷ a_token (sign 59) ∷ []) c.in_err-value.ensures.halts))

pub returns-in_err-stored-clause-halts : goal.returns-in_err-stored-clause-halts
returns-in_err-stored-clause-halts c = exits _ c.from_residual-in_err-stored.ensures.1 (halts_behind c.in_ok-reset.ensures.gives (halts_behind c.in_ok-value.ensures.gives (c.in_err-stored.ensures.halts)))

pub returns-clause-gives : goal.returns-clause-gives
returns-clause-gives c = subst (λ b. Gives (a_token (word (codes "or")) ∷ a_token (word (codes "posedge")) ∷ a_name ∷ a_token (sign 41) ∷ a_token (word (codes "if")) ∷ reset_value (a_token (word (codes "else")) ∷ a_name ∷ source [])) (drop 5 (item_tokens (item.Resetting b))) c.args.self.now c.otherwise.new.self) (sym c.resetting.ensures) (c.in_ok-reset.ensures.gives ▸ c.in_ok-value.ensures.gives ▸ c.in_ok-stored.ensures.gives)
