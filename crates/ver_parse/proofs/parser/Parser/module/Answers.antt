use Rattle.std.proofs.Common.{[], ◌∷◌, ◌++◌, codes, sym, ◌∙◌, subst}
use Rattle.ver_ast.specs.Grammar.{item_tokens, ports_tokens}
use Rattle.ver_ast.specs.Tokens.{word, sign}
use Rattle.ver_parse.specs.working.Symbols.{a_token, ports, items}
use Rattle.ver_parse.specs.working.Reads.{Gives}
use Rattle.ver_parse.proofs.Leading.{◌▸◌, halts_more, halts_behind, exits}
use Rattle.std.proofs.Common.{flat_map}
use Rattle.ver_parse.specs.working.Reading.{whole}
use Rattle.ver_parse.proofs.Loops.{module_split}
use Rattle.ver_parse.proofs.parser.Parser.module.Goals as goal

pub returns-in_err-name-clause-halts : goal.returns-in_err-name-clause-halts
returns-in_err-name-clause-halts c = exits _ c.from_residual-in_err-name.ensures.1 (halts_more (ports ∷ a_token (sign 59) ∷ items ∷ []) c.in_err-name.ensures.halts)

pub returns-in_err-ports-clause-halts : goal.returns-in_err-ports-clause-halts
returns-in_err-ports-clause-halts c = exits _ c.from_residual-in_err-ports.ensures.1 (halts_behind c.in_ok-name.ensures.gives (halts_more (a_token (sign 59) ∷ items ∷ []) c.in_err-ports.ensures.halts))

pub returns-in_err-token-clause-halts : goal.returns-in_err-token-clause-halts
returns-in_err-token-clause-halts c = exits _ c.from_residual-in_err-token.ensures.1 (halts_behind c.in_ok-name.ensures.gives (halts_behind c.in_ok-ports.ensures.gives (halts_more (items ∷ []) c.in_err-token.ensures.halts)))

pub returns-in_err-items-clause-halts : goal.returns-in_err-items-clause-halts
returns-in_err-items-clause-halts c = exits _ c.from_residual-in_err-items.ensures.1 (halts_behind c.in_ok-name.ensures.gives (halts_behind c.in_ok-ports.ensures.gives (halts_behind c.in_ok-token.ensures.gives c.in_err-items.ensures.halts)))

pub returns-clause-gives : goal.returns-clause-gives
returns-clause-gives c = subst (λ ps. Gives whole (word (codes "module") ∷ word c.in_ok-name.name ∷ sign 40 ∷ ports_tokens ps ++ sign 41 ∷ sign 59 ∷ flat_map item_tokens c.from_vec-2.result ++ word (codes "endmodule") ∷ []) c.args.self.now c.items.new.self) (sym c.from_vec.ensures)
    (subst (λ is. Gives whole (word (codes "module") ∷ word c.in_ok-name.name ∷ sign 40 ∷ ports_tokens c.in_ok-ports.ports.items ++ sign 41 ∷ sign 59 ∷ flat_map item_tokens is ++ word (codes "endmodule") ∷ []) c.args.self.now c.items.new.self) (sym c.from_vec-2.ensures)
    (subst (λ gs. Gives whole gs c.args.self.now c.items.new.self) (sym (module_split (word (codes "module")) (word c.in_ok-name.name) (sign 40) (sign 41) (sign 59) (word (codes "endmodule")) (ports_tokens c.in_ok-ports.ports.items) (flat_map item_tokens c.in_ok-items.items.items)))
    (c.in_ok-name.ensures.gives ▸ c.in_ok-ports.ensures.gives ▸ c.in_ok-token.ensures.gives ▸ c.in_ok-items.ensures.gives)))

pub returns-clause-places : goal.returns-clause-places
returns-clause-places c = c.from_vec-3.ensures ∙ c.in_ok-places.ensures
