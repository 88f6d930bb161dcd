-- A text of the grammar is read to its end.
use Rattle.std.proofs.Common.{◌≡◌, List, [], ◌∷◌, ◌++◌, flat_map, Some, codes, refl, sym, ap, ◌∙◌}
use Rattle.ver_ast.specs.declared.tree.Verilog.{Verilog}
use Rattle.ver_ast.specs.Grammar.{ports_tokens, item_tokens, module_tokens}
use Rattle.ver_ast.specs.Spells.{HasNames}
use Rattle.ver_ast.specs.Tokens.{VToken, word, sign}
use Rattle.ver_parse.specs.working.Symbols.{Symbol, a_token, a_name, ports, items}
use Rattle.ver_parse.specs.working.Reading.{whole}
use Rattle.ver_parse.proofs.Begins.{regrouped}
use Rattle.ver_parse.proofs.FirstFaults.{Passes}
use Rattle.ver_parse.proofs.Passing.{reads, name_reads, follows_alike}
use Rattle.ver_parse.proofs.ModulePasses.{ports_read, items_read}

module_begins : (todo : List Symbol) (rest : List VToken) → reads (a_token (word (codes "module")) ∷ todo) (word (codes "module") ∷ rest) ≡ reads todo rest
unfolding reads
module_begins todo rest = refl

ports_begin : (todo : List Symbol) (rest : List VToken) → reads (a_token (sign 40) ∷ todo) (sign 40 ∷ rest) ≡ reads todo rest
unfolding reads
ports_begin todo rest = refl

items_begin : (todo : List Symbol) (rest : List VToken) → reads (a_token (sign 59) ∷ todo) (sign 59 ∷ rest) ≡ reads todo rest
unfolding reads
items_begin todo rest = refl

nothing_left : reads [] [] ≡ Some []
unfolding reads
nothing_left = refl

module_reads : (v : Verilog) → HasNames v → reads whole (module_tokens v) ≡ Some []
module_reads v h =
    let its_items : List VToken = flat_map item_tokens v.items ++ word (codes "endmodule") ∷ [] in
    let its_ports : List VToken = ports_tokens v.ports ++ (sign 41 ∷ sign 59 ∷ its_items) in
    ap (λ l. reads whole l) (sym (regrouped (word (codes "module")) (word v.name) (sign 40) (sign 41) (sign 59) (word (codes "endmodule")) (ports_tokens v.ports) (flat_map item_tokens v.items)))
    ∙ module_begins (a_name ∷ a_token (sign 40) ∷ ports ∷ a_token (sign 59) ∷ items ∷ []) (word v.name ∷ sign 40 ∷ its_ports)
    ∙ name_reads v.name (a_token (sign 40) ∷ ports ∷ a_token (sign 59) ∷ items ∷ []) (sign 40 ∷ its_ports) h.of_module
    ∙ ports_begin (ports ∷ a_token (sign 59) ∷ items ∷ []) its_ports
    ∙ ports_read v.ports (a_token (sign 59) ∷ items ∷ []) (sign 59 ∷ its_items) h.of_ports
    ∙ items_begin (items ∷ []) its_items
    ∙ items_read v.items [] [] h.of_items
    ∙ nothing_left

pub passes : Passes
passes ts (v, h) = follows_alike (module_tokens v) ts whole [] h.tokens_are (module_reads v h.names)
