use Rattle.std.proofs.Common.{sym, ap, ◌∙◌, subst}
use Rattle.ver_ast.specs.Grammar.{module_tokens}
use Rattle.ver_ast.specs.Spells.{AreAlike, places_of}
use Rattle.ver_lex.specs.working.Lexed.{Lexed}
use Rattle.ver_parse.proofs.Wholes.{all_alike, reads_all, reads_more, from_first, stops_whole}
use Rattle.ver_parse.proofs.text.read.Goals as goal

pub returns-in-Err : goal.returns-in-Err
returns-in-Err c =
    let gs = module_tokens c.in_ok-tree.tree in
    record {
      spells = record {
        tokens_are = subst (λ ts. AreAlike gs ts) c.new-parser.ensures.rest (all_alike gs _ _ _ c.in_ok-tree.ensures.gives c.in-Err.ensures);
        names = c.in_ok-tree.ensures.named;
        numbers = c.in_ok-tree.ensures.in_type;
      };
      places_are = c.in_ok-tree.ensures.places ∙ ap (λ (t : Lexed). places_of t.tokens) c.new-parser.ensures.tokens;
      complete = sym (from_first c.new-parser.result _ c.new-parser.ensures.rest c.new-parser.ensures.depth) ∙ reads_all gs _ _ _ c.in_ok-tree.ensures.gives c.in-Err.ensures;
    }

pub returns-in-Ok : goal.returns-in-Ok
returns-in-Ok c =
    sym (from_first c.new-parser.result _ c.new-parser.ensures.rest c.new-parser.ensures.depth)
    ∙ reads_more (module_tokens c.in_ok-tree.tree) _ _ c.in-Ok.next c.in_ok-tree.ensures.gives c.in-Ok.ensures
