use Rattle.std.proofs.Common.{[], sym, ap, ◌∙◌}
use Rattle.ver_ast.specs.declared.place.VPlace.{VPlace}
use Rattle.ver_ast.specs.Pieces.{place_after}
use Rattle.ver_lex.specs.working.Lexed.{Lexed}
use Rattle.ver_lex.specs.working.Bytes.{place_behind}
use Rattle.ver_lex.proofs.Places.{place_on}
use Rattle.ver_lex.proofs.tokens.Tokens.end.Goals as goal

pub returns : goal.returns
returns c =
    c.behind.ensures.place ∙ ap (λ (p : VPlace). place_behind p c.as_slice.result.now) c.start.ensures.place ∙ sym (place_on [] c.as_slice.result.now)
    ∙ ap place_after (c.as_slice.ensures.value ∙ ap (λ (t : Lexed). t.text) c.self.view_is)
