use Rattle.std.proofs.Common.{◌∙◌, ap, drop, sym}
use Rattle.ver_ast.specs.declared.tree.Rhs.{Rhs}
use Rattle.ver_ast.specs.Grammar.{atom_tokens, rhs_tokens}
use Rattle.ver_places.specs.Places.{behind}
use Rattle.ver_places.proofs.SidePlaces.{two_signed}
use Rattle.ver_places.proofs.passed.behind_side.Goals as goal

pub returns-in-Signed : goal.returns-in-Signed
returns-in-Signed c =
    c.behind_atom-in-Signed.ensures
    ∙ ap (behind (atom_tokens c.in-Signed.b)) (c.behind-in-Signed.ensures ∙ ap (drop 1) (c.behind_atom-first.ensures ∙ ap (behind (atom_tokens c.in-Signed.a)) c.behind.ensures))
    ∙ two_signed c.in-Signed.a c.in-Signed.field-1 c.in-Signed.b c.args.places.now
    ∙ ap (λ (r : Rhs). behind (rhs_tokens r) c.args.places.now) (sym c.in-Signed.is)
