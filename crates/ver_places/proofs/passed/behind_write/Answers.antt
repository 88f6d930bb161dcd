use Rattle.std.proofs.Common.{◌∙◌, ap, drop}
use Rattle.ver_ast.specs.Grammar.{atom_tokens}
use Rattle.ver_places.specs.Places.{behind}
use Rattle.ver_places.proofs.WritePlaces.{behind_write}
use Rattle.ver_places.proofs.passed.behind_write.Goals as goal

pub returns : goal.returns
returns c =
    let w = c.args.write.now in
    c.behind_atom.ensures
    ∙ ap (behind (atom_tokens w.source)) (c.behind_atom-index.ensures ∙ ap (behind (atom_tokens w.index)) (c.behind-2.ensures ∙ ap (drop 2) (c.behind_atom-condition.ensures ∙ ap (behind (atom_tokens w.condition)) c.behind.ensures)))
    ∙ behind_write w c.args.places.now
