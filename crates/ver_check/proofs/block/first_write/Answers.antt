use Rattle.std.proofs.Common.{List, ◌∙◌, ap, drop, arith}
use Rattle.ver_ast.specs.declared.place.VPlace.{VPlace}
use Rattle.ver_ast.specs.Grammar.{atom_tokens}
use Rattle.ver_places.specs.Places.{behind}
use Rattle.ver_places.proofs.WritePlaces.{behind_write}
use Rattle.ver_check.proofs.block.first_write.Goals as goal

pub returns-clause-next : goal.returns-clause-next
returns-clause-next c =
    λ before h.
    let w = c.args.write.now in
    let condition = c.in_ok-condition.ensures.extent before.scope h.scope (omega arith) in
    c.in_ok-next.ensures.next before h (c.in_ok-width.ensures.bits before.scope h.scope) (c.in_ok-width.ensures.narrow before.scope h.scope)
    ∙ ap (λ (qs : List VPlace). behind (atom_tokens w.source) (behind (atom_tokens w.index) (drop 2 qs)))
    (condition.next ∙ ap (behind (atom_tokens w.condition)) c.behind.ensures)
    ∙ behind_write w c.args.places.now
