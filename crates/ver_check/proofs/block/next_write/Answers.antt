use Rattle.std.proofs.Common.{List, ℕ, ◌∙◌, ap, subst, drop, arith}
use Rattle.std.specs.Prelude.{◌≡◌, Some}
use Rattle.ver_ast.specs.declared.place.VPlace.{VPlace}
use Rattle.ver_ast.specs.Grammar.{atom_tokens}
use Rattle.ver_check.specs.Scopes.{bits_of, word_bits}
use Rattle.ver_places.specs.Places.{behind}
use Rattle.ver_check.proofs.Blocks.{again_same}
use Rattle.ver_places.proofs.WritePlaces.{behind_write}
use Rattle.ver_check.proofs.block.next_write.Goals as goal

pub returns-clause-next : goal.returns-clause-next
returns-clause-next c =
    λ before h bits few.
    let w = c.args.write.now in
    let same = again_same before c.args.array.now w.array _ (c.in_ok-again.ensures before h) in
    let own = subst (λ (n : List ℕ). bits_of word_bits before.scope n ≡ Some c.args.width) same bits in
    let condition = c.in_ok-condition.ensures.extent before.scope h.scope (omega arith) in
    c.in_ok-next.ensures.next before h own few
    ∙ ap (λ (qs : List VPlace). behind (atom_tokens w.source) (behind (atom_tokens w.index) (drop 2 qs)))
    (condition.next ∙ ap (behind (atom_tokens w.condition)) c.behind.ensures)
    ∙ behind_write w c.args.places.now
