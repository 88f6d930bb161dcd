use Rattle.std.proofs.Common.{List, ◌∙◌, ap, drop, sym}
use Rattle.std.specs.Prelude.{flat_map}
use Rattle.ver_ast.specs.declared.tree.Item.{Item}
use Rattle.ver_ast.specs.declared.tree.Write.{Write}
use Rattle.ver_ast.specs.Grammar.{item_tokens, write_tokens}
use Rattle.ver_places.specs.Places.{behind}
use Rattle.ver_places.proofs.SidePlaces.{writes_behind}
use Rattle.ver_places.proofs.passed.behind_item.Goals as goal

pub returns-in-Writing : goal.returns-in-Writing
returns-in-Writing c =
    c.behind-in-Writing-2.ensures
    ∙ ap (drop 1) (c.behind_writes-writes.ensures ∙ ap (λ (ws : List Write). behind (flat_map write_tokens ws) c.behind-in-Writing.result.now) c.as_slice.ensures
    ∙ ap (behind (flat_map write_tokens c.in-Writing.block.writes)) c.behind-in-Writing.ensures)
    ∙ writes_behind c.in-Writing.block.clock (flat_map write_tokens c.in-Writing.block.writes) c.args.places.now
    ∙ ap (λ (i : Item). behind (item_tokens i) c.args.places.now) (sym c.in-Writing.is)
