-- Laws about the layout.
use Rattle.ver_ast.specs.declared.tree.Verilog.{Verilog}
use Rattle.ver_ast.specs.Spells.{HasNames}
use Rattle.ver_ast.specs.Valid.{Valid}
use Rattle.ver_ast.specs.working.Laws.{SpellsButPlaces}
use Rattle.ver_emit.specs.Layout.{layout}
use Rattle.ver_emit.specs.Comments.{HasNoComment}

-- read by the grammar, it is the tree that was written, places aside
abbrev pub LayoutIsSpelled : Type 0
LayoutIsSpelled = (v : Verilog) → Valid v → HasNames v → SpellsButPlaces (layout v) v

-- no comment stands in it
abbrev pub LayoutHasNoComment : Type 0
LayoutHasNoComment = (v : Verilog) → HasNames v → HasNoComment (layout v)
