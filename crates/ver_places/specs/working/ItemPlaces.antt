-- The places of items, one behind the other.
use Rattle.std.specs.Prelude.{List, [], ◌∷◌}
use Rattle.ver_ast.specs.declared.place.VPlace.{VPlace}
use Rattle.ver_ast.specs.declared.tree.Item.{Item}
use Rattle.ver_ast.specs.Grammar.{item_tokens}
use Rattle.ver_places.specs.Places.{place_at, behind}

-- of items that have the first of these places
abbrev pub starts_of : List Item → List VPlace → List VPlace
starts_of [] ps = []
starts_of (i ∷ is) ps = place_at 0 ps ∷ starts_of is (behind (item_tokens i) ps)
