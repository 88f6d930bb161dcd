-- The places of items.
use Rattle.std.specs.Prelude.{ℕ, List, ◌∷◌, ◌++◌, take, flat_map, codes}
use Rattle.ver_ast.specs.declared.place.VPlace.{VPlace}
use Rattle.ver_ast.specs.declared.tree.Verilog.{Verilog}
use Rattle.ver_ast.specs.Tokens.{VToken, word, sign}
use Rattle.ver_ast.specs.Grammar.{ports_tokens, item_tokens}
use Rattle.ver_places.specs.Places.{place_at, places_in}

-- the tokens before the item of that number
abbrev pub tokens_before : Verilog → ℕ → List VToken
tokens_before v k = word (codes "module") ∷ word v.name ∷ sign 40 ∷ ports_tokens v.ports ++ sign 41 ∷ sign 59 ∷ flat_map item_tokens (take k v.items)

-- the place of its first word
abbrev pub item_place : Verilog → ℕ → VPlace
item_place v k = place_at (places_in (tokens_before v k)) v.places
