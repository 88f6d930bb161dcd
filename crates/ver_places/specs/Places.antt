-- The places of the parts of a tree.
-- A tree has one for each of its tokens that is a word, a number, a constant, `$signed`, `[` or `{`.
use Rattle.std.specs.Prelude.{ℕ, List, flat_map, length, filter, drop, slice_index_or}
use Rattle.ver_ast.specs.declared.place.VPlace.{VPlace}
use Rattle.ver_ast.specs.declared.tree.Verilog.{Verilog}
use Rattle.ver_ast.specs.Tokens.{VToken}
use Rattle.ver_ast.specs.Grammar.{range_tokens, port_tokens}
use Rattle.ver_ast.specs.Spells.{has_place}

-- in a tree that no text was read for
abbrev pub nowhere : VPlace
nowhere = record { line = 0; col = 0 }

-- the one behind so many of these places
abbrev pub place_at : ℕ → List VPlace → VPlace
place_at k ps = slice_index_or ps k nowhere

-- how many of these tokens have a place in a tree, and the places behind theirs
abbrev pub places_in : List VToken → ℕ
places_in ts = length (filter has_place ts)

abbrev pub behind : List VToken → List VPlace → List VPlace
behind ts ps = drop (places_in ts) ps

-- how many places a range has
abbrev pub range_places : ℕ → ℕ
range_places width = places_in (range_tokens width)

-- the word `module` and the module's name have the first two places
abbrev pub port_places : Verilog → List VPlace
port_places v = drop 2 v.places

abbrev pub item_places : Verilog → List VPlace
item_places v = behind (flat_map port_tokens v.ports) (port_places v)
