-- Tokens of the grammar and tokens of a text that are alike, places aside.
use Rattle.std.proofs.Common.{List, [], ◌∷◌}
use Rattle.ver_ast.specs.Tokens.{VToken}
use Rattle.ver_ast.specs.Pieces.{PlacedToken}
use Rattle.ver_ast.specs.Spells.{IsAlike, AreAlike}
use Rattle.ver_ast.proofs.TokenPieces.{plain_of}

abbrev pub AlikeEach : List VToken → List VToken → Type 0
AlikeEach [] [] = Unit {0}
AlikeEach (g ∷ gs) (t ∷ ts) = IsAlike g t × AlikeEach gs ts
AlikeEach _ _ = ⊥

pub alike_with_places : (gs : List VToken) (placed : List PlacedToken) → AlikeEach gs (plain_of placed) → AreAlike gs placed
alike_with_places [] [] h = h
alike_with_places [] (p ∷ ps) h = h
alike_with_places (g ∷ gs) [] h = h
alike_with_places (g ∷ gs) (p ∷ ps) h = (h.0, alike_with_places gs ps h.1)

pub alike_without_places : (gs : List VToken) (placed : List PlacedToken) → AreAlike gs placed → AlikeEach gs (plain_of placed)
alike_without_places [] [] h = h
alike_without_places [] (p ∷ ps) h = h
alike_without_places (g ∷ gs) [] h = h
alike_without_places (g ∷ gs) (p ∷ ps) h = (h.0, alike_without_places gs ps h.1)
