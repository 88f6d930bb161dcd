-- The places of the tokens so far.
use Rattle.std.proofs.Common.{◌≡◌, take}
use Rattle.ver_ast.specs.Spells.{places_of}
use Rattle.ver_parse.proofs.places.places_of.Given as goal

abbrev pub invariant-loop-index : goal.invariant-loop-index
invariant-loop-index l = l.places.items ≡ places_of (take l.index l.tokens.tokens)
