-- Where a leaf stands in a type.
use Rattle.std.specs.Prelude.{Bool}
use Rattle.fir_meaning.specs.LeafPaths.{LeafPath}
use Rattle.fir_meaning.specs.TypeLeaves.{TypeLeaf}

-- a leaf by its orientation and its path, which both leaves of a pair have
abbrev pub Spot : Type 0
Spot = Bool × LeafPath

abbrev pub spot_of : TypeLeaf → Spot
spot_of l = (l.flip, l.path)
