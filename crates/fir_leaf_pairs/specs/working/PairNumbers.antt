-- The numbers of the leaves in pairs are below those of two types.
use Rattle.std.specs.Prelude.{ℕ, ◌<◌, List, [], ◌∷◌}
use Rattle.fir_meaning.specs.working.LeafPairs.{LeafPair}

abbrev pub AreWithin : ℕ → ℕ → List LeafPair → Type 0
AreWithin n m [] = Unit {0}
AreWithin n m (p ∷ ps) = (p.left < n) × (p.right < m) × AreWithin n m ps
