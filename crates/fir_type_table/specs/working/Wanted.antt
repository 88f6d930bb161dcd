-- The first leaf of a type, or of the pairs of a partial connect, that is oriented as is wanted: straight, flipped, or either.
use Rattle.std.specs.Prelude.{◌≡◌, ℕ, List, [], ◌∷◌, ◌++◌, Bool, true, false, if◌then◌else◌, Option, Some, None, take, flat_map}
use Rattle.fir_meaning.specs.LeafPaths.{LeafPath, step_text}
use Rattle.fir_meaning.specs.TypeLeaves.{TypeLeaf}
use Rattle.fir_meaning.specs.ConnectPairs.{Pair}

abbrev pub is_wanted : Bool → Bool → TypeLeaf → Bool
is_wanted straight flipped l = if l.flip then flipped else straight

abbrev pub first_wanted : Bool → Bool → List TypeLeaf → Option LeafPath
first_wanted straight flipped [] = None
first_wanted straight flipped (l ∷ ls) = if is_wanted straight flipped l then Some l.path else first_wanted straight flipped ls

abbrev pub first_wanted_pair : Bool → Bool → List Pair → Option LeafPath
first_wanted_pair straight flipped [] = None
first_wanted_pair straight flipped (p ∷ ps) = if is_wanted straight flipped p.left then Some p.left.path else first_wanted_pair straight flipped ps

-- its path stands behind what stood there, or nothing does
abbrev pub IsPathFound : List ℕ → List ℕ → Bool → Option LeafPath → Type 0
IsPathFound old new found None = (found ≡ false) × (new ≡ old)
IsPathFound old new found (Some path) = (found ≡ true) × (new ≡ old ++ flat_map step_text path)

abbrev pub path_kept : Bool → ℕ → List ℕ → List ℕ
path_kept true before path = path
path_kept false before path = take before path
