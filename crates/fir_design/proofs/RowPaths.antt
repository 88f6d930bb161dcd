-- Short names for the paths of leaves of small circuits, and for what comes of a tick.
use Prim.Native.String.{String}
use Rattle.std.proofs.Common.{ℕ, List, [], ◌∷◌, ◌++◌}
use Rattle.std.specs.Prelude.{codes}
use Rattle.fir_base.specs.Ticks.{TickResult}
use Rattle.fir_meaning.specs.LeafPaths.{LeafPath, named}

abbrev pub own : String → LeafPath
own x = named (codes x) ∷ []

abbrev pub field : LeafPath → String → LeafPath
field path x = path ++ own x

-- a field of a port of the memory m
abbrev pub port : String → String → LeafPath
port p x = named (codes "m") ∷ named (codes p) ∷ named (codes x) ∷ []

abbrev pub result : List ℕ → List ℕ → TickResult
result outputs state = record { outputs = outputs; clocks = []; state = state }
