-- The orientation of the first of some leaves.
use Rattle.std.specs.Prelude.{List, Bool, Option, option_map}
use Rattle.fir_meaning.specs.TypeLeaves.{TypeLeaf}
use Rattle.fir_meaning.specs.MemoryTypes.{first_one}

abbrev pub flip_of_first : List TypeLeaf → Option Bool
flip_of_first ls = option_map (λ l. l.flip) (first_one ls)
