-- What a condition picks of two lists of values, leaf by leaf (FIRRTL spec, "Multiplexers").
use Rattle.std.specs.Prelude.{List, [], ◌∷◌, Bool}
use Rattle.fir_bits.specs.declared.values.Num.{Num}
use Rattle.fir_meaning.specs.Values.{choice}

-- leaf by leaf
abbrev pub choices : Bool → List Num → List Num → List Num
choices high (a ∷ more_a) (b ∷ more_b) = choice high a b ∷ choices high more_a more_b
choices high _ _ = []
