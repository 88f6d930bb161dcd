-- What a leaf holds: a number of a type, or a clock (FIRRTL spec, "Ground Types").
use Rattle.std.specs.Prelude.{false, Bool, nat_lt, true}
use Rattle.fir_bits.specs.declared.types.NumTy.{NumTy}

-- a number of a type, or a clock
pub data LeafType : Type 0 where
  number : NumTy → LeafType
  a_clock : LeafType

abbrev pub no_bits : NumTy
no_bits = record { signed = false; width = 0 }

-- a clock counts as of no bits
abbrev pub number_type : LeafType → NumTy
number_type (number t) = t
number_type a_clock = no_bits

abbrev pub has_bits : LeafType → Bool
has_bits h = nat_lt 0 (number_type h).width

abbrev pub is_clock : LeafType → Bool
is_clock (number t) = false
is_clock a_clock = true
