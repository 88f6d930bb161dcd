-- All values of a net in one list of numbers: that of a leaf at its number, that of a node behind all leaves.
use Rattle.std.specs.Prelude.{ℕ, ◌+◌, ◌<◌, ◌^◌, List, length, slice_get, unwrap_or}
use Rattle.fir_bits.specs.declared.types.NumTy.{NumTy}
use Rattle.fir_bits.specs.declared.values.Num.{Num}
use Rattle.fir_net.specs.declared.reads.Read.{Read}
use Rattle.fir_net.specs.declared.reads.Read.TheVariants as read
use Rattle.fir_net.specs.declared.net.FlatNet.{FlatNet}
use Rattle.fir_net.specs.working.IsNet.{read_type}
use Rattle.fir_net.specs.working.Values.{number_of}

-- where the number of a leaf or a node stands
abbrev pub place : FlatNet → Read → ℕ
place net (read.Leaf k) = k
place net (read.Node k) = length net.leaves + k

abbrev pub number_at : List ℕ → ℕ → ℕ
number_at ns k = unwrap_or (slice_get ns k) 0

-- the type that the net gives it
abbrev pub type_read : FlatNet → Read → NumTy
type_read net r = read_type net.leaves net.nodes r

-- its value among these numbers
abbrev pub value_in : FlatNet → List ℕ → Read → Num
value_in net ns r = number_of (type_read net r) (number_at ns (place net r))

-- its number has its width
abbrev pub Fits : FlatNet → List ℕ → Read → Type 0
Fits net ns r = number_at ns (place net r) < 2 ^ (type_read net r).width
