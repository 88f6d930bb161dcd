-- The sort of a type: its ground kind, or that it is a bundle or a vector.
use Rattle.std.specs.Prelude.{Bool, true, false}
use Rattle.fir_ast.specs.Types.{DataType, uint, sint, clock, reset, async_reset, bundle, vector}
use Rattle.fir_types.specs.declared.sort.Sort.{Sort}
use Rattle.fir_types.specs.declared.sort.Sort.TheVariants as sort

abbrev pub sort_of : DataType → Sort
sort_of (uint width) = sort.UInt
sort_of (sint width) = sort.SInt
sort_of clock = sort.Clock
sort_of reset = sort.Reset
sort_of async_reset = sort.AsyncReset
sort_of (bundle fs) = sort.Bundle
sort_of (vector t n) = sort.Vector

abbrev pub same_sort : Sort → Sort → Bool
same_sort sort.UInt sort.UInt = true
same_sort sort.SInt sort.SInt = true
same_sort sort.Clock sort.Clock = true
same_sort sort.Reset sort.Reset = true
same_sort sort.AsyncReset sort.AsyncReset = true
same_sort sort.Bundle sort.Bundle = true
same_sort sort.Vector sort.Vector = true
same_sort _ _ = false

-- of ground types that a connect may join
abbrev pub sorts_fit : Sort → Sort → Bool
sorts_fit sort.UInt sort.Reset = true
sorts_fit sort.Reset sort.UInt = true
sorts_fit sort.AsyncReset sort.Reset = true
sorts_fit sort.Reset sort.AsyncReset = true
sorts_fit a b = same_sort a b
