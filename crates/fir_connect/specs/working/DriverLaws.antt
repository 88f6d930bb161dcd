-- What the driver of a leaf is worth: what the statements store, and it reads just what the live statements read.
use Rattle.std.specs.Prelude.{◌≡◌, ◌↔◌, ℕ, ◌^◌, ◌<◌, [], Bool, false, Option, unwrap_or}
use Rattle.fir_base.specs.Lists.{In}
use Rattle.fir_meaning.specs.Values.{fit}
use Rattle.fir_meaning.specs.working.Choices.{LiveReads}
use Rattle.fir_meaning.specs.working.LeafBlocks.{LeafBlock, exec_all, nothing_stored}
use Rattle.fir_meaning.specs.LeafTypes.{LeafType, a_clock, number}
use Rattle.fir_meaning.specs.working.TermValues.{Holds, clock_of}
use Rattle.fir_leaf.specs.working.ChoiceLaws.{fitted_at}
use Rattle.fir_leaf_types.specs.working.TypedBlocks.{AreTyped}
use Rattle.fir_connect.specs.working.NetReads.{net_reads}
use Rattle.fir_connect.specs.working.NetValues.{term_clock, term_value}
use Rattle.fir_connect.specs.working.Drivers.{driver_of, start}
use Rattle.fir_connect.specs.working.LoweredLaws.{types_of}
use Rattle.fir_bits.specs.declared.types.NumTy.{NumTy}

-- where each leaf has a number of its width, the driver fitted to the leaf is worth what the statements store there; where they store nothing, what it
-- starts with
abbrev pub DriverIsWorth : Type 0
DriverIsWorth =
    (held : ℕ → LeafType) (depth numbers : ℕ → ℕ) (b : LeafBlock) (x : ℕ) (u : NumTy) (is_register : Bool) → AreTyped held b → held x ≡ number u
    → ((y : ℕ) → numbers y < 2 ^ (types_of held y).width)
    → fit (term_value (types_of held) numbers (driver_of (types_of held) (depth x) is_register b x)) u
    ≡ unwrap_or (exec_all (types_of held) depth numbers (fitted_at (types_of held) numbers) b [] nothing_stored x)
    (fit (term_value (types_of held) numbers (start (types_of held) is_register x)) u)

-- a clock is not fitted
abbrev pub DriverClocks : Type 0
DriverClocks =
    (held : ℕ → LeafType) (depth numbers : ℕ → ℕ) (clocks : ℕ → Option ℕ) (b : LeafBlock) (x : ℕ) (is_register : Bool) → AreTyped held b → held x ≡ a_clock
    → term_clock (types_of held) numbers clocks (driver_of (types_of held) (depth x) is_register b x)
    ≡ unwrap_or (exec_all (types_of held) depth numbers (λ y t. clock_of (types_of held) (record { numbers = numbers; clocks = clocks }) t) b [] nothing_stored x)
    (term_clock (types_of held) numbers clocks (start (types_of held) is_register x))

-- of a leaf that is no register it reads what live statements read, and nothing else
abbrev pub DriverReads : Type 0
DriverReads =
    (holds : Holds) (depth : ℕ → ℕ) (b : LeafBlock) (x y : ℕ) → In (net_reads (driver_of holds (depth x) false b x)) y ↔ LiveReads (depth x) x b y
