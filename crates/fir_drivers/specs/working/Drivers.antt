-- What drives each leaf of a module.
use Rattle.std.specs.Prelude.{◌≡◌, ℕ, ◌<◌, ◌≤◌, List, length, Bool}
use Rattle.fir_bits.specs.declared.types.NumTy.{NumTy}
use Rattle.fir_meaning.specs.working.LeafBlocks.{LeafBlock}
use Rattle.fir_meaning.specs.LeafTypes.{LeafType}
use Rattle.fir_leaf.specs.declared.node.Node.{Node as LeafNode}
use Rattle.fir_leaf.specs.working.Nodes.{entries}
use Rattle.fir_leaf_types.specs.working.TypedBlocks.{AreTyped}
use Rattle.fir_net.specs.declared.node.Node.{Node}
use Rattle.fir_connect.specs.working.Drivers.{driver_of, start}
use Rattle.fir_connect.specs.working.LoweredLaws.{types_of}
use Rattle.fir_driven.specs.working.Covering.{depth_in, flag_at}
use Rattle.fir_merge.specs.declared.bound.Bound.{Bound}
use Rattle.fir_merge.specs.working.Bounds.{StandsFor, types_in}
use Rattle.fir_merge.specs.working.Entries.{EntriesStand}
use Rattle.fir_drivers.specs.working.Slots.{SlotStands}

-- what a leaf starts with, where none is wider than 128 bits
abbrev pub StartStands : List NumTy → List Bool → List Node → ℕ → Bound → Type 0
StartStands types registers net x r =
    ((y : ℕ) → (types_in types y).width ≤ 128) → StandsFor (types_in types) net r (start (types_in types) (flag_at registers x) x)

-- before the statements, where no leaf is wider than 128 bits
abbrev pub StartsStand : List NumTy → List Bool → List Node → List Bound → Type 0
StartsStand types registers net slots =
    (length slots ≡ length types)
    × ((x : ℕ) → ((y : ℕ) → (types_in types y).width ≤ 128) → x < length types
    → SlotStands (types_in types) net slots x (start (types_in types) (flag_at registers x) x))

-- where the leaves hold these, of which none is wider than 128 bits, and the statements have types, each leaf has a bound that stands for its driver
abbrev pub AreDrivers : List NumTy → List ℕ → List Bool → List LeafNode → List Bound → LeafBlock → List Node → List Node → List Bound → Type 0
AreDrivers types depths registers nodes bounds b net_old net_new drivers =
    (length drivers ≡ length types)
    × ((held : ℕ → LeafType) (x : ℕ) → types_in types ≡ types_of held → ((y : ℕ) → (types_of held y).width ≤ 128) → length depths ≡ length types
    → EntriesStand (types_of held) net_old bounds (entries nodes) → AreTyped held b → x < length types
    → SlotStands (types_of held) net_new drivers x (driver_of (types_of held) (depth_in depths x) (flag_at registers x) b x))
