-- The tick that the code has room for.
use Rattle.std.specs.Prelude.{◌≡◌, ℕ, List, length, take}
use Rattle.fir_base.specs.Ticks.{Tick}
use Rattle.trace_text.specs.Shapes.{TraceShape}

-- a tick, and for how many clocks there is room
pub record TickRoom : Type 0 where
  pub tick : Tick
  pub room : ℕ

abbrev pub room_of : List ℕ → List ℕ → ℕ → TickRoom
room_of inputs clocks named = record { tick = record { inputs = inputs; clocks = take named clocks }; room = length clocks }

-- room for each tick of the shape
pub record HasRoom (shape : TraceShape) (t : TickRoom) : Type 0 where
  pub inputs : length t.tick.inputs ≡ length shape.inputs
  pub clocks : t.room ≡ shape.clocks
