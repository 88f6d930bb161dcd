-- What a tick does with each write of an array: where it looks, what it gives, and which clock it follows.
use Rattle.std.specs.Prelude.{◌≡◌, ℕ, ◌≤◌, List, [], map, flat_map, Bool, slice_get, Option, Some, None}
use Rattle.fir_net.specs.declared.array.Array.{Array}
use Rattle.fir_net.specs.declared.array.ArrayWrite.{ArrayWrite}
use Rattle.fir_net.specs.declared.net.FlatNet.{FlatNet}
use Rattle.fir_net.specs.working.Arrays.{word_width}
use Rattle.fir_net.specs.working.IsNet.{IsArrayWrite}
use Rattle.fir_work.specs.working.Numbers.{place}
use Rattle.fir_work.specs.working.Tasks.{IsFitTask}
use Rattle.fir_tick.specs.declared.spans.ArraySpan.{ArraySpan}
use Rattle.fir_tick.specs.declared.write_plans.WritePlan.{WritePlan}
use Rattle.fir_tick.specs.working.ArraySpans.{span_of}
use Rattle.fir_tick.specs.working.Roots.{root_at}

-- a write, with the number of its array
pub record WriteOf : Type 0 where
  pub array : ℕ
  pub write : ArrayWrite

abbrev pub write_of : ℕ → ArrayWrite → WriteOf
write_of k w = record { array = k; write = w }

abbrev pub writes_at : Option Array → List ArrayWrite
writes_at None = []
writes_at (Some a) = a.writes

abbrev pub writes_of : FlatNet → ℕ → List WriteOf
writes_of net k = map (write_of k) (writes_at (slice_get net.arrays k))

-- all writes: the arrays in the order of the state, and those of each in their order
abbrev pub array_writes : FlatNet → List WriteOf
array_writes net = flat_map (writes_of net) net.array_order

-- the plan of a write of an array that stands there, whose words have that width
pub record IsWriteFor (net : FlatNet) (roots : List (Option ℕ)) (at : ArraySpan) (wide : ℕ) (w : ArrayWrite) (p : WritePlan) : Type 0 where
  pub signed : Bool
  pub can : IsArrayWrite net.leaves net.nodes signed wide w
  pub clock : p.clock ≡ root_at roots w.clock
  pub condition : p.condition ≡ place net w.condition
  pub address : p.address ≡ place net w.address
  pub span : p.span ≡ at
  pub width : p.width ≡ wide
  pub narrow : wide ≤ 128
  pub given : IsFitTask net w.given wide p.given

abbrev pub IsWritePlan : FlatNet → List (Option ℕ) → WritePlan → WriteOf → Type 0
IsWritePlan net roots p w = IsWriteFor net roots (span_of net w.array) (word_width net.arrays w.array) w.write p
