-- Items that are told to lack a value.
use Rattle.std.specs.Prelude.{◌≡◌, ℕ, List, Some}
use Rattle.fir_base.specs.Ticks.{Env, Tick}
use Rattle.ver_ast.specs.declared.tree.Verilog.{Verilog}
use Rattle.ver_ast.specs.Nets.{variables}
use Rattle.ver_ast.specs.Settled.{Rest}
use Rattle.ver_ast.specs.Stores.{store_of}
use Rattle.ver_places.specs.ItemPlaces.{item_place}
use Rattle.ver_sim.specs.declared.sim.NoValue.{NoValue}
use Rattle.ver_sim.specs.Lacking.{item_lacks, first_from}

-- the item of that number, counted from 0 in text order
abbrev pub no_value_of : Verilog → ℕ → NoValue
no_value_of v k = record { place = item_place v k }

-- the place of the first item that lacks a value where all is at rest
pub record LacksAtRest (v : Verilog) (state : List ℕ) (tick : Tick) (n : NoValue) : Type 0 where
  pub env : Env
  pub item : ℕ
  pub rest : Rest v state tick env
  pub first : first_from (item_lacks v (store_of (variables v) state) tick.clocks env) 0 v.items ≡ Some item
  pub place_is : n.place ≡ item_place v item
