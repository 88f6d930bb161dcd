-- What is checked of the items of a tree.
use Rattle.std.specs.Prelude.{◌≡◌, ℕ, List, if◌then◌else◌, Some, None, option_map}
use Rattle.std.specs.Option.{option_or}
use Rattle.fir_base.specs.Ticks.{FitEach}
use Rattle.ver_ast.specs.declared.place.VPlace.{VPlace}
use Rattle.ver_ast.specs.declared.tree.Verilog.{Verilog}
use Rattle.ver_ast.specs.declared.tree.Item.{Item}
use Rattle.ver_ast.specs.Nets.{variables, shape}
use Rattle.ver_ast.specs.Stores.{store_of}
use Rattle.ver_places.specs.ItemPlaces.{item_place}
use Rattle.ver_order.specs.working.Laws.{FitNets}
use Rattle.ver_sim.specs.declared.lacking.Check.{Check}
use Rattle.ver_sim.specs.working.Valued.{env_of}
use Rattle.ver_sim.specs.ClocksShown.{ClocksShown}
use Rattle.ver_sim.specs.working.Lacking.{lacking_place}
use Rattle.ver_sim.specs.Lacking.{item_lacks, first_from}

-- values and words that a simulator can have
pub record CanHave (v : Verilog) (state values : List ℕ) : Type 0 where
  pub state_fits : FitEach (shape v).state state
  pub fit : FitNets v (env_of v values)
  pub clocks_shown : ClocksShown v (env_of v values)

-- the checks find the place of the first of these items that lacks a value
pub record AreChecks (v : Verilog) (cs : List Check) (items : List Item) : Type 0 where
  pub find : (state named values : List ℕ) → CanHave v state values
      → lacking_place state named values cs ≡ option_map (item_place v) (first_from (item_lacks v (store_of (variables v) state) named (env_of v values)) 0 items)

-- the new checks find what the old ones do, and behind it this item at that place
pub record ChecksItem (v : Verilog) (place : VPlace) (item : Item) (old new : List Check) : Type 0 where
  pub find : (state named values : List ℕ) → CanHave v state values
      → lacking_place state named values new
      ≡ option_or (lacking_place state named values old) (if item_lacks v (store_of (variables v) state) named (env_of v values) item then Some place else None)
