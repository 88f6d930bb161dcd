-- The work of a right side.
use Rattle.std.specs.Prelude.{◌≡◌, ℕ, List}
use Rattle.fir_base.specs.Lists.{In}
use Rattle.fir_base.specs.Ticks.{FitEach}
use Rattle.ver_ast.specs.declared.tree.Verilog.{Verilog}
use Rattle.ver_ast.specs.declared.tree.Rhs.{Rhs}
use Rattle.ver_ast.specs.Names.{rhs_names}
use Rattle.ver_ast.specs.Nets.{nets, variables, shape}
use Rattle.ver_ast.specs.SideValues.{rhs_value}
use Rattle.ver_ast.specs.Stores.{store_of}
use Rattle.ver_order.specs.working.Laws.{FitNets}
use Rattle.ver_sim.specs.declared.work.Work.{Work}
use Rattle.ver_sim.specs.working.Valued.{env_of, IsPlaceAmong}
use Rattle.ver_sim.specs.working.Works.{work_number, work_places}

-- it gives the value of the right side beside a target of w bits, and reads no other nets
pub record IsWorkOf (v : Verilog) (work : Work) (w : ℕ) (r : Rhs) : Type 0 where
  pub same : (state values : List ℕ) → FitEach (shape v).state state → FitNets v (env_of v values)
      → work_number work state values ≡ rhs_value (nets v) (store_of (variables v) state) (env_of v values) w r
  pub reads : (q : ℕ) → In (work_places work) q → IsPlaceAmong v (rhs_names r) q
