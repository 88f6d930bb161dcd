-- What a simulator keeps.
use Rattle.std.specs.Prelude.{◌≡◌, ℕ, List, length, map}
use Rattle.fir_base.specs.Lists.{In}
use Rattle.fir_base.specs.Ticks.{FitEach}
use Rattle.ver_ast.specs.declared.tree.Verilog.{Verilog}
use Rattle.ver_ast.specs.Nets.{SizedNet, shape, blocks, plain_regs, input_nets, output_nets, names_of, variables}
use Rattle.ver_ast.specs.Stores.{store_of, stored}
use Rattle.ver_ast.specs.Valid.{Valid}
use Rattle.ver_order.specs.working.Laws.{FitNets}
use Rattle.ver_sim.specs.declared.plan.Plan.{Plan}
use Rattle.ver_sim.specs.working.Valued.{place_among, valued, env_of}
use Rattle.ver_sim.specs.working.Tasks.{AreTasks}
use Rattle.ver_sim.specs.working.Orders.{IsTaskOrder}
use Rattle.ver_sim.specs.working.Blocks.{AreBlockTasks}
use Rattle.ver_sim.specs.ClocksShown.{ClocksShown}
use Rattle.ver_sim.specs.working.Checks.{AreChecks}
use Rattle.ver_sim.specs.working.ShownWords.{AreShown}

-- the plan of a tree
pub record IsPlan (v : Verilog) (p : Plan) : Type 0 where
  pub tasks_are : AreTasks v p.tasks.items
  pub order_is : IsTaskOrder p.tasks.items p.order.items
  pub blocks_are : AreBlockTasks v p.blocks.items (blocks v)
  pub shown_are : AreShown v p.shown.items (plain_regs v)
  pub inputs_are : p.inputs.items ≡ map (place_among (valued v)) (names_of (input_nets v))
  pub outputs_are : p.outputs.items ≡ map (place_among (valued v)) (names_of (output_nets v))
  pub checks_are : AreChecks v p.checks.items v.items

-- values of a tree in a state: each net has one of its width, each clock its number, and a register without an asynchronous block shows its stored word
pub record AreValues (v : Verilog) (values state : List ℕ) : Type 0 where
  pub long : length values ≡ length (valued v)
  pub fit : FitNets v (env_of v values)
  pub clocks_shown : ClocksShown v (env_of v values)
  pub words_shown : (r : SizedNet) → In (plain_regs v) r → env_of v values r.0 ≡ stored (store_of (variables v) state) r.0

-- the outputs of bits, in port order
abbrev pub AreOutputs : Verilog → List ℕ → List ℕ → Type 0
AreOutputs v values outputs = outputs ≡ map (env_of v values) (names_of (output_nets v))

pub record IsRunning (v : Verilog) (p : Plan) (values state : List ℕ) : Type 0 where
  pub valid : Valid v
  pub plan : IsPlan v p
  pub state_fits : FitEach (shape v).state state
  pub held : AreValues v values state
