-- Laws about the lines of a tree on a trace.
use Rattle.std.specs.Prelude.{◌≡◌, ℕ, List, [], ◌∷◌, ◌++◌, codes, decimal, Bool, Option, Some, None}
use Rattle.fir_bits.specs.Values.{BitVector}
use Rattle.fir_base.specs.Ticks.{Env, Tick, TickResult}
use Rattle.trace_text.specs.OutputLines.{line_text}
use Rattle.trace_text.specs.Shapes.{TraceShape}
use Rattle.trace_text.specs.working.Fronts.{Says}
use Rattle.trace_lines.specs.Saying.{BeginsAll, SaysFront, lack_line}
use Rattle.trace_lines.specs.declared.simulation.Lack.{Lack}
use Rattle.ver_ast.specs.declared.tree.Verilog.{Verilog}
use Rattle.ver_ast.specs.Allows.{VAllows, VRun}
use Rattle.ver_ast.specs.Nets.{variables}
use Rattle.ver_ast.specs.Settled.{Rest}
use Rattle.ver_ast.specs.Stores.{store_of}
use Rattle.ver_ast.specs.Valid.{Valid}
use Rattle.ver_sim.specs.Lacking.{first_from, item_lacks}
use Rattle.ver_runner.specs.VerilogLines.{VLacked, VRan}

-- at a tick at which an item lacks a value a tree allows nothing
abbrev pub LacksAllowNothing : Type 0
LacksAllowNothing =
    (v : Verilog) → Valid v → (state : List ℕ) (tick : Tick) (env : Env) → Rest v state tick env → (item : ℕ)
    → first_from (item_lacks v (store_of (variables v) state) tick.clocks env) 0 v.items ≡ Some item
    → (shown : List ℕ) (clocks : List (Option ℕ)) (next : List ℕ) → VAllows v state tick shown clocks next → ⊥

-- so no run goes through all that a trace says where an item lacks a value at one of its ticks
abbrev pub LackedDoesNotRun : Type 0
LackedDoesNotRun =
    (v : Verilog) → Valid v → (order : Option ℕ) (with_state : Bool) (s : TraceShape) (trace : List ℕ) (lack : Lack) (printed : List ℕ)
    → VLacked v order with_state s trace lack printed → (init : List ℕ) (ticks : List Tick) (shown : List TickResult) → Says trace s init ticks
    → VRun v init ticks shown → ⊥

-- the line of an item that lacks a value, and the lines of the ticks before
abbrev pub Lacks : Verilog → Option ℕ → Bool → TraceShape → List ℕ → List ℕ → List ℕ → Type 0
Lacks v order with_state s trace line printed = (lack : Lack) × VLacked v order with_state s trace lack printed × (line ≡ lack_line lack)

-- the lines of the first ticks of a trace begin those of the whole trace, by an order of whatever number, and without one
abbrev pub VFrontsBegin : Type 0
VFrontsBegin =
    (v : Verilog) → Valid v → (order : Option ℕ) (with_state : Bool) (s : TraceShape) (trace printed : List ℕ)
    → VRan v order with_state s (SaysFront trace) printed → BeginsAll (VRan v order with_state s) (Lacks v order with_state s trace) trace printed

-- words, and behind them ` ; ` and a number, or `; ` and the number where there are none
abbrev pub with_count : List ℕ → ℕ → List ℕ
with_count [] count = codes "; " ++ decimal count
with_count (b ∷ bs) count = (b ∷ bs) ++ codes " ; " ++ decimal count

-- two lines are the same, but that the second ends with a number
pub record EndsWithCount (plain counted : List ℕ) (count : ℕ) : Type 0 where
  pub words : List ℕ
  pub plain_is : plain ≡ words ++ codes "\n"
  pub counted_is : counted ≡ with_count words count ++ codes "\n"

-- a line with a number of rounds is the line without it, but for its end
abbrev pub CountsEndLines : Type 0
CountsEndLines =
    (outputs : List BitVector) (state : Option (List BitVector)) (count : ℕ)
    → EndsWithCount (line_text outputs state None) (line_text outputs state (Some count)) count
