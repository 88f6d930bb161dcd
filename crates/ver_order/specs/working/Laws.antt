-- A standard simulator may take processes, and the events of an edge, in any order (IEEE 1364-2005, 11.4.2).
-- In a valid tree no order makes a difference: each ends at rest, where each net has one value, and each edge leaves the one next state.
use Rattle.std.specs.Prelude.{◌≡◌, ◌↔◌, ℕ, ◌^◌, ◌<◌, ◌≤◌, max, List, ◌++◌, Some}
use Rattle.fir_base.specs.Lists.{In}
use Rattle.fir_base.specs.Ticks.{Env, Tick, FitEach}
use Rattle.ver_ast.specs.declared.tree.Verilog.{Verilog}
use Rattle.ver_ast.specs.Nets.{nets, variables, shape}
use Rattle.ver_ast.specs.Valid.{Valid}
use Rattle.ver_ast.specs.Stores.{store_of}
use Rattle.ver_ast.specs.Processes.{Process, processes, target, wanted, given}
use Rattle.ver_ast.specs.Settled.{SourcesShown, Rest, VSettled}
use Rattle.ver_ast.specs.Next.{all_puts, state_after, v_next}
use Rattle.ver_order.specs.Steps.{steps}
use Rattle.ver_order.specs.working.Rounds.{IsRound, HasRounds}
use Rattle.ver_order.specs.Rounds.{process_count, SettlesFirstAfter}
use Rattle.ver_order.specs.working.Edges.{EdgeEvent, IsEdgeOrder, state_after_events}

-- from any values of the processes' targets, as many rounds as there are processes end at rest
abbrev pub RoundsEndAtRest : Type 0
RoundsEndAtRest =
    (v : Verilog) → Valid v → (state : List ℕ) (tick : Tick) (env : Env) → SourcesShown v state tick env → (list : List ℕ)
    → HasRounds (process_count v) (process_count v) list → Rest v state tick (steps v (store_of (variables v) state) list env)

-- at rest no step changes a value
abbrev pub StepsKeepRest : Type 0
StepsKeepRest =
    (v : Verilog) (state : List ℕ) (tick : Tick) (env : Env) → Rest v state tick env → (list : List ℕ)
    → steps v (store_of (variables v) state) list env ≡ env

-- steps leave what no process changes as it is, so they may go on from where others ended
abbrev pub StepsKeepSources : Type 0
StepsKeepSources =
    (v : Verilog) → Valid v → (state : List ℕ) (tick : Tick) (env : Env) → SourcesShown v state tick env → (list : List ℕ)
    → SourcesShown v state tick (steps v (store_of (variables v) state) list env)

-- each net has a value of its width
abbrev pub FitNets : Verilog → Env → Type 0
FitNets v env = (n : List ℕ) (w : ℕ) → In (nets v) (n, w) → env n < 2 ^ w

-- and so it does after steps
abbrev pub StepsFit : Type 0
StepsFit =
    (v : Verilog) → Valid v → (state : List ℕ) → FitEach (shape v).state state → (env : Env) → FitNets v env → (list : List ℕ)
    → FitNets v (steps v (store_of (variables v) state) list env)

-- every process shows the value of its right side, where one without a value counts as 0
abbrev pub ShowAll : Verilog → List ℕ → Env → Type 0
ShowAll v state env = (p : Process) → In (processes v) p → env (target p) ≡ given v (store_of (variables v) state) env p

-- that is to be at rest
abbrev pub ShownIsRest : Type 0
ShownIsRest = (v : Verilog) → Valid v → (state : List ℕ) (tick : Tick) (env : Env) → SourcesShown v state tick env → ShowAll v state env ↔ Rest v state tick env

-- every process has a value and shows it
abbrev pub ShowValues : Verilog → List ℕ → Env → Type 0
ShowValues v state env = (p : Process) → In (processes v) p → wanted v (store_of (variables v) state) env p ≡ Some (env (target p))

-- that is to be settled
abbrev pub ShownIsSettled : Type 0
ShownIsSettled =
    (v : Verilog) → Valid v → (state : List ℕ) (tick : Tick) (env : Env) → SourcesShown v state tick env
    → ShowValues v state env ↔ VSettled v state tick env

-- where some values are settled, a round settles after few turns
abbrev pub FewRoundsSettle : Type 0
FewRoundsSettle =
    (v : Verilog) → Valid v → (state : List ℕ) (tick : Tick) (settled : Env) → VSettled v state tick settled → (env : Env) → SourcesShown v state tick env
    → (round : List ℕ) → IsRound (process_count v) round
    → (count : ℕ) × SettlesFirstAfter v state tick round env count × (count ≤ max 1 (process_count v))

-- every order of an edge leaves the state after all writes, which is the next state where there is one
abbrev pub EdgesLeaveNext : Type 0
EdgesLeaveNext =
    (v : Verilog) → Valid v → (state : List ℕ) (tick : Tick) (env : Env) → Rest v state tick env → (first second : List EdgeEvent)
    → IsEdgeOrder v state tick env first second
    → (state_after_events v state env (first ++ second) ≡ state_after v state (all_puts v tick env))
    × ((next : List ℕ) → v_next v state tick env ≡ Some next → state_after_events v state env (first ++ second) ≡ next)

-- and some order is one
abbrev pub HasSomeEdge : Type 0
HasSomeEdge =
    (v : Verilog) → Valid v → (state : List ℕ) (tick : Tick) (env : Env) → Rest v state tick env
    → (first : List EdgeEvent) × (second : List EdgeEvent) × IsEdgeOrder v state tick env first second

-- the next state has the tree's shape
abbrev pub NextHasShape : Type 0
NextHasShape =
    (v : Verilog) → Valid v → (state : List ℕ) (tick : Tick) (env : Env) → Rest v state tick env → (next : List ℕ)
    → v_next v state tick env ≡ Some next → FitEach (shape v).state next
