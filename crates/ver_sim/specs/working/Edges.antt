-- An edge of a simulator, and every order of the events of it.
use Rattle.std.specs.Prelude.{◌≡◌, ℕ, List, ◌++◌}
use Rattle.fir_base.specs.Ticks.{Env, Tick}
use Rattle.ver_ast.specs.declared.tree.Verilog.{Verilog}
use Rattle.ver_ast.specs.Settled.{Rest}
use Rattle.ver_order.specs.working.Edges.{EdgeEvent, IsEdgeOrder, state_after_events}

-- from rest every order of the edge's events leaves this state
abbrev pub EveryOrderLeaves : Verilog → List ℕ → Tick → Env → List ℕ → Type 0
EveryOrderLeaves v state tick env next =
    Rest v state tick env → (first second : List EdgeEvent) → IsEdgeOrder v state tick env first second
    → state_after_events v state env (first ++ second) ≡ next
